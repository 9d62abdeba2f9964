-- Bytes as lower-case hex digits, two for each byte: how they are written, and how they are read. Assumes nothing.
use Rattle.std.specs.Prelude.{ℕ, zero, suc, ◌+◌, ◌-◌, ◌*◌, ◌/◌, ◌%◌, true, false, List, [], ◌∷◌, ltb}
use Rattle.kinds.specs.Sizes.{between}
use Rattle.text.specs.Decimal.{zero_digit, is_digit}
use Rattle.text.specs.Reader.{got, lost, Reader, ◌>>=◌, pure}

-- The byte of the digit a, which stands for ten. The others follow it, to f.
abbrev pub ten_digit : ℕ
ten_digit = 97

-- ---- writing

-- The digit of a value below 16.
unfoldable pub hex_digit : ℕ → ℕ
hex_digit v = elim (ltb v 10) [ true ↦ zero_digit + v | false ↦ ten_digit + (v - 10) ]

-- The digits of these bytes.
unfoldable pub hex : List ℕ → List ℕ
hex [] = []
hex (b ∷ bs) = hex_digit (b / 16) ∷ hex_digit (b % 16) ∷ hex bs

-- ---- reading

-- One digit's value.
unfoldable pub nibble : Reader ℕ
nibble [] = lost
nibble (b ∷ bs) =
    elim (is_digit b) [
      | true ↦ got (b - zero_digit) bs
      | false ↦ elim (between ten_digit (ten_digit + 5) b) [ true ↦ got (10 + (b - ten_digit)) bs | false ↦ lost ]
    ]

-- The byte of two digits.
unfoldable pub hex_byte : Reader ℕ
hex_byte = do
  high ← nibble
  low ← nibble
  pure (high * 16 + low)

-- The bytes of 2 * n digits.
unfoldable pub hex_bytes : ℕ → Reader (List ℕ)
hex_bytes zero = pure []
hex_bytes (suc n) = do
  b ← hex_byte
  bs ← hex_bytes n
  pure (b ∷ bs)
