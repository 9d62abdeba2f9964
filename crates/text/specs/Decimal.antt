-- Numbers are decimal without sign or leading zeros, 0 is `0` (rule R27). How a number is written, and how it is read.
-- A number has no limit here: what is too large is a matter of the field that holds it. Assumes nothing.
use Rattle.std.specs.Prelude.{ℕ, zero, suc, ◌+◌, ◌-◌, ◌*◌, ◌/◌, ◌%◌, Bool, true, false, List, [], ◌∷◌, ◌++◌, ltb, eqb}
use Rattle.kinds.specs.Sizes.{between}
use Rattle.text.specs.Reader.{got, lost, Reader}

-- The byte of the digit 0. The other digits follow it.
abbrev pub zero_digit : ℕ
zero_digit = 48

abbrev pub is_digit : ℕ → Bool
is_digit b = between zero_digit (zero_digit + 9) b

-- ---- writing

-- The digits of x, of which there are at most k.
unfoldable pub digits : ℕ → ℕ → List ℕ
digits zero x = []
digits (suc k) x =
    elim (ltb x 10) [
      | true ↦ (zero_digit + x) ∷ []
      | false ↦ digits k (x / 10) ++ ((zero_digit + x % 10) ∷ [])
    ]

-- The text of x. It has at most x + 1 digits.
unfoldable pub decimal : ℕ → List ℕ
decimal x = digits (suc x) x

-- ---- reading

-- The digits behind the first: v is the value so far.
unfoldable pub more_digits : ℕ → Reader ℕ
more_digits v [] = got v []
more_digits v (b ∷ bs) =
    elim (is_digit b) [
      | true ↦ more_digits (v * 10 + (b - zero_digit)) bs
      | false ↦ got v (b ∷ bs)
    ]

-- A number. After a first digit 0 no digit of the number follows.
unfoldable pub number : Reader ℕ
number [] = lost
number (b ∷ bs) =
    elim (is_digit b) [
      | true ↦ elim (eqb b zero_digit) [ true ↦ got 0 bs | false ↦ more_digits (b - zero_digit) bs ]
      | false ↦ lost
    ]
