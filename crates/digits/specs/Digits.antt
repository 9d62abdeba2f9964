-- Hex digits by their bytes: which bytes are digits, the number that the digits of a number make when each is taken for its byte, and whether digits
-- are those of a legal command. Assumes nothing.
use Rattle.std.specs.Prelude.{ℕ, ◌+◌, Bool, true, false, ◌&&◌, ◌||◌, List, [], ◌∷◌}
use Rattle.kinds.specs.Sizes.{between}
use Rattle.text.specs.Reader.{got, lost}
use Rattle.text.specs.Decimal.{is_digit}
use Rattle.text.specs.Hex.{ten_digit, hex, hex_bytes}
use Rattle.command.specs.Words.{word, value}
use Rattle.command.specs.Command.{legal_command, command_size, command_of}

-- Whether a byte is a hex digit.
unfoldable pub is_hex_digit : ℕ → Bool
is_hex_digit b = is_digit b || between ten_digit (ten_digit + 5) b

-- Whether all of these bytes are.
unfoldable pub all_digits : List ℕ → Bool
all_digits [] = true
all_digits (b ∷ bs) = is_hex_digit b && all_digits bs

-- The digits of the n bytes of x as one number, in which each digit is a byte, the first the highest.
unfoldable pub in_digits : ℕ → ℕ → ℕ
in_digits n x = value 0 (hex (word n x))

-- How many digits a command has: two for each byte.
abbrev pub digits_size : ℕ
digits_size = 32

-- Whether the digits of a legal command stand at the start of a text.
unfoldable pub legal_digits : List ℕ → Bool
legal_digits s = elim (hex_bytes command_size s) [ got bytes rest ↦ legal_command (command_of bytes) | lost ↦ false ]
