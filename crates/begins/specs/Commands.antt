-- A command's hex digits, number by number, each in the range that its kind fixes: read, and sought. Assumes nothing.
use Rattle.std.specs.Prelude.{ℕ, ◌+◌, ◌-◌, cond, eqb}
use Rattle.kinds.specs.Sizes.{between}
use Rattle.text.specs.Decimal.{zero_digit, is_digit}
use Rattle.text.specs.Hex.{ten_digit}
use Rattle.text.specs.Reader.{Reader, ◌>>=◌, pure}
use Rattle.command.specs.Command.{Command, gain_most}
use Rattle.command.specs.Words.{signed}
use Rattle.message.specs.Range.{Range, up_to, from_to}
use Rattle.begins.specs.Seek.{Seeker}
use Rattle.begins.specs.Digits.{fixed_in, seek_fixed}

-- The value of a hex digit; 16 for a byte that is none.
unfoldable pub digit_of : ℕ → ℕ
digit_of c = cond (is_digit c) (c - zero_digit) (cond (between ten_digit (ten_digit + 5) c) (10 + (c - ten_digit)) 16)

-- So many hex digits of a number of a range.
unfoldable pub hex_in : ℕ → Range → Reader ℕ
hex_in k r = fixed_in digit_of 16 k r.lo r.hi 0

unfoldable pub seek_hex : ℕ → Range → Seeker ℕ
seek_hex k r = seek_fixed digit_of 16 k r.lo r.hi 0

-- ---- the ranges of a command's numbers; those behind the kind depend on it

abbrev pub motor_range : Range
motor_range = from_to 1 64

abbrev pub kind_range : Range
kind_range = up_to 2

unfoldable pub duration_range : ℕ → Range
duration_range kind = from_to (cond (eqb kind 0) 0 1) (cond (eqb kind 0) 0 600_000)

unfoldable pub a_range : ℕ → Range
a_range kind = up_to (cond (eqb kind 0) 0 gain_most)

unfoldable pub b_range : ℕ → Range
b_range kind = up_to (cond (eqb kind 2) gain_most 0)

-- ---- a legal command

abbrev pub made : ℕ → ℕ → ℕ → ℕ → ℕ → Command
made motor kind duration a b = record { motor = motor; kind = kind; duration = signed duration; a = a; b = b }

unfoldable pub command_in : Reader Command
command_in = do
  motor ← hex_in 4 motor_range
  kind ← hex_in 4 kind_range
  duration ← hex_in 8 (duration_range kind)
  a ← hex_in 8 (a_range kind)
  b ← hex_in 8 (b_range kind)
  pure (made motor kind duration a b)
