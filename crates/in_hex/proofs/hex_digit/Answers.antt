-- `in_hex::hex_digit` meets its contract: the two cases of `hex_digit`. Assumes nothing.
use borrow.Author.Rules.{rules}
use Rattle.text.proofs.HexLaws.{digit_low, digit_high}
use mathlib.Core.Path.{sym}
use Rattle.in_hex.proofs.hex_digit.Goals as goal

-- A value below ten.
pub returns-then-v-lt10 : goal.returns-then-v-lt10
returns-then-v-lt10 c = sym (digit_low _ (search rules))

-- A value from ten on.
pub returns-else-v-lt10 : goal.returns-else-v-lt10
returns-else-v-lt10 c = sym (digit_high _ (search rules))
