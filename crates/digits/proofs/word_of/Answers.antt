-- `digits::word_of` meets its contract: no sum leaves its word, since what is left by a mask does not; and digits come out as the number whose they are.
-- Assumes nothing.
use mathlib.Core.Path.{ap, ◌∙◌}
use native.Mathlib.Omega.{arith}
use lib.Bits.{and_le_r}
use borrow.Author.Rules.{rules}
use Rattle.digits.proofs.JoinLaws.{values, pairs, fours, whole, pairs_below, fours_below, joined}
use Rattle.digits.proofs.word_of.Goals as goal

-- The letters, and nine for each.
pub overflow_mul-v : goal.overflow_mul-v
overflow_mul-v c = omega (arith, and_le_r c.args.x 0x4040_4040_4040_4040)

-- The values.
pub overflow_add-v : goal.overflow_add-v
overflow_add-v c = omega (arith, and_le_r c.args.x 0x0f0f_0f0f_0f0f_0f0f, and_le_r c.args.x 0x4040_4040_4040_4040)

-- The values and their sixteenth.
pub overflow_add-p : goal.overflow_add-p
overflow_add-p c = omega (arith, and_le_r c.args.x 0x0f0f_0f0f_0f0f_0f0f, and_le_r c.args.x 0x4040_4040_4040_4040)

-- The pairs and their 256th.
pub overflow_add-q : goal.overflow_add-q
overflow_add-q c = search (rules, pairs_below)

-- The fours and their 65,536th.
pub overflow_add-result : goal.overflow_add-result
overflow_add-result c = search (rules, fours_below)

-- The word.
pub returns : goal.returns
returns c w small e = ap (λ x. whole (fours (pairs (values x)))) e ∙ joined w small
