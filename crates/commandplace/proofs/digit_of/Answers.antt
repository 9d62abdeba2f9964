-- `commandplace::digit_of` meets its contract: each arm is one case of `digit_of`. Assumes nothing.
use native.Mathlib.Omega.{arith}
use borrow.Author.Rules.{rules}
use Rattle.commandplace.proofs.HexLaws.{digit_small, digit_great, digit_none}
use Rattle.commandplace.proofs.digit_of.Goals as goal

-- 0 to 9.
pub returns-in-48-to-57 : goal.returns-in-48-to-57
returns-in-48-to-57 c = (omega arith, search (rules, digit_small))

-- a to f.
pub returns-in-97-to-102 : goal.returns-in-97-to-102
returns-in-97-to-102 c = (omega arith, search (rules, digit_great))

-- Any other byte: below 0, between 9 and a, above f.
pub returns-in_default : goal.returns-in_default
returns-in_default c = search (rules, digit_none)

pub returns-in_default-2 : goal.returns-in_default-2
returns-in_default-2 c = search (rules, digit_none)

pub returns-in_default-3 : goal.returns-in_default-3
returns-in_default-3 c = search (rules, digit_none)
