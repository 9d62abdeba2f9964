-- `scan::number_in` meets its contract: each `return` is one case of `number_in`, from what `number_to` found. Assumes nothing.
use borrow.Author.Rules.{rules}
use Rattle.text.proofs.CaseLaws.{number_lost}
use Rattle.text.proofs.FoundLaws.{in_none, in_below, in_end, in_other, in_right}
use Rattle.scan.proofs.number_in.Goals as goal

-- No number, or one above the range.
pub returns-in_err-number : goal.returns-in_err-number
returns-in_err-number c = search (rules, number_lost, in_none)

-- A number below the range.
pub returns-then-number-range : goal.returns-then-number-range
returns-then-number-range c = search (rules, in_below)

-- The text ends behind the number.
pub returns-in_err-get : goal.returns-in_err-get
returns-in_err-get c = search (rules, number_lost, in_end)

-- Another byte stands there.
pub returns-then-branch-end : goal.returns-then-branch-end
returns-then-branch-end c = search (rules, in_other)

-- The right byte stands there.
pub returns : goal.returns
returns c = search (rules, in_right)
