-- `seek::zero_at` meets its contract: the byte is sought as a literal is. Assumes nothing.
use borrow.Author.Rules.{rules}
use Rattle.seek.proofs.SoughtLaws.{number_err}
use Rattle.seek.proofs.NumberLaws.{end_wrong, end_right}
use Rattle.seek.proofs.zero_at.Goals as goal

-- The text ends, or another byte stands there.
pub returns-in_err-next : goal.returns-in_err-next
returns-in_err-next c = search (rules, number_err, end_wrong)

-- The right byte stands there.
pub returns : goal.returns
returns c = search (rules, end_right)
