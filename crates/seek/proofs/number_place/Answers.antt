-- `seek::number_place` meets its contract: either place of the answer is where the number ends. Assumes nothing.
use borrow.Author.Rules.{rules}
use Rattle.seek.proofs.SoughtLaws.{number_ends}
use Rattle.seek.proofs.number_place.Goals as goal

-- Either.
pub returns : goal.returns
returns c = search (rules, number_ends)
