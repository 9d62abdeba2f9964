-- `seek::literal_place` meets its contract: either place of the answer is where the literal ends. Assumes nothing.
use borrow.Author.Rules.{rules}
use Rattle.seek.proofs.SoughtLaws.{text_ends}
use Rattle.seek.proofs.literal_place.Goals as goal

-- Either.
pub returns : goal.returns
returns c = search (rules, text_ends)
