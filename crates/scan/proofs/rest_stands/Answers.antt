-- `scan::rest_stands` meets its contract. Assumes nothing.
use borrow.Author.Rules.{rules}
use Rattle.text.proofs.FoundLaws.{literal_done, literal_wrong, literal_again}
use Rattle.scan.proofs.rest_stands.Goals as goal

-- Another byte stands there.
pub returns-then-s-next : goal.returns-then-s-next
returns-then-s-next c = search (rules, literal_wrong)

-- The right byte stands there.
pub loop-j-preserved : goal.loop-j-preserved
loop-j-preserved c = search (rules, literal_again)

-- All of it stands there.
pub returns : goal.returns
returns c = search (rules, literal_done)
