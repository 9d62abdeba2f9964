-- `seek::can_grow` meets its contract. Assumes nothing.
use borrow.Author.Rules.{rules}
use Rattle.seek.proofs.GrowLaws.{grow_none, grow_found, grow_again}
use Rattle.seek.proofs.can_grow.Goals as goal

-- v lies in l..h.
pub returns-then-l-v : goal.returns-then-l-v
returns-then-l-v c = search (rules, grow_found)

-- It takes a digit more.
pub loop-h-preserved : goal.loop-h-preserved
loop-h-preserved c = search (rules, grow_again)

-- The end is below v.
pub returns : goal.returns
returns c = search (rules, grow_none)
