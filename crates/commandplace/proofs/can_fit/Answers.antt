-- `commandplace::can_fit` meets its contract. Assumes nothing.
use native.Mathlib.Omega.{arith}
use borrow.Author.Rules.{rules}
use Rattle.commandplace.proofs.HexLaws.{fits_upper, fits_lower, fits_again}
use Rattle.commandplace.proofs.can_fit.Goals as goal

-- One digit less.
pub loop-preserved : goal.loop-preserved
loop-preserved c = fits_again _ _ _ _ _ c.loop.invariant _ (omega arith) (omega arith)

-- None is left, and v is not below l.
pub returns-then-l-v : goal.returns-then-l-v
returns-then-l-v c = fits_upper _ _ _ _ _ c.loop.invariant (omega arith) c.if-l-v.true

-- It is below l.
pub returns-else-l-v : goal.returns-else-l-v
returns-else-l-v c = search (rules, fits_lower)
