-- `legal::is_zero` meets its contract. The loop's invariant: the rows are zero exactly if what is passed is, and what is left of each quarter.
-- Assumes nothing.
use Prim.Native.Nat.{◌*◌}
use mathlib.Core.Path.{◌≡◌}
use mathlib.Core.Bool.{◌&&◌}
use Rattle.kinds.specs.Sizes.{row_size}
use Rattle.command.specs.Words.{part}
use Rattle.state.specs.Check.{zeros}
use Rattle.legal.proofs.CheckSteps.{quarters}
use Rattle.legal.proofs.is_zero.Given as goal

abbrev pub invariant-loop-i : goal.invariant-loop-i
invariant-loop-i l = zeros (part l.from (l.rows * row_size) l.s) ≡ (l.clean && quarters l.s l.from l.quarter l.i)
