-- `legal::is_rest_zero` meets its contract: the rows that are left are all that is left of the bytes. Assumes nothing.
use mathlib.Core.Path.{◌∙◌}
use native.Mathlib.Omega.{arith}
use Rattle.state.specs.Image.{state_size}
use Rattle.legal.proofs.CheckSteps.{rest_zeros}
use Rattle.legal.proofs.is_rest_zero.Goals as goal

-- As many rows are there.
pub is_zero-requires : goal.is_zero-requires
unfolding state_size
is_zero-requires c = omega (arith, c.requires.0, c.requires.1, rw c.from.ensures at c.row_after-from.ensures, c.places.ensures)

-- They decide.
pub returns : goal.returns
returns c =
    c.is_zero.ensures
    ∙ rest_zeros c.args.s.now c.args.rows _ _ (rw c.from.ensures at c.row_after-from.ensures) c.places.ensures c.requires.0 c.requires.1
