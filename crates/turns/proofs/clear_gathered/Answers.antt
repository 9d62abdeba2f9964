-- `turns::clear_gathered` meets its contract: as many rows as are gathered, from the log's end on. Assumes nothing.
use Prim.Native.Nat.{◌+◌, ◌-◌, ◌*◌}
use mathlib.Core.Path.{◌≡◌, ◌∙◌}
use native.Mathlib.Omega.{arith}
use Rattle.state.specs.Image.{state_size}
use Rattle.kinds.specs.Sizes.{row_size}
use Rattle.turns.proofs.clear_gathered.Goals as goal

-- The rows lie within the table.
pub clear-requires : goal.clear-requires
unfolding state_size
clear-requires c = (omega arith, omega arith)

-- As many bytes as the rows have.
pub returns : goal.returns
returns c =
    let rows = c.from-rows.result in
    let from = c.row_after-from.result in
    let many : from + rows * row_size - from ≡ rows * row_size = omega arith in
    c.clear.ensures ∙ rw (many, c.from-rows.ensures, c.row_after-from.ensures)
