-- `fill::put_entries` meets its contract. The loop's invariant: the entries that are left still go into the rows behind the first ones. Assumes nothing.
use Prim.Native.Nat.{◌+◌, ◌*◌, ◌≤◌}
use mathlib.Core.Path.{◌≡◌}
use lib.ListN.{length}
use lib.Seq.{sets}
use Rattle.std.specs.Iterator.Adapters.{enumerate_source, enumerate_count}
use Rattle.kinds.specs.Sizes.{row_size}
use Rattle.rows.specs.Rows.{bytes_of}
use Rattle.state.specs.Image.{log_row}
use Rattle.fill.proofs.put_entries.Given as goal

abbrev pub invariant-loop-i : goal.invariant-loop-i
invariant-loop-i l =
    let n = enumerate_count l.i-iterator in
    let left = enumerate_source l.i-iterator in
    (l.row + (n + length left) * row_size ≤ length l.state)
    × (length l.state ≡ length l.initial.state)
    × (sets l.initial.state l.row (bytes_of log_row l.fn.entries) ≡ sets l.state (l.row + n * row_size) (bytes_of log_row left))
