-- `pairs::gather_in` meets its contract. The loop's invariant: the whole answer is what gathering the entries that are left comes to, in the rows behind
-- the first ones. Assumes nothing.
use Prim.Native.Nat.{◌+◌, ◌-◌, ◌*◌, ◌≤◌}
use mathlib.Core.Path.{◌≡◌}
use lib.ListN.{length}
use Rattle.std.specs.Iterator.Adapters.{enumerate_source, enumerate_count}
use Rattle.kinds.specs.Sizes.{row_size}
use Rattle.pairs.specs.Gather.{gathered_into}
use Rattle.pairs.proofs.gather_in.Given as goal

abbrev pub invariant-loop-i : goal.invariant-loop-i
invariant-loop-i l =
    let n = enumerate_count l.i-iterator in
    let left = enumerate_source l.i-iterator in
    (l.first + (n + length left) * row_size ≤ length l.state)
    × (length l.state ≡ length l.initial.state)
    × (gathered_into l.initial.state l.first l.held l.ballot.0 l.fn.entries ≡ gathered_into l.state (l.first + n * row_size) (l.held - n) l.ballot.0 left)
