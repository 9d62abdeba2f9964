-- `rows::renumber` meets its contract. The loop's invariant: the rows from the i-th on still take their number. Assumes nothing.
use Prim.Native.Nat.{◌+◌, ◌-◌, ◌*◌}
use mathlib.Core.Path.{◌≡◌}
use Rattle.kinds.specs.Sizes.{row_size}
use Rattle.rows.specs.Words.{renumbered}
use Rattle.rows.proofs.renumber.Given as goal

abbrev pub invariant-loop-i : goal.invariant-loop-i
invariant-loop-i l = renumbered l.initial.s l.from l.n l.t.0 ≡ renumbered l.s (l.from + l.i * row_size) (l.n - l.i) l.t.0
