-- `seek::more_at` meets its contract. The loop's invariant: what is sought at `at` behind the digits of `first` is what is sought at `place` behind those
-- of `value`, which is 1 or more and at most the range's end. Assumes nothing.
use Prim.Native.Nat.{◌≤◌}
use mathlib.Core.Path.{◌≡◌}
use lib.ListN.{drop}
use Rattle.begins.specs.Digits.{seek_more}
use Rattle.seek.proofs.more_at.Given as goal

abbrev pub invariant-loop-place : goal.invariant-loop-place
invariant-loop-place l =
    (1 ≤ l.value)
    × (l.value ≤ l.range.hi)
    × (seek_more l.range.lo l.range.hi l.end l.first (drop l.at l.s) ≡ seek_more l.range.lo l.range.hi l.end l.value (drop l.place l.s))
