-- `seek::can_grow` meets its contract. The loop's invariant: a number of lo..hi begins with the digits of v exactly if one of l..h does. The measure
-- is h. Assumes nothing.
use Prim.Native.Nat.{◌≤◌}
use mathlib.Core.Path.{◌≡◌}
use Rattle.begins.specs.Digits.{grows}
use Rattle.seek.proofs.can_grow.Given as goal

abbrev pub invariant-loop-h : goal.invariant-loop-h
invariant-loop-h l = (1 ≤ l.v) × (grows l.fn.range.hi l.fn.range.lo l.fn.range.hi l.v ≡ grows l.h l.l l.h l.v)

abbrev pub decreases-loop-h : goal.decreases-loop-h
decreases-loop-h l = l.h
