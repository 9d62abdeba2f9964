-- `commandplace::can_fit` meets its contract. The loop's invariant: v with `many` digits more lies in the range exactly if v with what is left of them lies in
-- l..h. Assumes nothing.
use Prim.Native.Nat.{◌-◌}
use mathlib.Core.Path.{◌≡◌}
use Rattle.begins.specs.Digits.{fits}
use Rattle.commandplace.proofs.can_fit.Given as goal

abbrev pub invariant-loop : goal.invariant-loop
invariant-loop l = fits 16 l.many l.fn.range.lo l.fn.range.hi l.v ≡ fits 16 (l.many - l.counter) l.l l.h l.v
