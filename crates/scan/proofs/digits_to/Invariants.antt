-- `scan::digits_to` meets its contract. The loop's invariant: the digits from `at` on make of `first` the number that those from `next` on make of
-- `value`, which is at most hi. Assumes nothing.
use Prim.Native.Nat.{◌≤◌}
use mathlib.Core.Path.{◌≡◌}
use lib.ListN.{drop}
use Rattle.text.specs.Decimal.{more_digits}
use Rattle.scan.proofs.digits_to.Given as goal

abbrev pub invariant-loop-next : goal.invariant-loop-next
invariant-loop-next l = (l.value ≤ l.hi) × (more_digits l.first (drop l.at l.s) ≡ more_digits l.value (drop l.next l.s))
