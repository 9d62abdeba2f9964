-- `scan::rest_stands` meets its contract. The loop's invariant: what is left of the literal stands at `at` exactly if what is left of that stands at
-- `next`, and there is room for it. Assumes nothing.
use Prim.Native.Nat.{◌+◌, ◌-◌, ◌≤◌}
use mathlib.Core.Path.{◌≡◌}
use lib.ListN.{length, drop}
use Rattle.text.specs.Reader.{literal}
use Rattle.scan.proofs.rest_stands.Given as goal

abbrev pub invariant-loop-j : goal.invariant-loop-j
invariant-loop-j l =
    (l.next + (length l.key - l.j) ≤ length l.s) × (literal (drop l.from l.key) (drop l.at l.s) ≡ literal (drop l.j l.key) (drop l.next l.s))
