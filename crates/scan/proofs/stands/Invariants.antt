-- `scan::stands` meets its contract. The loop's invariant: the literal stands at `at` exactly if what is left of it stands at i, and there is
-- room for it. The measure is what is left of the literal. Assumes nothing.
use Prim.Native.Nat.{◌+◌, ◌-◌, ◌≤◌}
use mathlib.Core.Path.{◌≡◌}
use lib.ListN.{length, drop}
use Rattle.text.specs.Reader.{literal}
use Rattle.scan.proofs.stands.Given as goal

abbrev pub invariant-loop-j : goal.invariant-loop-j
invariant-loop-j l =
    (l.j ≤ length l.key)
    × (l.i + (length l.key - l.j) ≤ length l.s)
    × (literal l.key (drop l.at l.s) ≡ literal (drop l.j l.key) (drop l.i l.s))

abbrev pub decreases-loop-j : goal.decreases-loop-j
decreases-loop-j l = length l.key - l.j
