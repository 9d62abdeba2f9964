-- `in_hex::write_hex` meets its contract. The loop's invariant: the digits of the first i bytes are written. Assumes nothing.
use Prim.Native.Nat.{◌+◌, ◌*◌, ◌≤◌}
use mathlib.Core.Path.{◌≡◌}
use lib.ListN.{length, take}
use lib.Seq.{sets}
use Rattle.text.specs.Hex.{hex}
use Rattle.in_hex.proofs.write_hex.Given as goal

abbrev pub invariant-loop-i : goal.invariant-loop-i
invariant-loop-i l = (l.at + 2 * length l.bytes ≤ length l.initial.out) × (l.out ≡ sets l.initial.out l.at (hex (take l.i l.bytes)))
