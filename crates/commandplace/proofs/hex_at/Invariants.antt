-- `commandplace::hex_at` meets its contract. The loop's invariant: what is sought of `many` digits at `at` is what is sought of those behind the first i, which
-- make `value`, at most the range's end. Assumes nothing.
use Prim.Native.Nat.{◌+◌, ◌-◌, ◌≤◌}
use mathlib.Core.Path.{◌≡◌}
use lib.ListN.{length, drop}
use Rattle.begins.specs.Commands.{digit_of, seek_hex}
use Rattle.begins.specs.Digits.{seek_fixed}
use Rattle.commandplace.specs.Passed.{range_is}
use Rattle.commandplace.proofs.hex_at.Given as goal

abbrev pub invariant-loop-i : goal.invariant-loop-i
invariant-loop-i l =
    (l.at + l.i ≤ length l.s)
    × (l.value ≤ l.range.hi)
    × (seek_hex l.many (range_is l.range) (drop l.at l.s)
    ≡ seek_fixed digit_of 16 (l.many - l.i) l.range.lo l.range.hi l.value (drop (l.at + l.i) l.s))
