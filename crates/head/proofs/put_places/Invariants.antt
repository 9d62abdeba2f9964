-- `head::put_places` meets its contract. The loop's invariant: the places before `i` are written. Assumes nothing.
use mathlib.Core.Path.{◌≡◌}
use lib.ListN.{take}
use lib.Seq.{sets}
use Rattle.rows.specs.Rows.{bytes_of}
use Rattle.state.specs.Head.{place_bytes}
use Rattle.head.proofs.put_places.Given as goal

abbrev pub invariant-loop-i : goal.invariant-loop-i
invariant-loop-i l = l.s ≡ sets l.initial.s l.at (bytes_of place_bytes (take l.i l.p-items))
