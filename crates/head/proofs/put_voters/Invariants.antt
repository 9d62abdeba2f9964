-- `head::put_voters` meets its contract. The loop's invariant: the voters before `i` are written. Assumes nothing.
use mathlib.Core.Path.{◌≡◌}
use lib.ListN.{take}
use lib.Seq.{sets}
use Rattle.rows.specs.Rows.{bytes_of}
use Rattle.state.proofs.HeadLaws.{flag_bytes}
use Rattle.head.proofs.put_voters.Given as goal

abbrev pub invariant-loop-i : goal.invariant-loop-i
invariant-loop-i l = l.s ≡ sets l.initial.s l.at (bytes_of flag_bytes (take l.i l.v-items))
