-- The events of a hub (rules R17 to R21): their numbers, and the event of a number. Assumes nothing.
use Rattle.std.specs.Prelude.{ℕ, cond, eqb, Result, Ok, Err}
use Rattle.kinds.specs.declared.Event.{Event}
use Rattle.kinds.specs.declared.Event.TheVariants.{Start, Propose, Send, Restart, Receive}
use Rattle.kinds.specs.declared.Refusal.{Refusal}
use Rattle.kinds.specs.declared.Refusal.TheVariants.{NotKnown}

abbrev pub start_number : ℕ
start_number = 1

abbrev pub propose_number : ℕ
propose_number = 2

abbrev pub send_number : ℕ
send_number = 3

abbrev pub restart_number : ℕ
restart_number = 4

abbrev pub receive_number : ℕ
receive_number = 5

-- The event of a number, if it is one of the five.
unfoldable pub event_with : ℕ → Result Event Refusal
event_with n =
    cond (eqb n start_number) (Ok Start)
    (cond (eqb n propose_number) (Ok Propose)
    (cond (eqb n send_number) (Ok Send) (cond (eqb n restart_number) (Ok Restart) (cond (eqb n receive_number) (Ok Receive) (Err NotKnown)))))
