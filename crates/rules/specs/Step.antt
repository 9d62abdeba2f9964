-- One call of the step: all that comes in, all that goes out, and what the one makes of the other. The refusals stand in the order of rule R32.
-- Assumes nothing.
use Rattle.std.specs.Prelude.{ℕ, cond, ◌&&◌, List, [], ◌++◌, ltb, eqb, length, drop}
use Rattle.std.proofs.Math.Option.{Option, none, some}
use Rattle.kinds.specs.Sizes.{Who, is_size, is_hub, text_room}
use Rattle.command.specs.Proposal.{read_proposal}
use Rattle.message.specs.Message.{Message}
use Rattle.message.specs.Text.{text, read}
use Rattle.state.specs.State.{Kept, State}
use Rattle.state.specs.Image.{image, read_state, read_kept}
use Rattle.rules.specs.Outcome.{Next, done, not_known, bad_state, short_output, bad_message}
use Rattle.rules.specs.Events.{start, propose, send, restart}
use Rattle.rules.specs.Receive.{receive}
use Rattle.kinds.specs.Event.{start_number, propose_number, send_number, restart_number, receive_number}

-- ---- what comes in, and what goes out

-- The event's number; the numbers a and b of the event (send: peer and prev); the lent state; the input (propose: the command's bytes;
-- receive: the message's text); the lent output. What an event does not use is not looked at.
pub record Call : Type 0 where
  pub who : Who
  pub event : ℕ
  pub a : ℕ
  pub b : ℕ
  pub state : List ℕ
  pub input : List ℕ
  pub output : List ℕ

-- The outcome, how many bytes of message were written, and the lent bytes as they are left.
pub record Answer : Type 0 where
  pub outcome : ℕ
  pub wrote : ℕ
  pub state : List ℕ
  pub output : List ℕ

-- ---- the events, in the order of rules R17 to R21

pub data Event : Type 0 where
  start_event : Event
  propose_event : Event
  send_event : Event
  restart_event : Event
  receive_event : Event

-- The numbers of the events.
unfoldable pub event_of : ℕ → Option Event
event_of n =
    cond (eqb n start_number) (some start_event)
    (cond (eqb n propose_number) (some propose_event)
    (cond (eqb n send_number) (some send_event)
    (cond (eqb n restart_number) (some restart_event) (cond (eqb n receive_number) (some receive_event) none))))

-- ---- answers

-- A refusal leaves the state and every lent byte as they were.
unfoldable pub refusal : Call → ℕ → Answer
refusal c k = record { outcome = k; wrote = 0; state = c.state; output = c.output }

-- Output bytes past a message, and all of them without one, stay.
unfoldable pub over : List ℕ → List ℕ → List ℕ
over message output = message ++ drop (length message) output

-- The bytes of a message; none without one.
unfoldable pub written : Option Message → List ℕ
written none = []
written (some m) = text m

-- All but 0 leave the state.
unfoldable pub answer : Call → Next → Answer
answer c n =
    let t = written n.message in
    record {
      outcome = n.outcome;
      wrote = length t;
      state = cond (eqb n.outcome done) (image n.state) c.state;
      output = over t c.output;
    }

-- ---- the call

-- Receive, once the text is read.
unfoldable pub receiving : Call → State → Option Message → Answer
receiving c s none = refusal c bad_message
receiving c s (some m) = answer c (receive c.who s m)

-- An event at a legal state.
unfoldable pub acting : Call → Event → State → Answer
acting c start_event s = answer c (start c.who s)
acting c propose_event s = answer c (propose c.who s (read_proposal c.input))
acting c send_event s = answer c (send c.who s c.a c.b)
acting c restart_event s = answer c (restart s.kept)
acting c receive_event s = receiving c s (read c.input)

-- What the event needs to see of the state: restart checks and sees the kept parts alone.
unfoldable pub kept_alone : Option Kept → Option State
kept_alone none = none
kept_alone (some k) = some (restart k).state

unfoldable pub seen_by : Who → Event → List ℕ → Option State
seen_by w start_event l = read_state w l
seen_by w propose_event l = read_state w l
seen_by w send_event l = read_state w l
seen_by w restart_event l = kept_alone (read_kept l)
seen_by w receive_event l = read_state w l

-- Outcomes 2 and 3, then the event.
unfoldable pub at_state : Call → Event → Option State → Answer
at_state c e none = refusal c bad_state
at_state c e (some s) = cond (ltb (length c.output) text_room) (refusal c short_output) (acting c e s)

-- Outcome 1, then the rest.
unfoldable pub at_event : Call → Option Event → Answer
at_event c none = refusal c not_known
at_event c (some e) =
    cond (is_size c.who.size && is_hub c.who.size c.who.own) (at_state c e (seen_by c.who e c.state))
    (refusal c not_known)

-- The step.
unfoldable pub step_of : Call → Answer
step_of c = at_event c (event_of c.event)
