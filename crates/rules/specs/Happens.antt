-- An event at the level of values: what the step does once the state and the message are read. Assumes nothing.
use Rattle.std.specs.Prelude.{ℕ, ◌≡◌, Bool, true, ◌&&◌, List}
use Rattle.std.proofs.Math.Option.{Option, none, some}
use Rattle.kinds.specs.Sizes.{Who, is_size, is_hub}
use Rattle.command.specs.Proposal.{read_proposal}
use Rattle.message.specs.Message.{Message}
use Rattle.message.specs.Legal.{legal_message}
use Rattle.message.specs.Text.{read}
use Rattle.state.specs.State.{State}
use Rattle.state.specs.Legal.{legal_kept, legal_state}
use Rattle.rules.specs.Outcome.{Next}
use Rattle.rules.specs.Events.{start, propose, send, restart}
use Rattle.rules.specs.Receive.{receive}
use Rattle.rules.specs.Step.{Call, Event, start_event, propose_event, send_event, restart_event, receive_event}

-- An event with what comes in with it.
pub data Occasion : Type 0 where
  to_start : Occasion
  to_propose : List ℕ → Occasion  -- the command's bytes, legal or not
  to_send : ℕ → ℕ → Occasion  -- peer, prev
  to_restart : Occasion
  to_receive : Message → Occasion

-- What it comes to.
unfoldable pub happens : Who → State → Occasion → Next
happens w s to_start = start w s
happens w s (to_propose bytes) = propose w s (read_proposal bytes)
happens w s (to_send peer prev) = send w s peer prev
happens w s to_restart = restart s.kept
happens w s (to_receive m) = receive w s m

-- What is legal where an event is met: the state, a message too; of a restart, the kept parts alone.
unfoldable pub legal_at : Who → State → Occasion → Bool
legal_at w s to_start = legal_state w s
legal_at w s (to_propose bytes) = legal_state w s
legal_at w s (to_send peer prev) = legal_state w s
legal_at w s to_restart = legal_kept s.kept
legal_at w s (to_receive m) = legal_state w s && legal_message m

-- A message that was read, or none.
unfoldable pub received : Option Message → Option Occasion
received none = none
received (some m) = some (to_receive m)

-- The event of a call with what comes in with it; none for a text that is no message.
unfoldable pub occasion_of : Call → Event → Option Occasion
occasion_of c start_event = some to_start
occasion_of c propose_event = some (to_propose c.input)
occasion_of c send_event = some (to_send c.a c.b)
occasion_of c restart_event = some to_restart
occasion_of c receive_event = received (read c.input)

-- A hub meets an event: the step has checked this much before.
pub record Meets (w : Who) (s : State) (o : Occasion) : Type 0 where
  pub size : is_size w.size ≡ true
  pub own : is_hub w.size w.own ≡ true
  pub legal : legal_at w s o ≡ true
