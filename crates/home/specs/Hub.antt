-- The hub, as an engine: what a call brings, what comes of it by the very definition of the step that the exported function's promise
-- cites (`step_of`), which bytes are fresh and which are kept, what a hub reports, and how the machine sees it. It proposes nothing of
-- itself. Assumes nothing.
use Rattle.std.specs.Prelude.{ℕ, ◌≡◌, Bool, true, false, List, eqb, take}
use Rattle.std.proofs.Math.Option.{Option, none, some}
use Rattle.kinds.specs.Sizes.{Group, hub_of}
use Rattle.command.specs.Command.{Command}
use Rattle.command.specs.Proposal.{read_proposal}
use Rattle.message.specs.Message.{Message}
use Rattle.message.specs.Text.{read}
use Rattle.state.specs.State.{State, fresh}
use Rattle.state.specs.Image.{image, read_kept, reported_in}
use Rattle.rules.specs.Outcome.{done}
use Rattle.rules.specs.Step.{Call, Event, start_event, propose_event, send_event, restart_event, receive_event, event_of, step_of}
use Rattle.rules.specs.Happens.{Occasion, to_start, to_propose, to_send, to_restart, to_receive, happens}
use Rattle.engine.specs.Engine.{Engine}
use Rattle.engine.specs.Home as homes
use Rattle.engine.specs.Rules.{Rules}
use Rattle.engine.specs.Written.{Writing}
use Rattle.home.specs.View.{view_in}

-- ---- on bytes

-- Something that a hub is called for: the hub, the event's number, its two numbers, the bytes of its state, the input and the lent output.
pub record Deed : Type 0 where
  pub hub : ℕ
  pub event : ℕ
  pub a : ℕ
  pub b : ℕ
  pub state : List ℕ
  pub input : List ℕ
  pub output : List ℕ

-- The call.
unfoldable pub call_for : Group → Deed → Call
call_for G d =
    record {
      who = hub_of G d.hub;
      event = d.event;
      a = d.a;
      b = d.b;
      state = d.state;
      input = d.input;
      output = d.output;
    }

-- Whether the event is a restart.
unfoldable pub is_restart : Option Event → Bool
is_restart none = false
is_restart (some start_event) = false
is_restart (some propose_event) = false
is_restart (some send_event) = false
is_restart (some restart_event) = true
is_restart (some receive_event) = false

-- The text that an event receives, if it can be read as a message.
unfoldable pub text_for : Option Event → List ℕ → Option (List ℕ)
text_for none input = none
text_for (some start_event) input = none
text_for (some propose_event) input = none
text_for (some send_event) input = none
text_for (some restart_event) input = none
text_for (some receive_event) input = elim (read input) [ none ↦ none | some m ↦ some input ]

-- The command that an event proposes, if it may be proposed.
unfoldable pub command_for : Option Event → List ℕ → Option Command
command_for none input = none
command_for (some start_event) input = none
command_for (some propose_event) input = read_proposal input
command_for (some send_event) input = none
command_for (some restart_event) input = none
command_for (some receive_event) input = none

-- The engine. An outcome of 0 takes effect.
abbrev pub hub_engine : Engine
hub_engine =
    record {
      Command = Command;
      Deed = Deed;
      hub = λ d. d.hub;
      state = λ d. d.state;
      restarts = λ d. is_restart (event_of d.event);
      hears = λ d. text_for (event_of d.event) d.input;
      asks = λ d. command_for (event_of d.event) d.input;
      step =
          λ G d.
          let given = step_of (call_for G d) in
          record { took_effect = eqb given.outcome done; state = given.state; text = take given.wrote given.output };
      fresh = image fresh;
      SameKept = λ l m. read_kept l ≡ read_kept m;
      reports = reported_in;
      view = view_in;
      own = λ c. false;
    }

-- A home of these hubs.
abbrev pub HomeOfHubs : Type 0
HomeOfHubs = homes.Home hub_engine

-- ---- on values

-- The message that a hub receives.
abbrev pub message_met : Occasion → Option Message
message_met to_start = none
message_met (to_propose bytes) = none
message_met (to_send peer prev) = none
message_met to_restart = none
message_met (to_receive m) = some m

-- The command that it is asked to propose.
abbrev pub proposal_of : Occasion → Option Command
proposal_of to_start = none
proposal_of (to_propose bytes) = read_proposal bytes
proposal_of (to_send peer prev) = none
proposal_of to_restart = none
proposal_of (to_receive m) = none

-- The rules.
abbrev pub hub_rules : Rules Command
hub_rules =
    record {
      State = State;
      Message = Message;
      Occasion = Occasion;
      fresh = fresh;
      happens =
          λ G h s o.
          let n = happens (hub_of G h) s o in
          record { took_effect = eqb n.outcome done; state = n.state; message = n.message };
      hears = message_met;
      asks = proposal_of;
    }

-- How states are written and texts are read.
abbrev pub hub_writing : Writing hub_rules
hub_writing = record { image = image; read = read }
