-- Demand 3 of these hubs, beside what `engine` claims of any engine (`Safety`): what C is told, and what an honest hub is never told.
-- Assumes nothing.
use Rattle.std.specs.Prelude.{ℕ, ◌≤◌, ◌≡◌, ◌↔◌, true, List, ◌++◌, length, take, drop}
use Rattle.std.proofs.Math.Option.{some}
use Rattle.kinds.specs.Sizes.{Group, is_group, hub_of}
use Rattle.command.specs.Command.{Command, command_size, command_bytes}
use Rattle.command.specs.Proposal.{proposable}
use Rattle.message.specs.Message.{Message}
use Rattle.message.specs.Text.{read}
use Rattle.state.specs.State.{State}
use Rattle.state.specs.Image.{read_state, reported_in}
use Rattle.rules.specs.Outcome.{done, bad_state, bad_message, contradicting}
use Rattle.rules.specs.Report.{report_of, chosen_of}
use Rattle.rules.specs.Step.{receive_event, event_of, step_of}
use Rattle.paxos.specs.Paxos.{◌∈◌}
use Rattle.engine.specs.Home.{Fair, Runs, Reached}
use Rattle.engine.specs.Safe.{Reports, Safety}
use Rattle.home.specs.Hub.{Deed, call_for, hub_engine, HomeOfHubs}
use Rattle.kinds.specs.Packed.{packed}

-- All of demand 3, for 3, 5 and 7 hubs at once.
abbrev pub Demand3 : Type 1
Demand3 = (G : Group) → is_group G ≡ true → Safety hub_engine G

-- A hub of the group took every reported command from a client, with outcome 0.
abbrev pub SomebodyProposed : Type 0
SomebodyProposed = (G : Group) (H : HomeOfHubs) (h p : ℕ) (c : Command) → Reached hub_engine G H → Reports hub_engine H h p c → c ∈ H.orders

-- It is one that may be proposed: no hub ever reports a buzz or ramp too short to feel.
abbrev pub OnlyProposable : Type 0
OnlyProposable =
    (G : Group) (H : HomeOfHubs) (h p : ℕ) (c : Command) → Reached hub_engine G H → Reports hub_engine H h p c → proposable c ≡ true

-- ---- what C is told

-- What kritnamon_reported hands over is what the hub of these bytes reports; and it hands over all of that where there is room.
pub record Hands (l : List ℕ) (p : ℕ) (out : List ℕ) (c : Command) : Type 0 where
  pub reports : reported_in l p ≡ some c
  pub room : command_size ≤ length out
  pub bytes : (report_of l p out).output ≡ command_bytes c ++ drop command_size out

abbrev pub HandedIsReported : Type 0
HandedIsReported =
    (l : List ℕ) (p : ℕ) (out : List ℕ) → ((report_of l p out).outcome ≡ done) ↔ ((c : Command) × Hands l p out c)

-- kritnamon_chosen counts exactly the places at which something is reported.
abbrev pub CountedIsReported : Type 0
CountedIsReported =
    (l : List ℕ) (n p : ℕ) → chosen_of l ≡ packed done n → ((1 ≤ p) × (p ≤ n)) ↔ ((c : Command) × (reported_in l p ≡ some c))

-- Whatever kritnamon_reported hands over for a place, at any two hubs and any two moments of a run, is the same 16 bytes.
abbrev pub HandedAgree : Type 0
HandedAgree =
    (G : Group) (H I : HomeOfHubs) (g h p : ℕ) (out more : List ℕ) → Reached hub_engine G H → Runs hub_engine G H I
    → (report_of (H.stored g) p out).outcome ≡ done
    → (report_of (I.stored h) p more).outcome ≡ done
    → take command_size (report_of (H.stored g) p out).output ≡ take command_size (report_of (I.stored h) p more).output

-- ---- what an honest hub is never told

-- Every stored state is legal.
abbrev pub LegalStates : Type 0
LegalStates =
    (G : Group) (H : HomeOfHubs) (h : ℕ) → Reached hub_engine G H → (s : State) × (read_state (hub_of G h) (H.stored h) ≡ some s)

-- No hub ever answers 2, not even after a loss of power.
abbrev pub NeverBadState : Type 0
NeverBadState = (G : Group) (H : HomeOfHubs) (d : Deed) → Reached hub_engine G H → Fair hub_engine H d → (step_of (call_for G d)).outcome ≡ bad_state → ⊥

-- Every text that a hub wrote is read as a message.
abbrev pub LegalMessages : Type 0
LegalMessages = (G : Group) (H : HomeOfHubs) (t : List ℕ) → Reached hub_engine G H → t ∈ H.sent → (m : Message) × (read t ≡ some m)

-- No text that a hub of the home wrote is answered with 4 or with 7, by any hub, at any moment: those are signs of damage.
pub record Accepted (G : Group) (d : Deed) : Type 0 where
  pub reads : (step_of (call_for G d)).outcome ≡ bad_message → ⊥
  pub agrees : (step_of (call_for G d)).outcome ≡ contradicting → ⊥

abbrev pub NeverContradicted : Type 0
NeverContradicted =
    (G : Group) (H : HomeOfHubs) (d : Deed) → Reached hub_engine G H → Fair hub_engine H d → event_of d.event ≡ some receive_event
    → d.input ∈ H.sent → Accepted G d
