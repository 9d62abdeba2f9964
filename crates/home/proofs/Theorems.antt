-- Demand 3, proved of the hubs, over the very definition of the step that the exported function's promise cites: all that `engine`
-- claims of an engine (`demand_3`; its parts `simulation`, `explained`, `agreement`, `stability`, `validity`); every reported command a
-- hub took from a client (`somebody_proposed`), and it may be proposed (`only_proposable`); what C is handed is what the theorem
-- speaks of (`handed_is_reported`, `counted_is_reported`, passed on here) and agrees (`handed_agree`); and an honest hub is never told
-- 2, 4 or 7 (`legal_states`, `never_bad_state`, `legal_messages`, `never_contradicted`). Assumes nothing.
use Prim.Native.Nat.{ℕ}
use native.Mathlib.Omega.{arith}
use mathlib.Core.Path.{◌≡◌, refl, sym, ◌∙◌, ap}
use mathlib.Core.Logic.{⊎_elim}
use mathlib.Core.Bool.{true}
use mathlib.Core.List.{List, ◌++◌}
use mathlib.Core.Option.{Option, none, some}
use lib.ListN.{take, drop}
use lib.Seq.{take-append_seam}
use Rattle.kinds.specs.Sizes.{Group, is_group, hub_of}
use Rattle.command.specs.Command.{Command, command_size, command_bytes}
use Rattle.command.specs.Proposal.{proposable}
use Rattle.command.proofs.CommandLaws.{command_bytes_length}
use Rattle.command.proofs.ProposalLaws.{read_proposal_proposable}
use Rattle.state.specs.State.{Kept, State}
use Rattle.state.specs.Legal.{legal_state}
use Rattle.state.specs.Image.{image, read_state}
use Rattle.state.proofs.ImageLaws.{read_state_image, read_kept_image}
use Rattle.rules.specs.Outcome.{bad_state, bad_message, contradicting}
use Rattle.rules.specs.Step.{Event, start_event, propose_event, send_event, restart_event, receive_event, event_of, refusal, answer}
use Rattle.rules.specs.Happens.{Occasion, to_receive, happens}
use Rattle.kinds.proofs.BoolLaws.{none_some}
use Rattle.paxos.proofs.Member.{clash, nothing}
use Rattle.views.specs.Hall.{blank}
use Rattle.engine.specs.Home.{Reached}
use Rattle.engine.specs.Safe.{Simulation, Explained, Agreement, Stability, Validity}
use Rattle.engine.specs.Upholds.{Upholds}
use Rattle.engine.specs.Written.{WritesOut}
use Rattle.engine.proofs.Upholds.{Over, upholds}
use Rattle.engine.proofs.OrdersLaws.{orders_all}
use Rattle.engine.proofs.Theorems as engine
use Rattle.home.specs.View.{view_of, view_in}
use Rattle.home.specs.Hub.{call_for, command_for, hub_engine, HomeOfHubs, hub_rules, hub_writing}
use Rattle.home.specs.Facts.{hub_facts}
use Rattle.home.specs.Safe.{Demand3, SomebodyProposed, OnlyProposable, HandedAgree, LegalStates, NeverBadState, LegalMessages, NeverContradicted}
use Rattle.home.proofs.Bytes.{Refused, unknown, short, unread, step_either, step_receives}
use Rattle.home.proofs.Events.{hub_kept}
use Rattle.home.proofs.Deeds.{sight, becomes}
use Rattle.home.proofs.Honest.{never_contradicting, happens_beyond}
pub use Rattle.home.proofs.Reports.{handed_is_reported, counted_is_reported}
use Rattle.home.proofs.Reports.{bytes_say}

-- ---- the hub is an engine that upholds the machine

-- The view of a legal state's image is that of its kept parts.
image_view : (G : Group) (h : ℕ) (s : State) → legal_state (hub_of G h) s ≡ true → view_of s.kept ≡ view_in (image s)
unfolding view_in
image_view G h s legal = sym (ap (λ (x : Option Kept). elim x [ none ↦ blank | some k ↦ view_of k ]) (read_kept_image (hub_of G h) s legal))

module _ (G : Group) (group : is_group G ≡ true) where
  pub hub_writes : WritesOut hub_engine hub_rules hub_writing G (hub_facts G)
  hub_writes =
      record {
        fresh = record { states = λ h. refl; texts = λ t i. nothing i; messages = λ m i. nothing i; orders = refl };
        deed = becomes G group;
        views = λ W J ok h. (ok.hubs h).view ∙ image_view G h (W.states h) (ok.among.legal h);
        says = bytes_say;
      }

  abbrev pub hub_upholds : Upholds hub_engine G
  hub_upholds = upholds (hub_kept G group) hub_writes

  -- ---- demand 3

  -- The machine runs along with the home.
  pub simulation : Simulation hub_engine G
  simulation = engine.simulation hub_upholds

  -- Every home that started fresh is explained by a history of the machine.
  pub explained : Explained hub_engine G
  explained = engine.explained hub_upholds

  -- No two hubs, at any two moments, report different commands at one place.
  pub agreement : Agreement hub_engine G
  agreement = engine.agreement hub_upholds

  -- What a hub reports it reports ever after.
  pub stability : Stability hub_engine G
  stability = engine.stability hub_upholds

  -- What is reported a hub took from a client, or it is the machine's own.
  pub validity : Validity hub_engine G
  validity = engine.validity hub_upholds

-- All of it.
pub demand_3 : Demand3
demand_3 G group =
    record {
      simulation = simulation G group;
      explained = explained G group;
      agreement = agreement G group;
      stability = stability G group;
      validity = validity G group;
    }

-- The machine has no command of its own: a hub took every reported one from a client.
pub somebody_proposed : SomebodyProposed
somebody_proposed G H h p c r a = ⊎_elim (λ m. m) (λ own. clash (cc)) (validity G r.group H h p c r a)

-- No event proposes what may not be proposed.
command_for_proposable : (e : Option Event) (input : List ℕ) (c : Command) → command_for e input ≡ some c → proposable c ≡ true
unfolding command_for
command_for_proposable none input c h = none_some h
command_for_proposable (some start_event) input c h = none_some h
command_for_proposable (some propose_event) input c h = read_proposal_proposable input c h
command_for_proposable (some send_event) input c h = none_some h
command_for_proposable (some restart_event) input c h = none_some h
command_for_proposable (some receive_event) input c h = none_some h

-- Every reported command may be proposed.
pub only_proposable : OnlyProposable
only_proposable G H h p c r a =
    orders_all G (λ (x : Command). proposable x ≡ true) (λ d. command_for_proposable (event_of d.event) d.input) H r c (somebody_proposed G H h p c r a)

-- ---- what C is told

-- The first 16 bytes of what is handed over are the command's.
handed_bytes : (c : Command) (out : List ℕ) → take command_size (command_bytes c ++ drop command_size out) ≡ command_bytes c
handed_bytes c out =
    ap (λ (n : ℕ). take n (command_bytes c ++ drop command_size out)) (sym (command_bytes_length c)) ∙ take-append_seam (command_bytes c) (drop command_size out)

-- What is handed over for a place is the same everywhere.
pub handed_agree : HandedAgree
handed_agree G H I g h p out more r runs a b =
    let (c, x) = (handed_is_reported (H.stored g) p out).0 a in
    let (d, y) = (handed_is_reported (I.stored h) p more).0 b in
    let same = agreement G r.group H I g h p c d r runs x.reports y.reports in
    ap (take command_size) x.bytes ∙ handed_bytes c out ∙ ap command_bytes same ∙ sym (ap (take command_size) y.bytes ∙ handed_bytes d more)

-- ---- what an honest hub is never told

-- What stands over a home that started fresh.
standing : (G : Group) (H : HomeOfHubs) (r : Reached hub_engine G H) → Over hub_engine hub_rules hub_writing G (hub_facts G) H (engine.reached (hub_upholds G r.group) H r).hall
standing G H r = (engine.reached (hub_upholds G r.group) H r).over

-- Every stored state is legal.
pub legal_states : LegalStates
legal_states G H h r =
    let o = standing G H r in
    let s = o.household.states h in
    (s, ap (read_state (hub_of G h)) (o.is.states h) ∙ read_state_image (hub_of G h) s (o.stands.among.legal h))

-- Every written text is read.
pub legal_messages : LegalMessages
legal_messages G H t r i = let (m, back, among) = (standing G H r).is.texts t i in (m, back)

-- No hub ever answers 2.
pub never_bad_state : NeverBadState
unfolding call_for refusal answer
never_bad_state G H d r fair =
    let o = standing G H r in
    step_either (call_for G d) (o.household.states d.hub) (sight G r.group H o.household _ d o.is o.stands fair)
    (λ a. a.outcome ≡ bad_state → ⊥) refused
    (λ size own e b. happened (o.household.states d.hub) e)
  where
    refused : (k : ℕ) → Refused (call_for G d) k → (refusal (call_for G d) k).outcome ≡ bad_state → ⊥
    refused k unknown q = clash (cc)
    refused k short q = clash (cc)
    refused k (unread u) q = clash (cc)

    happened : (s : State) (e : Occasion) → (answer (call_for G d) (happens (call_for G d).who s e)).outcome ≡ bad_state → ⊥
    happened s e q = ⊎_elim (λ z. clash (cc)) (λ z. absurd (omega arith)) (happens_beyond (call_for G d).who s e)

-- No honest message is answered with 4 or 7.
pub never_contradicted : NeverContradicted
unfolding call_for refusal answer happens
never_contradicted G H d r fair event i =
    let o = standing G H r in
    let s = o.household.states d.hub in
    let ok = o.stands in
    let (m, back, among) = o.is.texts d.input i in
    let sees = sight G r.group H o.household _ d o.is ok fair in
    let received = step_receives (call_for G d) s m sees event back in
    record {
      reads =
          received (λ a. a.outcome ≡ bad_message → ⊥) (λ q. clash (cc)) (λ q. clash (cc))
          (λ q. ⊎_elim (λ z. clash (cc)) (λ z. absurd (omega arith)) (happens_beyond (hub_of G d.hub) s (to_receive m)));
      agrees =
          received (λ a. a.outcome ≡ contradicting → ⊥) (λ q. clash (cc)) (λ q. clash (cc))
          (never_contradicting ok.ground o.household.states (ok.hubs d.hub) m (ok.sent m among) (ok.among.well m among) (ok.among.echoes m among));
    }
