-- From states to bytes: what the step does to lent bytes is what happens to the state that they are the image of; after a loss of power,
-- what happens to the state whose kept parts they have. Assumes nothing.
use Prim.Native.Nat.{ℕ, ◌≤◌}
use borrow.Author.Tests.{le-ltb}
use mathlib.Core.Path.{◌≡◌, refl, ◌∙◌, ap}
use mathlib.Core.Bool.{true, false, ◌&&◌}
use mathlib.Core.List.{List}
use mathlib.Core.Option.{Option, none, some}
use lib.Dec.{eqb, ltb}
use lib.ListN.{length}
use Rattle.kinds.specs.Sizes.{is_size, is_hub, text_room}
use Rattle.message.specs.Message.{Message}
use Rattle.message.specs.Text.{read}
use Rattle.state.specs.State.{follower, State}
use Rattle.state.specs.Legal.{legal_state}
use Rattle.state.specs.Image.{image, read_state, read_kept}
use Rattle.state.proofs.ImageLaws.{read_state_image, read_kept_image}
use Rattle.rules.specs.Events.{restart}
use Rattle.rules.specs.Outcome.{done, not_known, short_output, bad_message}
use Rattle.rules.specs.Step.{Call, Answer, Event, start_event, propose_event, send_event, restart_event, receive_event, event_of, refusal, answer, receiving, acting, kept_alone, seen_by, at_state, at_event, step_of}
use Rattle.rules.specs.Receive.{receive}
use Rattle.rules.specs.Happens.{Occasion, to_start, to_propose, to_send, to_restart, to_receive, happens}
use Rattle.kinds.proofs.BoolLaws.{and_first, and_second, cond_either}
use Rattle.paxos.proofs.Member.{clash}
use Rattle.home.specs.Hub.{is_restart, text_for, command_for, message_met, proposal_of}

-- ---- what a call brings

-- The call brings this event, with its command and its message.
pub record Brings (c : Call) (o : Occasion) : Type 0 where
  pub asks : command_for (event_of c.event) c.input ≡ proposal_of o
  pub reads : (m : Message) → message_met o ≡ some m → (text_for (event_of c.event) c.input ≡ some c.input) × (read c.input ≡ some m)

-- A text that is read is heard.
text_read : (input : List ℕ) (m : Message) → read input ≡ some m → text_for (some receive_event) input ≡ some input
unfolding text_for
text_read input m r = rw (r, text_for) refl

-- What each event brings.
pub brings_start : (c : Call) → event_of c.event ≡ some start_event → Brings c to_start
unfolding command_for
brings_start c e = record { asks = rw e refl; reads = λ m q. clash (cc) }

pub brings_propose : (c : Call) → event_of c.event ≡ some propose_event → Brings c (to_propose c.input)
unfolding command_for
brings_propose c e = record { asks = rw e refl; reads = λ m q. clash (cc) }

pub brings_send : (c : Call) → event_of c.event ≡ some send_event → Brings c (to_send c.a c.b)
unfolding command_for
brings_send c e = record { asks = rw e refl; reads = λ m q. clash (cc) }

pub brings_restart : (c : Call) → event_of c.event ≡ some restart_event → Brings c to_restart
unfolding command_for
brings_restart c e = record { asks = rw e refl; reads = λ m q. clash (cc) }

pub brings_receive : (c : Call) (m : Message) → event_of c.event ≡ some receive_event → read c.input ≡ some m → Brings c (to_receive m)
unfolding command_for
brings_receive c m e r =
    record { asks = rw e refl; reads = λ n q. (ap (λ (x : Option Event). text_for x c.input) e ∙ text_read c.input m r, r ∙ q) }

-- ---- what an event sees

-- What the event sees of the state: at a restart the kept parts alone.
abbrev pub sees : State → Event → State
sees s start_event = s
sees s propose_event = s
sees s send_event = s
sees s restart_event = record { kept = s.kept; lost = follower }
sees s receive_event = s

-- The call's event sees this state.
abbrev pub Sees : Call → State → Type 0
Sees c s = (e : Event) → event_of c.event ≡ some e → seen_by c.who e c.state ≡ some (sees s e)

-- It is read from the image.
pub seen_image : (c : Call) (s : State) → legal_state c.who s ≡ true → c.state ≡ image s → Sees c s
unfolding seen_by kept_alone restart
seen_image c s legal stored start_event is = ap (read_state c.who) stored ∙ read_state_image c.who s legal
seen_image c s legal stored propose_event is = ap (read_state c.who) stored ∙ read_state_image c.who s legal
seen_image c s legal stored send_event is = ap (read_state c.who) stored ∙ read_state_image c.who s legal
seen_image c s legal stored restart_event is = ap kept_alone (ap read_kept stored ∙ read_kept_image c.who s legal)
seen_image c s legal stored receive_event is = ap (read_state c.who) stored ∙ read_state_image c.who s legal

-- After a loss of power a restart sees the kept parts, whatever stands in place of the lost ones.
pub seen_kept :
    (c : Call) (s : State) → legal_state c.who s ≡ true → is_restart (event_of c.event) ≡ true → read_kept c.state ≡ read_kept (image s) → Sees c s
unfolding seen_by kept_alone restart is_restart
seen_kept c s legal is kept start_event e = clash (let z : is_restart (some start_event) ≡ true = rw e at is in cc)
seen_kept c s legal is kept propose_event e = clash (let z : is_restart (some propose_event) ≡ true = rw e at is in cc)
seen_kept c s legal is kept send_event e = clash (let z : is_restart (some send_event) ≡ true = rw e at is in cc)
seen_kept c s legal is kept restart_event e = ap kept_alone (kept ∙ read_kept_image c.who s legal)
seen_kept c s legal is kept receive_event e = clash (let z : is_restart (some receive_event) ≡ true = rw e at is in cc)

-- ---- the step on bytes

-- Where nothing is amiss the event takes place.
pub step_acts :
    (c : Call) (s : State) → Sees c s → (e : Event) → event_of c.event ≡ some e → is_size c.who.size ≡ true
    → is_hub c.who.size c.who.own ≡ true → text_room ≤ length c.output → step_of c ≡ acting c e (sees s e)
unfolding step_of at_event at_state
step_acts c s sight e is size own room = rw (is, size, own, sight e is, le-ltb (length c.output) text_room room)

-- The refusals before an event: 1, 3, and 4 for a text that is not read. A call that sees a state is never refused with 2.
pub data Refused (c : Call) : ℕ → Type 0 where
  unknown : Refused c not_known
  short : Refused c short_output
  unread : read c.input ≡ none → Refused c bad_message

-- None of them is 0.
pub refused_not : {c : Call} {k : ℕ} → Refused c k → eqb k done ≡ false
refused_not unknown = refl
refused_not short = refl
refused_not (unread r) = refl

-- A call that sees a state is refused, or comes to what happens at that state.
module _ (c : Call) (s : State) (sight : Sees c s) (P : Answer → Type 0)
    (refused : (k : ℕ) → Refused c k → P (refusal c k))
    (happened :
    is_size c.who.size ≡ true → is_hub c.who.size c.who.own ≡ true → (o : Occasion) → Brings c o
    → P (answer c (happens c.who s o))) where
  module _ (size : is_size c.who.size ≡ true) (own : is_hub c.who.size c.who.own ≡ true) where
    received : event_of c.event ≡ some receive_event → (x : Option Message) → read c.input ≡ x → P (receiving c s x)
    unfolding receiving happens
    received e none r = refused _ (unread r)
    received e (some m) r = happened size own (to_receive m) (brings_receive c m e r)

    acted : (e : Event) → event_of c.event ≡ some e → P (acting c e (sees s e))
    unfolding acting happens restart
    acted start_event e = happened size own to_start (brings_start c e)
    acted propose_event e = happened size own (to_propose c.input) (brings_propose c e)
    acted send_event e = happened size own (to_send c.a c.b) (brings_send c e)
    acted restart_event e = happened size own to_restart (brings_restart c e)
    acted receive_event e = received e (read c.input) refl

  at_event_lem : (x : Option Event) → event_of c.event ≡ x → P (at_event c x)
  unfolding at_event at_state
  at_event_lem none e = refused _ unknown
  at_event_lem (some e) is =
      cond_either P (is_size c.who.size && is_hub c.who.size c.who.own)
      (λ t.
      let size = and_first (is_size c.who.size) (is_hub c.who.size c.who.own) t in
      let own = and_second (is_size c.who.size) (is_hub c.who.size c.who.own) t in
      rw (sight e is)
      (cond_either P (ltb (length c.output) text_room) (λ z. refused _ short) (λ z. acted size own e is)))
      (λ t. refused _ unknown)

  -- So of the step's answer holds what holds of both.
  pub step_either : P (step_of c)
  unfolding step_of
  step_either = at_event_lem (event_of c.event) refl

-- A message that is read, at a call that sees a state: it is received, unless the call is refused with 1 or 3.
pub step_receives :
    (c : Call) (s : State) (m : Message) → Sees c s → event_of c.event ≡ some receive_event → read c.input ≡ some m → (P : Answer → Type 0)
    → P (refusal c not_known) → P (refusal c short_output) → P (answer c (receive c.who s m)) → P (step_of c)
unfolding step_of at_event at_state acting receiving
step_receives c s m sight is r P not_named no_room received =
    rw is
    (cond_either P (is_size c.who.size && is_hub c.who.size c.who.own)
    (λ t. rw (sight receive_event is) (cond_either P (ltb (length c.output) text_room) (λ z. no_room) (λ z. rw r received)))
    (λ t. not_named))
