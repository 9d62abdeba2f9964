-- The step as a whole: once its first tests pass it does what happens, and every call leaves what is legal. Assumes nothing.
use Prim.Native.Nat.{ℕ}
use native.Mathlib.Omega.{arith}
use mathlib.Core.Path.{◌≡◌, refl, ap}
use mathlib.Core.Bool.{true, false, ◌&&◌}
use mathlib.Core.List.{List}
use mathlib.Core.Option.{Option, none, some}
use borrow.Author.Tests.{eq-eqb, ne_eqb, le-ltb}
use lib.Dec.{leb, ltb, eqb}
use lib.ListN.{length}
use Rattle.kinds.specs.Sizes.{Who, is_size, is_hub, text_room}
use Rattle.message.specs.Message.{Message}
use Rattle.message.specs.Legal.{legal_message}
use Rattle.message.specs.Text.{message, if_legal, read}
use Rattle.text.specs.Reader.{whole}
use Rattle.state.specs.State.{Kept, State}
use Rattle.state.specs.Legal.{legal_kept, legal_state}
use Rattle.state.specs.Image.{state_size, image, kept_in, state_in, read_state, read_kept}
use Rattle.rules.specs.Outcome.{done, not_known, bad_state, short_output, bad_message}
use Rattle.rules.specs.Events.{restart}
use Rattle.rules.specs.Step.{Call, Event, start_event, propose_event, send_event, restart_event, receive_event, event_of, refusal, over, written, answer, receiving, acting, kept_alone, seen_by, at_state, at_event, step_of}
use Rattle.rules.specs.Happens.{Occasion, to_start, to_propose, to_send, to_restart, to_receive, happens, legal_at, received, occasion_of, Meets}
use Rattle.rules.specs.Theorems.{Leaves, StepIsWhatHappens, CallLeavesLegal}
use Rattle.kinds.proofs.BoolLaws.{and_first, and_second, and_both, cond_either, none_some, cond_some}
use Rattle.rules.proofs.Theorems.{next_is_legal, message_is_legal, refusal_is_silent}
use Rattle.kinds.specs.Same.{same}

-- ---- the step does what happens

-- Two occasions that are one have one answer.
same_answer : (c : Call) (s : State) (x o : Occasion) → some x ≡ some o → answer c (happens c.who s x) ≡ answer c (happens c.who s o)
same_answer c s x o e =
    let same : x ≡ o = cc in
    ap (λ (y : Occasion). answer c (happens c.who s y)) same

receiving_happens :
    (c : Call) (s : State) (x : Option Message) (o : Occasion) → received x ≡ some o → receiving c s x ≡ answer c (happens c.who s o)
unfolding received receiving happens
receiving_happens c s none o e = none_some e
receiving_happens c s (some m) o e = same_answer c s (to_receive m) o e

acting_happens : (c : Call) (e : Event) (s : State) (o : Occasion) → occasion_of c e ≡ some o → acting c e s ≡ answer c (happens c.who s o)
unfolding occasion_of acting happens
acting_happens c start_event s o e = same_answer c s to_start o e
acting_happens c propose_event s o e = same_answer c s (to_propose c.input) o e
acting_happens c send_event s o e = same_answer c s (to_send c.a c.b) o e
acting_happens c restart_event s o e = same_answer c s to_restart o e
acting_happens c receive_event s o e = receiving_happens c s (read c.input) o e

-- The tests before the event pass.
pub step_is_what_happens : StepIsWhatHappens
unfolding step_of at_event at_state
step_is_what_happens c e s o event size own state room occasion =
    let room_enough : ltb (length c.output) text_room ≡ false = le-ltb (length c.output) text_room room in
    rw (event, size, own, state, room_enough) (acting_happens c e s o occasion)

-- A state that the event does not see is refused.
pub unseen_refused :
    (c : Call) (e : Event) → event_of c.event ≡ some e → is_size c.who.size ≡ true → is_hub c.who.size c.who.own ≡ true
    → seen_by c.who e c.state ≡ none
    → step_of c ≡ refusal c bad_state
unfolding step_of at_event at_state
unseen_refused c e event size own state = rw (event, size, own, state)

-- ---- what is read is legal

-- A message, if it is legal.
if_legal_legal : (x : Option Message) (m : Message) → if_legal x ≡ some m → legal_message m ≡ true
unfolding if_legal
if_legal_legal none m e = none_some e
if_legal_legal (some x) m e = cond_some (λ (y : Message). legal_message y ≡ true) (legal_message x) x m (λ t. t) e

-- A text that is read.
pub read_legal : (s : List ℕ) (m : Message) → read s ≡ some m → legal_message m ≡ true
unfolding read
read_legal s m =
    cond_either (λ (x : Option Message). x ≡ some m → legal_message m ≡ true) (leb (length s) text_room)
    (λ t. if_legal_legal (whole (message s)) m) (λ t e. none_some e)

-- A state that is read.
pub read_state_legal : (w : Who) (l : List ℕ) (s : State) → read_state w l ≡ some s → legal_state w s ≡ true
unfolding read_state
read_state_legal w l s =
    let x = state_in l in
    let long = eqb (length l) state_size in
    let one = same (image x) l in
    cond_some (λ (y : State). legal_state w y ≡ true) (long && (one && legal_state w x)) x s
    (λ t. and_second one (legal_state w x) (and_second long (one && legal_state w x) t))

-- Kept parts that are read.
pub read_kept_legal : (l : List ℕ) (k : Kept) → read_kept l ≡ some k → legal_kept k ≡ true
unfolding read_kept
read_kept_legal l k =
    let x = kept_in l in
    let long = eqb (length l) state_size in
    cond_some (λ (y : Kept). legal_kept y ≡ true) (long && legal_kept x) x k (λ t. and_second long (legal_kept x) t)

kept_alone_legal : (x : Option Kept) (s : State) → ((k : Kept) → x ≡ some k → legal_kept k ≡ true) → kept_alone x ≡ some s → legal_kept s.kept ≡ true
unfolding kept_alone restart
kept_alone_legal none s legal e = none_some e
kept_alone_legal (some k) s legal e =
    let same : (restart k).state ≡ s = cc in
    rw (ap (λ (x : State). x.kept) same) at (legal k refl)

-- ---- every call

module _ (c : Call) where
  -- A refusal before the event.
  refusal_leaves : (k : ℕ) → (k ≡ done → ⊥) → Leaves c (refusal c k)
  unfolding refusal written over
  refusal_leaves k refused =
      record {
        next = λ e. absurd (refused e);
        stays = λ f. refl;
        message = none;
        legal = λ m e. none_some e;
        wrote = refl;
        output = refl;
        silent = λ f g. refl;
      }

  -- The answer to an event that is met.
  answer_leaves : (s : State) (o : Occasion) → Meets c.who s o → Leaves c (answer c (happens c.who s o))
  unfolding answer
  answer_leaves s o m =
      let n = happens c.who s o in
      record {
        next = λ e. (n.state, next_is_legal c.who s o m, (rw (eq-eqb n.outcome done e)));
        stays = λ f. rw (ne_eqb n.outcome done f);
        message = n.message;
        legal = λ x e. (message_is_legal c.who s o m x e).legal;
        wrote = refl;
        output = refl;
        silent = refusal_is_silent c.who s o m;
      }

  module _ (size : is_size c.who.size ≡ true) (own : is_hub c.who.size c.who.own ≡ true) where
    receiving_leaves :
        (s : State) (x : Option Message) → legal_state c.who s ≡ true → ((m : Message) → x ≡ some m → legal_message m ≡ true) → Leaves c (receiving c s x)
    unfolding receiving happens legal_at
    receiving_leaves s none h legal = refusal_leaves bad_message (λ e. omega arith)
    receiving_leaves s (some m) h legal = answer_leaves s (to_receive m) (record { size = size; own = own; legal = and_both h (legal m refl) })

    acting_leaves : (e : Event) (s : State) → seen_by c.who e c.state ≡ some s → Leaves c (acting c e s)
    unfolding acting seen_by happens legal_at
    acting_leaves start_event s h = answer_leaves s to_start (record { size = size; own = own; legal = read_state_legal c.who c.state s h })
    acting_leaves propose_event s h =
        answer_leaves s (to_propose c.input) (record { size = size; own = own; legal = read_state_legal c.who c.state s h })
    acting_leaves send_event s h =
        answer_leaves s (to_send c.a c.b) (record { size = size; own = own; legal = read_state_legal c.who c.state s h })
    acting_leaves restart_event s h =
        answer_leaves s to_restart
        (record { size = size; own = own; legal = kept_alone_legal (read_kept c.state) s (read_kept_legal c.state) h })
    acting_leaves receive_event s h =
        receiving_leaves s (read c.input) (read_state_legal c.who c.state s h) (read_legal c.input)

    at_state_leaves : (e : Event) (x : Option State) → seen_by c.who e c.state ≡ x → Leaves c (at_state c e x)
    unfolding at_state
    at_state_leaves e none h = refusal_leaves bad_state (λ e. omega arith)
    at_state_leaves e (some s) h =
        cond_either (Leaves c) (ltb (length c.output) text_room) (λ t. refusal_leaves short_output (λ e. omega arith))
        (λ t. acting_leaves e s h)

  at_event_leaves : (x : Option Event) → Leaves c (at_event c x)
  unfolding at_event
  at_event_leaves none = refusal_leaves not_known (λ e. omega arith)
  at_event_leaves (some e) =
      let size = is_size c.who.size in
      let own = is_hub c.who.size c.who.own in
      cond_either (Leaves c) (size && own)
      (λ t. at_state_leaves (and_first size own t) (and_second size own t) e (seen_by c.who e c.state) refl)
      (λ t. refusal_leaves not_known (λ e. omega arith))

-- Every call leaves what is legal.
pub call_leaves_legal : CallLeavesLegal
unfolding step_of
call_leaves_legal c = at_event_leaves c (event_of c.event)
