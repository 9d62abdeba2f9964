-- A worked case is computed on values and carried over, once for all of them, to the whole call at full size: nobody computes a padded list.
-- The step at a legal state's image gives what the event comes to at the state. Assumes nothing.
use Prim.Native.Nat.{ℕ}
use mathlib.Core.Path.{◌≡◌, refl, sym, ◌∙◌, ap}
use mathlib.Core.Bool.{Bool, true, false, cond, ◌&&◌}
use mathlib.Core.List.{List, [], ◌∷◌}
use mathlib.Core.Option.{Option, none, some}
use borrow.Author.Tests.{eqb-true, eq-eqb}
use lib.Dec.{ltb, eqb}
use lib.ListN.{length, length-replicate}
use Rattle.kinds.specs.Sizes.{Who, is_size, is_hub, text_room}
use Rattle.kinds.specs.Same.{same}
use Rattle.kinds.proofs.BoolLaws.{and_first, and_second, and_both}
use Rattle.kinds.proofs.SameLaws.{same_is, is_same}
use Rattle.message.specs.Message.{Message}
use Rattle.message.specs.Text.{read}
use Rattle.rows.specs.Rows.{bytes_of, row_bytes}
use Rattle.state.specs.State.{State}
use Rattle.state.specs.Legal.{all, legal_state}
use Rattle.state.specs.Image.{head_bytes, image}
use Rattle.state.specs.Table.{rows_of, table}
use Rattle.state.proofs.HeadLaws.{head_bytes_is}
use Rattle.state.proofs.ImageLaws.{image_is, read_state_image, read_kept_image}
use Rattle.rules.specs.Outcome.{Next, refuses, done, not_known, short_output, bad_message}
use Rattle.rules.specs.Events.{restart}
use Rattle.rules.specs.Step.{Call, Event, start_event, propose_event, send_event, restart_event, receive_event, event_of, refusal, over, written, answer, receiving, acting, kept_alone, seen_by, at_state, at_event, step_of}
use Rattle.rules.specs.Happens.{Occasion, happens, received, occasion_of}
use Rattle.rules.specs.Row.{CaseRow, lent, call_of, answers, holds, AllHold}

-- ---- one image

-- Whether two states have one image: their heads, their rows and how many these are. What is unused is not compared.
unfoldable pub one_image : State → State → Bool
one_image s t =
    same (head_bytes s.kept s.lost) (head_bytes t.kept t.lost)
    && (same (bytes_of row_bytes (rows_of s)) (bytes_of row_bytes (rows_of t)) && eqb (length (rows_of s)) (length (rows_of t)))

one_image_lem : (s t : State) → one_image s t ≡ true → image s ≡ image t
unfolding one_image table
one_image_lem s t h =
    let heads = same (head_bytes s.kept s.lost) (head_bytes t.kept t.lost) in
    let rows = same (bytes_of row_bytes (rows_of s)) (bytes_of row_bytes (rows_of t)) in
    let many = eqb (length (rows_of s)) (length (rows_of t)) in
    let behind = and_second heads (rows && many) h in
    let p = same_is (head_bytes s.kept s.lost) (head_bytes t.kept t.lost) (and_first heads (rows && many) h) in
    let q = same_is (bytes_of row_bytes (rows_of s)) (bytes_of row_bytes (rows_of t)) (and_first rows many behind) in
    let n = eqb-true (length (rows_of s)) (length (rows_of t)) (and_second rows many behind) in
    rw (image_is s, image_is t, ← head_bytes_is s.kept s.lost, ← head_bytes_is t.kept t.lost, p, q, n)

-- ---- the step on values

-- What a row's event comes to at its state; without an occasion its text is no message.
unfoldable pub comes_to : CaseRow → Option Occasion → Next
comes_to r none = refuses r.state bad_message
comes_to r (some o) = happens r.who r.state o

-- The tests before the event but that of the state.
unfoldable pub tested : CaseRow → Option Event → Next
tested r none = refuses r.state not_known
tested r (some e) =
    cond (is_size r.who.size && is_hub r.who.size r.who.own)
    (cond (ltb r.room text_room) (refuses r.state short_output) (comes_to r (occasion_of (call_of r) e)))
    (refuses r.state not_known)

-- A refusal is an answer that leaves the state.
refused_so : (c : Call) (s : State) (k : ℕ) → eqb k done ≡ false → refusal c k ≡ answer c (refuses s k)
unfolding refusal answer written over
refused_so c s k h = rw h

-- A restart sees the kept parts alone, all other events the state.
seen : Event → State → State
unfolding restart
seen start_event s = s
seen propose_event s = s
seen send_event s = s
seen restart_event s = (restart s.kept).state
seen receive_event s = s

seen_image : (w : Who) (s : State) (e : Event) → legal_state w s ≡ true → seen_by w e (image s) ≡ some (seen e s)
unfolding seen_by seen kept_alone
seen_image w s start_event h = read_state_image w s h
seen_image w s propose_event h = read_state_image w s h
seen_image w s send_event h = read_state_image w s h
seen_image w s restart_event h = rw (read_kept_image w s h)
seen_image w s receive_event h = read_state_image w s h

module _ (r : CaseRow) where
  text_comes_to : (x : Option Message) → receiving (call_of r) r.state x ≡ answer (call_of r) (comes_to r (received x))
  unfolding receiving received comes_to happens
  text_comes_to none = refused_so (call_of r) r.state bad_message refl
  text_comes_to (some m) = refl

  event_comes_to : (e : Event) → acting (call_of r) e (seen e r.state) ≡ answer (call_of r) (comes_to r (occasion_of (call_of r) e))
  unfolding acting seen occasion_of comes_to happens restart
  event_comes_to start_event = refl
  event_comes_to propose_event = refl
  event_comes_to send_event = refl
  event_comes_to restart_event = refl
  event_comes_to receive_event = text_comes_to (read r.input)

  module _ (legal : legal_state r.who r.state ≡ true) where
    -- With room for a text the event decides; with known numbers the state is seen first.
    passes : (e : Event) (t : Bool) →
        cond t (refusal (call_of r) short_output) (acting (call_of r) e (seen e r.state))
        ≡ answer (call_of r) (cond t (refuses r.state short_output) (comes_to r (occasion_of (call_of r) e)))
    passes e true = refused_so (call_of r) r.state short_output refl
    passes e false = event_comes_to e

    known : (e : Event) (t : Bool) →
        cond t (at_state (call_of r) e (seen_by r.who e (image r.state))) (refusal (call_of r) not_known)
        ≡ answer (call_of r)
        (cond t (cond (ltb r.room text_room) (refuses r.state short_output) (comes_to r (occasion_of (call_of r) e))) (refuses r.state not_known))
    unfolding at_state
    known e true = rw (seen_image r.who r.state e legal, length-replicate {A = ℕ} r.room 255) (passes e (ltb r.room text_room))
    known e false = refused_so (call_of r) r.state not_known refl

    event_tested : (x : Option Event) → at_event (call_of r) x ≡ answer (call_of r) (tested r x)
    unfolding at_event tested
    event_tested none = refused_so (call_of r) r.state not_known refl
    event_tested (some e) = known e (is_size r.who.size && is_hub r.who.size r.who.own)

    -- The step at the image of a legal state.
    step_on_values : step_of (call_of r) ≡ answer (call_of r) (tested r (event_of r.event))
    unfolding step_of
    step_on_values = event_tested (event_of r.event)

-- ---- a case

-- The answer on values is the row's: outcome, text, and the state, which all but 0 leave.
unfoldable pub agrees : CaseRow → Next → Bool
agrees r n =
    eqb n.outcome r.outcome
    && (same (written n.message) r.message && one_image (cond (eqb n.outcome done) n.state r.state) r.next)

-- A row that holds, on values.
unfoldable pub comes_out : CaseRow → Bool
comes_out r = legal_state r.who r.state && agrees r (tested r (event_of r.event))

left : (t : Bool) (s n : State) → image (cond t n s) ≡ cond t (image n) (image s)
left true s n = refl
left false s n = refl

answered : (r : CaseRow) (n : Next) → agrees r n ≡ true → answers r (answer (call_of r) n) ≡ true
unfolding agrees answer
answered r n h =
    let outcome = eqb n.outcome r.outcome in
    let text = same (written n.message) r.message in
    let state = one_image (cond (eqb n.outcome done) n.state r.state) r.next in
    let behind = and_second outcome (text && state) h in
    let t = same_is (written n.message) r.message (and_first text state behind) in
    let s = one_image_lem (cond (eqb n.outcome done) n.state r.state) r.next (and_second text state behind) in
    and_both (and_first outcome (text && state) h)
    (and_both (eq-eqb (length (written n.message)) (length r.message) (ap length t))
    (and_both (is_same _ _ (sym (left (eqb n.outcome done) r.state n.state) ∙ s)) (is_same _ _ (ap (λ (x : List ℕ). over x (lent r)) t))))

-- It holds for the whole call.
row_holds : (r : CaseRow) → comes_out r ≡ true → holds r ≡ true
unfolding comes_out holds
row_holds r h =
    let legal = legal_state r.who r.state in
    let agreed = agrees r (tested r (event_of r.event)) in
    rw (step_on_values r (and_first legal agreed h)) (answered r (tested r (event_of r.event)) (and_second legal agreed h))

-- Every row of a table that comes out on values holds for its whole call.
pub all_hold : (rows : List CaseRow) → all comes_out rows ≡ true → AllHold rows
unfolding all
all_hold [] h = refl
all_hold (r ∷ rs) h =
    and_both (row_holds r (and_first (comes_out r) (all comes_out rs) h)) (all_hold rs (and_second (comes_out r) (all comes_out rs) h))
