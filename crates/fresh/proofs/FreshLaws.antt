-- Laws of a message that is for this hub and not stale: which outcome it comes to by what the code tests, and what holds where it is obeyed.
-- Assumes nothing.
use Prim.Native.Nat.{ℕ, ◌<◌, ◌≤◌}
use native.Mathlib.Omega.{arith}
use mathlib.Core.Path.{◌≡◌, refl, sym, ◌∙◌, ap, subst}
use mathlib.Core.Bool.{true, false}
use mathlib.Core.List.{List}
use borrow.Author.Tests.{ne_eqb, lt-ltb, le-ltb}
use lib.Dec.{ltb}
use Rattle.std.specs.Prelude.{Option, Result, Ok, Err}
use Rattle.std.specs.Option.{unwrap_or, ok_or}
use Rattle.kinds.specs.Sizes.{Who}
use Rattle.kinds.specs.Refusal.{number_of, outcome_of}
use Rattle.kinds.specs.declared.Refusal.{Refusal}
use Rattle.kinds.specs.declared.Refusal.TheVariants.{Contradicting, NothingNew}
use Rattle.message.specs.declared.Fields.{Fields}
use Rattle.state.specs.declared.Head.{Head}
use Rattle.state.specs.State.{State}
use Rattle.state.specs.Legal.{legal_state}
use Rattle.state.specs.Head.{head_of}
use Rattle.state.specs.Image.{image, state_in}
use Rattle.rules.specs.Outcome.{Next, done, refuses}
use Rattle.rules.specs.Events.{with_term}
use Rattle.rules.specs.Receive.{Effect, idle, effect, rule, contradicts, follower_at, after_raise, at_own_term, receive}
use Rattle.rules.specs.Step.{over, written}
use Rattle.rules.proofs.LegalLaws.{IsMessage}
use Rattle.rules.proofs.ReceiveLaws.{own_term, raised_agrees}
use Rattle.promise.specs.Promise.{Ready, Raises, left_by, ruled_by, said_by}
use Rattle.promise.proofs.PromiseLaws.{ready_legal, ready_next, ready_head, ready_term, ready_who}
use Rattle.promise.proofs.LostLaws.{raised_legal}
use Rattle.refuse.specs.Received.{body_in, message_heard}
use Rattle.obey.specs.declared.heard.Heard.{Heard}
use Rattle.obey.specs.Obeyed.{did_by, Obeyed, Obeys}
use Rattle.obey.proofs.SenderLaws.{message_legal}
use Rattle.fresh.specs.Comes.{bytes_of, Comes, Addressed}

-- ---- what an event comes to

-- A refusal that writes nothing leaves every byte.
pub refused_comes : {n : Next} (s : State) (l out : List ℕ) (r : Refusal) → n ≡ refuses s (number_of r) → (number_of r ≡ done → ⊥) → Comes n l out (Err r) l out
unfolding left_by written over
refused_comes s l out r e h = rw e (record { outcome = refl; bytes = refl; state_left = rw (ne_eqb (number_of r) done h); output_left = refl })

-- After a higher term: outcome 0, whatever the rule did.
raised_comes :
    (s : State) (e : Effect) {d : Option ℕ} {n : ℕ} {l l1 l' out out' : List ℕ} → l1 ≡ image s → Obeyed e l1 out d l' out' → n ≡ unwrap_or d 0
    → Comes (after_raise s e) l out (Ok n) l' out'
unfolding after_raise did_by ruled_by said_by left_by written
raised_comes s idle el o wrote =
    record { outcome = refl; bytes = wrote ∙ ap (λ (x : Option ℕ). unwrap_or x 0) o.returned; state_left = o.state_left ∙ el; output_left = o.output_left }
raised_comes s (effect next message) el o wrote =
    record { outcome = refl; bytes = wrote ∙ ap (λ (x : Option ℕ). unwrap_or x 0) o.returned; state_left = o.state_left; output_left = o.output_left }

-- At own term: 13 where it did nothing.
own_comes :
    (s : State) (e : Effect) {d : Option ℕ} {r : Result ℕ Refusal} {l l' out out' : List ℕ} → Obeyed e l out d l' out' → r ≡ ok_or d NothingNew
    → Comes (at_own_term s e) l out r l' out'
unfolding at_own_term did_by ruled_by said_by left_by written
own_comes s idle o told =
    let r = told ∙ ap (λ (x : Option ℕ). ok_or x NothingNew) o.returned in
    record { outcome = ap outcome_of r; bytes = ap bytes_of r; state_left = o.state_left; output_left = o.output_left }
own_comes s (effect next message) o told =
    let r = told ∙ ap (λ (x : Option ℕ). ok_or x NothingNew) o.returned in
    record { outcome = ap outcome_of r; bytes = ap bytes_of r; state_left = o.state_left; output_left = o.output_left }

-- ---- a message that is for this hub and not stale

module _ (w : Who) (h : Head) (l : List ℕ) (m : Heard) (out : List ℕ) (d : Addressed w h l m out) where
  abbrev f : Fields
  f = m.fields

  abbrev s : List ℕ
  s = m.lines.now

  is_ready : Ready w l
  is_ready = d.receives.ready

  is_legal : IsMessage (message_heard f s)
  is_legal = message_legal m

  -- The head is its state's.
  pub head_of_lem : h ≡ head_of (state_in l).kept (state_in l).lost
  head_of_lem = d.head ∙ ready_head w l is_ready

  -- Its term is the hub's.
  own : h.term.0 ≡ (state_in l).kept.term
  own = ap (λ (x : Head). x.term.0) d.head ∙ ready_term w l is_ready

  -- ---- of a higher term

  module _ (above : h.term.0 < f.term.0) where
    -- The hub may become a follower of it.
    pub may_raise : Raises w h f.term.0 l
    may_raise = record { ready = is_ready; head = d.head; up = omega (arith, above); last = is_legal.last }

    abbrev risen : State
    risen = follower_at (state_in l) f.term.0

    -- The follower of that term is legal.
    risen_legal : legal_state w risen ≡ true
    risen_legal = raised_legal w l is_ready f.term.0 (omega (arith, above, ap (λ (x : Head). x.term.0) d.head)) is_legal.last

    -- The follower's bytes hold the follower.
    risen_held : {l1 : List ℕ} → l1 ≡ image risen → state_in l1 ≡ risen
    risen_held e = (ready_next w l is_ready risen risen_legal e).1

    -- The rule may be obeyed there.
    pub may_obey_risen : {l1 : List ℕ} → l1 ≡ image risen → Obeys w l1 m out
    unfolding follower_at with_term
    may_obey_risen {l1} e =
        let is = risen_held e in
        record {
          receives = record {
            ready = (ready_next w l is_ready risen risen_legal e).0;
            room = d.receives.room;
          };
          addressed = d.addressed;
          own_term = ap (λ (x : State). x.kept.term) (sym is);
          agrees = ap (λ (x : State). contradicts x (body_in f.body s)) is ∙ raised_agrees (state_in l) f.term.0 (body_in f.body s);
        }

    -- What the message comes to is what its rule comes to there.
    higher : receive w (state_in l) (message_heard f s) ≡ after_raise risen (rule w risen f.from.0 (body_in f.body s))
    unfolding receive
    higher = rw (d.addressed, d.fresh, ap (λ (t : ℕ). ltb t f.term.0) (sym own) ∙ lt-ltb _ _ above)

    -- What the rule comes to there.
    pub higher_comes :
        {l1 l' out' : List ℕ} {did : Option ℕ} {n : ℕ} → l1 ≡ image risen → Obeyed (rule w (state_in l1) f.from.0 (body_in f.body s)) l1 out did l' out'
        → n ≡ unwrap_or did 0 → Comes (receive w (state_in l) (message_heard f s)) l out (Ok n) l' out'
    higher_comes {l1} {l'} {out'} {did} e o told =
        let there = subst (λ (x : State). Obeyed (rule w x f.from.0 (body_in f.body s)) l1 out did l' out') (risen_held e) o in
        rw higher (raised_comes risen (rule w risen f.from.0 (body_in f.body s)) e there told)

  -- ---- of own term

  module _ (low : f.term.0 ≤ h.term.0) where
    not_higher : ltb (state_in l).kept.term f.term.0 ≡ false
    not_higher = ap (λ (t : ℕ). ltb t f.term.0) (sym own) ∙ le-ltb _ _ low

    -- Outcome 7.
    pub contradicting_comes : contradicts (state_in l) (body_in f.body s) ≡ true
        → Comes (receive w (state_in l) (message_heard f s)) l out (Err Contradicting) l out
    unfolding receive
    contradicting_comes c = refused_comes (state_in l) l out Contradicting (rw (d.addressed, d.fresh, not_higher, c)) (λ e. omega arith)

    module _ (c : contradicts (state_in l) (body_in f.body s) ≡ false) where
      -- The rule may be obeyed.
      pub may_obey : Obeys w l m out
      may_obey =
          record {
            receives = d.receives;
            addressed = d.addressed;
            own_term = own_term w (ready_who w l is_ready) (state_in l) (ready_legal w l is_ready) (message_heard f s) is_legal d.fresh not_higher;
            agrees = c;
          }

      -- What the message comes to is what its rule comes to.
      at_own : receive w (state_in l) (message_heard f s) ≡ at_own_term (state_in l) (rule w (state_in l) f.from.0 (body_in f.body s))
      unfolding receive
      at_own = rw (d.addressed, d.fresh, not_higher, c)

      -- What the rule comes to.
      pub obeyed_comes :
          {l' out' : List ℕ} {did : Option ℕ} {r : Result ℕ Refusal} → Obeyed (rule w (state_in l) f.from.0 (body_in f.body s)) l out did l' out'
          → r ≡ ok_or did NothingNew → Comes (receive w (state_in l) (message_heard f s)) l out r l' out'
      obeyed_comes o told = rw at_own (own_comes (state_in l) (rule w (state_in l) f.from.0 (body_in f.body s)) o told)
