-- A message takes effect exactly where the rules permit it. Assumes nothing.
use Prim.Native.Nat.{ℕ, ◌+◌}
use native.Mathlib.Omega.{arith}
use mathlib.Core.Path.{◌≡◌, refl, ◌∙◌}
use mathlib.Core.Bool.{Bool, true, false, cond, not, ◌&&◌, ◌||◌, and-false}
use mathlib.Core.List.{List}
use mathlib.Core.Option.{none}
use borrow.Author.Tests.{eq-eqb, ne_eqb, eqb-true, le-ltb, ltb-true, ltb-false}
use lib.Dec.{ltb, eqb}
use lib.ListN.{length}
use Rattle.kinds.specs.Sizes.{Who}
use Rattle.command.specs.Entry.{Entry}
use Rattle.message.specs.Message.{Message, Body, vote_request, vote_yes, vote_no, append, append_yes, append_no}
use Rattle.state.specs.State.{Kept, Lost, follower, candidate, leader, State}
use Rattle.rules.specs.Outcome.{Next, done, refuses, contradicting}
use Rattle.rules.specs.Events.{is_leader, is_candidate, for_hub}
use Rattle.rules.specs.Receive.{Effect, idle, effect, fits, heard_yes, heard_append, heard_end, rule, is_misaddressed, is_request, is_stale, contradicts, follower_at, at_own_term, receive}
use Rattle.rules.specs.Happens.{happens}
use Rattle.rules.specs.Theorems.{permits, takes_effect, MessageTakesEffect}
use Rattle.kinds.proofs.BoolLaws.{and_first, and_second, or_either, or_first, or_second, not_both, not_below, cond_either}
use Rattle.rules.proofs.ReceiveLaws.{after_raise_done}

-- It took effect.
abbrev took : Next → Bool
took n = eqb n.outcome done

module _ (s next : State) where
  -- A vote-yes at a candidate: for its length or not, with a higher ballot or not, from a voter that it has or not.
  yes_took :
      (own above had : Bool)
      → took (cond (not own || above) (refuses s contradicting) (at_own_term s (cond had idle (effect next none)))) ≡ (not had && (own && not above))
  unfolding at_own_term
  yes_took true true true = refl
  yes_took true true false = refl
  yes_took true false true = refl
  yes_took true false false = refl
  yes_took false above true = refl
  yes_took false above false = refl

  -- An append-yes at a leader: beyond its log or not, with a greater end than recorded or not.
  end_took :
      (beyond more : Bool)
      → took (cond beyond (refuses s contradicting) (at_own_term s (cond more (effect next none) idle))) ≡ (more && not beyond)
  unfolding at_own_term
  end_took true true = refl
  end_took true false = refl
  end_took false true = refl
  end_took false false = refl

-- An append, whether it fits or not.
append_took :
    (w : Who) (s : State) (from prev prevterm chosen : ℕ) (entries : List Entry)
    → took (at_own_term s (heard_append w s from prev prevterm chosen entries)) ≡ true
unfolding at_own_term heard_append
append_took w s from prev prevterm chosen entries =
    cond_either (λ (e : Effect). took (at_own_term s e) ≡ true) (fits s.kept prev prevterm (prev + length entries)) (λ t. refl) (λ t. refl)

-- A message of own term.
own_took :
    (w : Who) (k : Kept) (l : Lost) (from : ℕ) (body : Body) → is_request body ≡ false
    → (let s : State = record { kept = k; lost = l } in
    took (cond (contradicts s body) (refuses s contradicting) (at_own_term s (rule w s from body))) ≡ permits s from body)
unfolding is_request contradicts is_leader is_candidate rule heard_yes heard_end at_own_term permits
own_took w k l from (vote_request last ballot) answer = absurd (not_both true refl answer)
own_took w k follower from (vote_yes last ballot entries) answer = refl
own_took w k (candidate voters gathered) from (vote_yes last ballot entries) answer =
    yes_took _ _ (eqb last (length k.log)) (ltb k.ballot ballot) (for_hub voters from false)
    ∙ rw (not_below k.ballot ballot) refl
own_took w k (leader confirmed) from (vote_yes last ballot entries) answer = refl
own_took w k l from vote_no answer = refl
own_took w k follower from (append prev prevterm chosen entries) answer =
    append_took w (record { kept = k; lost = follower }) from prev prevterm chosen entries
own_took w k (candidate voters gathered) from (append prev prevterm chosen entries) answer =
    append_took w (record { kept = k; lost = candidate voters gathered }) from prev prevterm chosen entries
own_took w k (leader confirmed) from (append prev prevterm chosen entries) answer = refl
own_took w k follower from (append_yes end) answer = refl
own_took w k (candidate voters gathered) from (append_yes end) answer = refl
own_took w k (leader confirmed) from (append_yes end) answer =
    end_took _ _ (ltb (length k.log) end) (ltb (for_hub confirmed from 0) end) ∙ rw (not_below (length k.log) end) refl
own_took w k l from (append_no n) answer = refl

-- No request of own term is permitted.
module _ (s : State) (from : ℕ) where
  request_not : (body : Body) → is_request body ≡ true → permits s from body ≡ false
  unfolding is_request permits
  request_not (vote_request last ballot) r = refl
  request_not (vote_yes last ballot entries) r = absurd (not_both false r refl)
  request_not vote_no r = absurd (not_both false r refl)
  request_not (append prev prevterm chosen entries) r = absurd (not_both false r refl)
  request_not (append_yes end) r = absurd (not_both false r refl)
  request_not (append_no length) r = absurd (not_both false r refl)

-- A message for this hub, by its term.
module _ (w : Who) (s : State) (m : Message) where
  abbrev higher : Bool
  higher = ltb s.kept.term m.term

  abbrev own : Bool
  own = eqb m.term s.kept.term

  -- A stale one has no higher term, and the rules permit nothing of it.
  stale_not : is_stale s m ≡ true → (higher || (own && permits s m.from m.body)) ≡ false
  unfolding is_stale
  stale_not t =
      let lower = ltb m.term s.kept.term in
      or_either lower (own && is_request m.body) t
      (λ e.
      let below = ltb-true m.term s.kept.term e in
      let no : higher ≡ false = le-ltb s.kept.term m.term (omega arith) in
      let other : own ≡ false = ne_eqb m.term s.kept.term (λ z. omega arith) in
      rw (no, other) refl)
      (λ e.
      let same = eqb-true m.term s.kept.term (and_first own (is_request m.body) e) in
      let no : higher ≡ false = le-ltb s.kept.term m.term (omega arith) in
      rw (no, request_not s m.from m.body (and_second own (is_request m.body) e)) (and-false own))

  -- One that is neither stale nor of a higher term is of own term, and no request.
  rest_is_own : is_stale s m ≡ false → higher ≡ false → (own ≡ true) × (is_request m.body ≡ false)
  unfolding is_stale
  rest_is_own t u =
      let lower = ltb m.term s.kept.term in
      let same : own ≡ true = eq-eqb m.term s.kept.term
      (omega (arith, ltb-false m.term s.kept.term (or_first lower (own && is_request m.body) t), ltb-false s.kept.term m.term u)) in
      (same, rw same at (or_second lower (own && is_request m.body) t))

-- By the tests of receive, in their order.
pub receive_takes : MessageTakesEffect
unfolding happens receive takes_effect
receive_takes w s m =
    let exactly : Next → Type 0 = λ n. took n ≡ takes_effect w s m in
    cond_either exactly (is_misaddressed w m) (λ a. rw a refl)
    (λ a.
    cond_either exactly (is_stale s m) (λ b. rw (a, stale_not w s m b) refl)
    (λ b.
    cond_either exactly (ltb s.kept.term m.term)
    (λ c. let r = follower_at s m.term in rw (a, c, after_raise_done r (rule w r m.from m.body)) refl)
    (λ c. let (same, answer) = rest_is_own w s m b c in rw (a, c, same) (own_took w s.kept s.lost m.from m.body answer))))
