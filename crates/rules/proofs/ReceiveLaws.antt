-- Receive is fair, whatever it comes to, and outcome 13 is given exactly where rule R32 has it. Assumes nothing.
use Prim.Native.Nat.{ℕ, ◌≤◌, ◌<◌}
use native.Mathlib.Omega.{arith}
use mathlib.Core.Path.{◌≡◌, refl}
use mathlib.Core.Logic.{◌↔◌}
use mathlib.Core.Bool.{true, false, not, ◌&&◌, ◌||◌}
use mathlib.Core.Option.{none, some}
use borrow.Author.Tests.{eqb-true, eqb-false, le-leb, ltb-true, ltb-false}
use lib.Dec.{ltb, eqb}
use lib.ListN.{length}
use Rattle.kinds.specs.Sizes.{Who, between, hubs_most, limit}
use Rattle.message.specs.Message.{Message, Body, vote_request, vote_yes, vote_no, append, append_yes, append_no}
use Rattle.message.specs.Legal.{legal_to, legal_body}
use Rattle.state.specs.State.{Kept, State}
use Rattle.state.specs.Legal.{legal_state}
use Rattle.rules.specs.Outcome.{Next, done, stale, not_addressed, contradicting, nothing_new}
use Rattle.rules.specs.Events.{is_leader, is_candidate, len, says, with_term}
use Rattle.rules.specs.Receive.{Effect, idle, effect, vote, rule, is_misaddressed, is_request, is_stale, stale_reply, contradicts, follower_at, after_raise, at_own_term, receive}
use Rattle.rules.specs.Theorems.{Grows, SaysLegal, ChangesNothing, NothingNew}
use Rattle.kinds.proofs.BoolLaws.{and_first, and_either, or_either, or_first, or_second, cond_either, not_both}
use Rattle.kinds.proofs.BetweenLaws.{between_in}
use Rattle.rules.proofs.VoteLaws.{ballot_told_most, vote_either, yes_legal}
use Rattle.state.proofs.LegalLaws.{IsKept, legal_state_kept, follower_legal}
use Rattle.rules.proofs.LegalLaws.{IsWho, IsMessage}
use Rattle.message.proofs.LegalLaws.{request_is, yes_is, append_is}
use Rattle.rules.proofs.Fair.{Fair, Fine, idles, does, IsPeer, grows_same, grows_then, writes_none, writes_one, says_legal, some_not_none, refuses_fair, goes_fair}
use Rattle.rules.proofs.EventsLaws.{with_term_kept, with_term_grows}
use Rattle.rules.proofs.GatherLaws.{heard_yes_fine}
use Rattle.rules.proofs.AppendLaws.{heard_append_fine}
use Rattle.rules.proofs.EndLaws.{heard_end_fine}

module _ (w : Who) (i : IsWho w) where
  -- ---- vote-request at the follower of its term

  -- Either answer is legal, where the ballot is below the term.
  vote_legal :
      (k : Kept) (from last ballot : ℕ) → IsKept k → IsPeer w from → last ≤ limit → k.ballot < k.term
      → (legal_to from (vote k last ballot) ≡ true) × (legal_body k.term (vote k last ballot) ≡ true)
  unfolding legal_to legal_body
  vote_legal k from last ballot kept p within below =
      let peer = between_in 1 hubs_most from p.first (omega (arith, p.last, i.most)) in
      vote_either k last (λ (b : Body). (legal_to from b ≡ true) × (legal_body k.term b ≡ true)) ballot
      (λ low. (peer, yes_legal k last kept within (omega (arith, ballot_told_most (length k.log) k.ballot))))
      (λ high. (peer, refl))

  -- ---- the rule for each type

  module _ (s : State) (h : legal_state w s ≡ true) (first : 1 ≤ s.kept.term) (from : ℕ) (p : IsPeer w from) where
    peer : between 1 hubs_most from ≡ true
    peer = between_in 1 hubs_most from p.first (omega (arith, p.last, i.most))

    -- At a hub of the message's term that the message does not contradict; a vote-request only where the ballot is below the term.
    rule_fine :
        (body : Body) → legal_body s.kept.term body ≡ true → contradicts s body ≡ false → (is_request body ≡ true → s.kept.ballot < s.kept.term)
        → Fine w s (rule w s from body)
    unfolding rule is_request
    rule_fine (vote_request last ballot) b agrees new =
        let kept = legal_state_kept w s h in
        let answer = vote s.kept last ballot in
        let legal = vote_legal s.kept from last ballot kept p (request_is s.kept.term last ballot b).within (new refl) in
        does
        (record {
          legal = h;
          grows = grows_same s.kept;
          writes = writes_one w s (says w s from answer) (says_legal w i s s from answer refl first kept.term legal.0 legal.1);
        })
        (λ e. absurd (some_not_none e))
    rule_fine (vote_yes last ballot entries) b agrees new =
        heard_yes_fine w i from p s.kept s.lost last ballot entries (yes_is s.kept.term last ballot entries b) h agrees
    rule_fine vote_no b agrees new = idles
    rule_fine (append prev prevterm chosen entries) b agrees new =
        heard_append_fine w i s from prev prevterm chosen entries p h first (append_is s.kept.term prev prevterm chosen entries b)
    rule_fine (append_yes end) b agrees new = heard_end_fine w i from p s.kept s.lost end h agrees
    rule_fine (append_no length) b agrees new = idles

    -- ---- a stale message

    -- The reply is legal.
    stale_reply_says : (body : Body) (m : Message) → stale_reply w s from body ≡ some m → SaysLegal w s m
    unfolding stale_reply legal_to legal_body
    stale_reply_says (vote_request last ballot) =
        writes_one w s (says w s from vote_no) (says_legal w i s s from vote_no refl first (legal_state_kept w s h).term peer refl)
    stale_reply_says (vote_yes last ballot entries) = writes_none w s
    stale_reply_says vote_no = writes_none w s
    stale_reply_says (append prev prevterm chosen entries) =
        let kept = legal_state_kept w s h in
        writes_one w s (says w s from (append_no (len s)))
        (says_legal w i s s from (append_no (len s)) refl first kept.term peer (le-leb (len s) limit kept.within))
    stale_reply_says (append_yes end) = writes_none w s
    stale_reply_says (append_no length) = writes_none w s

    stale_reply_fair : (body : Body) → Fair w s (record { outcome = stale; state = s; message = stale_reply w s from body })
    stale_reply_fair body =
        record {
          sound = record { legal = h; grows = grows_same s.kept; writes = stale_reply_says body };
          leaves = λ f. refl;
          silent = λ f g. absurd (g refl);
        }

-- ---- a message of own term

module _ (w : Who) (s : State) where
  at_own_term_fair : legal_state w s ≡ true → (e : Effect) → Fine w s e → Fair w s (at_own_term s e)
  unfolding at_own_term
  at_own_term_fair h idle f = refuses_fair w s nothing_new h
  at_own_term_fair h (effect next message) (does sound new) = goes_fair w s next message sound

  -- Outcome 13 where nothing changes, and only there.
  at_own_term_new : (e : Effect) → Fine w s e → ((at_own_term s e).outcome ≡ nothing_new) ↔ ChangesNothing s e
  unfolding at_own_term
  at_own_term_new idle f = (λ e. tt, λ c. refl)
  at_own_term_new (effect next message) (does sound new) = (λ e. absurd (omega arith), λ c. absurd (new c.1 c.0))

-- ---- a message of a higher term

-- A follower of a higher term is contradicted by nothing.
pub raised_agrees : (s : State) (t : ℕ) (body : Body) → contradicts (follower_at s t) body ≡ false
unfolding follower_at contradicts is_leader is_candidate
raised_agrees s t (vote_request last ballot) = refl
raised_agrees s t (vote_yes last ballot entries) = refl
raised_agrees s t vote_no = refl
raised_agrees s t (append prev prevterm chosen entries) = refl
raised_agrees s t (append_yes end) = refl
raised_agrees s t (append_no length) = refl

-- Outcome 0 whatever follows.
pub after_raise_done : (r : State) (e : Effect) → (after_raise r e).outcome ≡ done
unfolding after_raise
after_raise_done r idle = refl
after_raise_done r (effect next message) = refl

after_raise_fair : (w : Who) (s r : State) (e : Effect) → legal_state w r ≡ true → Grows s.kept r.kept → Fine w r e → Fair w s (after_raise r e)
unfolding after_raise
after_raise_fair w s r idle h up f = goes_fair w s r none (record { legal = h; grows = up; writes = writes_none w r })
after_raise_fair w s r (effect next message) h up (does sound new) =
    goes_fair w s next message (record { legal = sound.legal; grows = grows_then up sound.grows; writes = sound.writes })

-- ---- the whole event

module _ (w : Who) (i : IsWho w) (s : State) (h : legal_state w s ≡ true) (m : Message) (legal : IsMessage m) where
  -- Who sent a message that is not misaddressed.
  pub sender : is_misaddressed w m ≡ false → IsPeer w m.from
  unfolding is_misaddressed
  sender t =
      let above = ltb w.size m.from in
      let own = eqb m.from w.own in
      let elsewhere = not (eqb m.to w.own || eqb m.to 0) in
      record {
        first = legal.from;
        last = ltb-false w.size m.from (or_first above (own || elsewhere) t);
        other = eqb-false m.from w.own (or_first own elsewhere (or_second above (own || elsewhere) t));
      }

  -- A stale message has at most the own term.
  pub stale_term : is_stale s m ≡ true → m.term ≤ s.kept.term
  unfolding is_stale
  stale_term t =
      let lower = ltb m.term s.kept.term in
      let own = eqb m.term s.kept.term in
      or_either lower (own && is_request m.body) t (λ e. omega (arith, ltb-true m.term s.kept.term e))
      (λ e. omega (arith, eqb-true m.term s.kept.term (and_first own (is_request m.body) e)))

  -- One that is not stale, and not of a higher term, has the own term.
  pub own_term : is_stale s m ≡ false → ltb s.kept.term m.term ≡ false → m.term ≡ s.kept.term
  unfolding is_stale
  own_term t u =
      let lower = ltb m.term s.kept.term in
      let own = eqb m.term s.kept.term in
      omega (arith, ltb-false m.term s.kept.term (or_first lower (own && is_request m.body) t), ltb-false s.kept.term m.term u)

  -- It is no request.
  own_answer : is_stale s m ≡ false → m.term ≡ s.kept.term → is_request m.body ≡ true → ⊥
  unfolding is_stale
  own_answer t same r =
      let lower = ltb m.term s.kept.term in
      let own = eqb m.term s.kept.term in
      and_either own (is_request m.body) (or_second lower (own && is_request m.body) t) (λ e. eqb-false m.term s.kept.term e same)
      (λ e. not_both (is_request m.body) r e)

  -- The rules at own term.
  own_fine :
      is_misaddressed w m ≡ false → is_stale s m ≡ false → ltb s.kept.term m.term ≡ false → contradicts s m.body ≡ false
      → Fine w s (rule w s m.from m.body)
  own_fine a b c d =
      let same = own_term b c in
      rule_fine w i s h (omega (arith, legal.term)) m.from (sender a) m.body (rw same at legal.body) d
      (λ r. absurd (own_answer b same r))

  -- The rules after a higher term.
  raised_fair :
      is_misaddressed w m ≡ false → s.kept.term < m.term
      → (let r = follower_at s m.term in Fair w s (after_raise r (rule w r m.from m.body)))
  unfolding follower_at with_term
  raised_fair a up =
      let r = follower_at s m.term in
      let kept = legal_state_kept w s h in
      let next = follower_legal w (with_term s.kept m.term) (with_term_kept s.kept m.term kept (omega arith) legal.last) in
      after_raise_fair w s r (rule w r m.from m.body) next (with_term_grows s.kept m.term (omega arith))
      (rule_fine w i r next legal.term m.from (sender a) m.body legal.body (raised_agrees s m.term m.body)
      (λ t. omega (arith, kept.ballot)))

  -- Each outcome in the order of rule R32.
  pub receive_fair : Fair w s (receive w s m)
  unfolding receive
  receive_fair =
      let fair = Fair w s in
      cond_either fair (is_misaddressed w m) (λ a. refuses_fair w s not_addressed h)
      (λ a.
      cond_either fair (is_stale s m)
      (λ b. stale_reply_fair w i s h (omega (arith, stale_term b, legal.term)) m.from (sender a) m.body)
      (λ b.
      cond_either fair (ltb s.kept.term m.term) (λ c. raised_fair a (ltb-true s.kept.term m.term c))
      (λ c.
      cond_either fair (contradicts s m.body) (λ d. refuses_fair w s contradicting h)
      (λ d.
      at_own_term_fair w s h (rule w s m.from m.body) (own_fine a b c d)))))

  -- Outcome 13 where there is nothing new, and only there.
  pub receive_new : ((receive w s m).outcome ≡ nothing_new) ↔ NothingNew w s m
  unfolding receive
  receive_new =
      let exactly : Next → Type 0 = λ n. (n.outcome ≡ nothing_new) ↔ NothingNew w s m in
      cond_either exactly (is_misaddressed w m) (λ a. (λ e. absurd (omega arith), λ n. absurd (not_both (is_misaddressed w m) a n.addressed)))
      (λ a.
      cond_either exactly (is_stale s m) (λ b. (λ e. absurd (omega arith), λ n. absurd (not_both (is_stale s m) b n.fresh)))
      (λ b.
      cond_either exactly (ltb s.kept.term m.term)
      (λ c.
      let r = follower_at s m.term in (
        λ e. absurd (omega (arith, after_raise_done r (rule w r m.from m.body))),
        λ n. absurd (omega (arith, ltb-true s.kept.term m.term c, n.own_term)),
      ))
      (λ c.
      cond_either exactly (contradicts s m.body)
      (λ d. (λ e. absurd (omega arith), λ n. absurd (not_both (contradicts s m.body) d n.agrees)))
      (λ d.
      let both = at_own_term_new w s (rule w s m.from m.body) (own_fine a b c d) in (
        λ e. record { addressed = a; fresh = b; own_term = own_term b c; agrees = d; unchanged = both.0 e },
        λ n. both.1 n.unchanged,
      )))))
