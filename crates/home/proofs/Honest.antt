-- What one hub of a home wrote contradicts no other: one hub leads a term, what a leader is told was stored is in its log, and a yes tells
-- a candidate of its own length and of no higher ballot. So 7, like 2 and 4, is never given to an honest hub's message. Assumes nothing.
use Prim.Native.Nat.{ℕ, ◌≤◌}
use native.Mathlib.Omega.{arith}
use mathlib.Core.Path.{◌≡◌, refl, ap, subst}
use mathlib.Core.Logic.{◌≢◌, ◌⊎◌, inl, inr}
use mathlib.Core.Bool.{Bool, true, false, not, ◌&&◌, ◌||◌}
use mathlib.Core.List.{List}
use mathlib.Core.Option.{Option, none, some}
use borrow.Author.Tests.{eqb-false, eq-eqb, ltb-true, ltb-false, le-ltb, not-false}
use lib.Dec.{eqb, leb, ltb}
use lib.ListN.{length}
use Rattle.kinds.specs.Sizes.{Group, Who, hub_of, is_hub, limit, term_most}
use Rattle.command.specs.Command.{Command}
use Rattle.command.specs.Proposal.{read_proposal}
use Rattle.command.specs.Entry.{Entry}
use Rattle.message.specs.Message.{Message, Body, vote_request, vote_yes, vote_no, append, append_yes, append_no}
use Rattle.message.specs.Legal.{legal_to, legal_message}
use Rattle.state.specs.State.{Kept, Lost, follower, candidate, leader, State}
use Rattle.rules.specs.Outcome.{Next, done, not_addressed, contradicting}
use Rattle.rules.specs.Events.{is_leader, is_candidate, len, start, propose_leading, propose, send, restart}
use Rattle.rules.specs.Receive.{Effect, idle, effect, is_misaddressed, is_request, is_stale, contradicts, follower_at, after_raise, at_own_term, receive}
use Rattle.rules.specs.Happens.{Occasion, to_start, to_propose, to_send, to_restart, to_receive, happens}
use Rattle.kinds.proofs.BoolLaws.{or_first, or_second, cond_either}
use Rattle.rules.proofs.LegalLaws.{legal_message_is}
use Rattle.paxos.proofs.Member.{clash}
use Rattle.views.specs.Hall.{Hall}
use Rattle.views.proofs.Theorems.{one_leader}
use Rattle.kinds.proofs.AtLaws.{at_lt}
use Rattle.home.specs.Stands.{Logs, Ground, Backs, TrueBody, True, InRole, Rooted}
use Rattle.home.specs.Facts.{Stood, Echoes}
use Rattle.home.proofs.Receive.{addressed}

-- ---- no honest message contradicts

module _ {G : Group} {H : Hall Command} {made : Logs} (ok : Ground G H made) {h : ℕ} (k : Kept) (l : Lost) (f : Rooted G H made h (record { kept = k; lost = l })) where
  -- A vote-yes at the hub that asked for it.
  yes_agrees :
      (last ballot : ℕ) (entries : List Entry) → Stood (record { kept = k; lost = l }) k.term last ballot
      → contradicts (record { kept = k; lost = l }) (vote_yes last ballot entries) ≡ false
  unfolding contradicts
  yes_agrees last ballot entries x = by (is_candidate (record { kept = k; lost = l })) refl
    where
      by : (b : Bool) → is_candidate (record { kept = k; lost = l }) ≡ b → (b && (not (eqb last (length k.log)) || ltb k.ballot ballot)) ≡ false
      by true e = let (a, low) = x.still refl e in rw (eq-eqb last (length k.log) a, le-ltb k.ballot ballot low) refl
      by false e = refl

  -- An append of another hub.
  append_agrees :
      (from prev prevterm chosen : ℕ) (entries : List Entry) → from ≢ h
      → TrueBody G H made k.term from 0 (append prev prevterm chosen entries)
      → contradicts (record { kept = k; lost = l }) (append prev prevterm chosen entries) ≡ false
  unfolding contradicts is_leader
  append_agrees from prev prevterm chosen entries ne x = by l f.role
    where
      by : (l : Lost) → InRole G H made h k l → is_leader (record { kept = k; lost = l }) ≡ false
      by follower r = refl
      by (candidate voters gathered) r = refl
      by (leader confirmed) r = absurd (ne (one_leader ok.faithful x.leads r.leads))

  -- An append-yes.
  end_agrees : (from end : ℕ) → Backs H made from k.term end → contradicts (record { kept = k; lost = l }) (append_yes end) ≡ false
  unfolding contradicts is_leader
  end_agrees from end b = by l f.role
    where
      by : (l : Lost) → InRole G H made h k l → (is_leader (record { kept = k; lost = l }) && ltb (length k.log) end) ≡ false
      by follower r = refl
      by (candidate voters gathered) r = refl
      by (leader confirmed) r = within (ltb (length k.log) end) refl
        where
          within : (y : Bool) → ltb (length k.log) end ≡ y → y ≡ false
          within true e =
              let (x, there, v) = b (length k.log) (ltb-true (length k.log) end e) in
              absurd (omega (arith, at_lt (made k.term) (length k.log) x there, ap (λ (m : List Entry). length m) r.whole))
          within false e = refl

-- Whatever it is: true, for this hub or for all, and from another.
agrees :
    {G : Group} {H : Hall Command} {made : Logs} → Ground G H made → {h : ℕ} (states : ℕ → State) → Rooted G H made h (states h)
    → (from to : ℕ) (b : Body) → from ≢ h → legal_to to b ≡ true → (eqb to h || eqb to 0) ≡ true
    → TrueBody G H made (states h).kept.term from to b → Echoes states (states h).kept.term from to b
    → contradicts (states h) b ≡ false
unfolding contradicts legal_to
agrees ok states f from to (vote_request last ballot) ne legal mine t x = refl
agrees ok {h} states f from to (vote_yes last ballot entries) ne legal mine t x =
    yes_agrees ok (states h).kept (states h).lost f last ballot entries
    (subst (λ (g : ℕ). Stood (states g) (states h).kept.term last ballot) (addressed h to legal mine) x)
agrees ok states f from to vote_no ne legal mine t x = refl
agrees ok {h} states f from to (append prev prevterm chosen entries) ne legal mine t x =
    append_agrees ok (states h).kept (states h).lost f from prev prevterm chosen entries ne t
agrees ok {h} states f from to (append_yes end) ne legal mine t x = end_agrees ok (states h).kept (states h).lost f from end t
agrees ok states f from to (append_no n) ne legal mine t x = refl

-- ---- so 7 is not given

-- What a message of own term that contradicts nothing comes to.
own_agrees : (s : State) (e : Effect) → (at_own_term s e).outcome ≡ contradicting → ⊥
unfolding at_own_term
own_agrees s idle q = clash (cc)
own_agrees s (effect next m) q = clash (cc)

higher_agrees : (s : State) (e : Effect) → (after_raise s e).outcome ≡ contradicting → ⊥
unfolding after_raise
higher_agrees s idle q = clash (cc)
higher_agrees s (effect next m) q = clash (cc)

pub never_contradicting :
    {G : Group} {H : Hall Command} {made : Logs} → Ground G H made → {h : ℕ} (states : ℕ → State) → Rooted G H made h (states h)
    → (m : Message) → True G H made m → legal_message m ≡ true → Echoes states m.term m.from m.to m.body
    → (receive (hub_of G h) (states h) m).outcome ≡ contradicting → ⊥
unfolding receive is_misaddressed is_stale
never_contradicting {G} {H} {made} ok {h} states f m t lm x =
    let s = states h in
    let P : Next → Type 0 = λ n. n.outcome ≡ contradicting → ⊥ in
    let far = ltb G.size m.from in
    let self = eqb m.from h in
    let astray = not (eqb m.to h || eqb m.to 0) in
    let old = ltb m.term s.kept.term in
    let again = eqb m.term s.kept.term && is_request m.body in
    cond_either P (far || (self || astray)) (λ z q. clash (cc))
    (λ z.
    cond_either P (old || again) (λ y q. clash (cc))
    (λ y.
    cond_either P (ltb s.kept.term m.term) (λ v. higher_agrees (follower_at s m.term) _)
    (λ v.
    let same : m.term ≡ s.kept.term = omega (arith, ltb-false s.kept.term m.term v, ltb-false m.term s.kept.term (or_first old again y)) in
    let fine : contradicts s m.body ≡ false =
    agrees ok states f m.from m.to m.body
    (eqb-false m.from h (or_first self astray (or_second far (self || astray) z)))
    (legal_message_is m lm).to
    (not-false (eqb m.to h || eqb m.to 0) (or_second self astray (or_second far (self || astray) z)))
    (subst (λ (n : ℕ). TrueBody G H made n m.from m.to m.body) same t)
    (subst (λ (n : ℕ). Echoes states n m.from m.to m.body) same x) in
    cond_either P (contradicts s m.body) (λ u. clash (cc)) (λ u. own_agrees s _))))

-- ---- the outcomes of events

-- An event's outcome is 0, or comes after those of the call: 5 and up.
abbrev Beyond : Next → Type 0
Beyond n = (n.outcome ≡ done) ⊎ (not_addressed ≤ n.outcome)

own_beyond : (s : State) (e : Effect) → Beyond (at_own_term s e)
unfolding at_own_term
own_beyond s idle = inr (omega arith)
own_beyond s (effect next m) = inl refl

raised_beyond : (s : State) (e : Effect) → Beyond (after_raise s e)
unfolding after_raise
raised_beyond s idle = inl refl
raised_beyond s (effect next m) = inl refl

propose_beyond : (w : Who) (k : Kept) (l : Lost) (o : Option Command) → Beyond (propose w (record { kept = k; lost = l }) o)
unfolding propose propose_leading
propose_beyond w k follower o = inr (omega arith)
propose_beyond w k (candidate voters gathered) o = inr (omega arith)
propose_beyond w k (leader confirmed) none = inr (omega arith)
propose_beyond w k (leader confirmed) (some c) = cond_either Beyond (leb limit (length k.log)) (λ e. inr (omega arith)) (λ e. inl refl)

pub happens_beyond : (w : Who) (s : State) (o : Occasion) → Beyond (happens w s o)
unfolding happens start send restart receive
happens_beyond w s to_start =
    cond_either Beyond (is_leader s) (λ e. inr (omega arith))
    (λ e. cond_either Beyond (eqb s.kept.term term_most) (λ e. inr (omega arith)) (λ e. inl refl))
happens_beyond w s (to_propose bytes) = propose_beyond w s.kept s.lost (read_proposal bytes)
happens_beyond w s (to_send peer prev) =
    cond_either Beyond (not (is_leader s)) (λ e. inr (omega arith))
    (λ e. cond_either Beyond (not (is_hub w.size peer) || (eqb peer w.own || ltb (len s) prev)) (λ e. inr (omega arith)) (λ e. inl refl))
happens_beyond w s to_restart = inl refl
happens_beyond w s (to_receive m) =
    cond_either Beyond (is_misaddressed w m) (λ e. inr (omega arith))
    (λ e.
    cond_either Beyond (is_stale s m) (λ e. inr (omega arith))
    (λ e.
    cond_either Beyond (ltb s.kept.term m.term) (λ e. raised_beyond (follower_at s m.term) _)
    (λ e. cond_either Beyond (contradicts s m.body) (λ e. inr (omega arith)) (λ e. own_beyond s _))))
