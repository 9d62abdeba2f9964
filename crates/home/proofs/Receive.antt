-- Receive: a true message, whatever it says, takes a hub to where it may go. Assumes nothing.
use Prim.Native.Nat.{ℕ, ◌≤◌, ◌<◌}
use native.Mathlib.Omega.{arith}
use mathlib.Core.Path.{◌≡◌, refl, subst}
use mathlib.Core.Bool.{true, false, not, ◌&&◌, ◌||◌}
use mathlib.Core.List.{List}
use borrow.Author.Tests.{eqb-true, eq-eqb, ltb-true, ltb-false, not-false}
use lib.Dec.{eqb, ltb}
use lib.ListN.{length}
use Rattle.kinds.specs.Sizes.{between, hubs_most, Group, hub_of}
use Rattle.command.specs.Command.{Command}
use Rattle.command.specs.Entry.{Entry}
use Rattle.message.specs.Message.{Message, Body, vote_request, vote_yes, vote_no, append, append_yes, append_no}
use Rattle.message.specs.Legal.{legal_to, legal_body, legal_message}
use Rattle.state.specs.State.{Kept, Lost, follower, candidate, leader, State}
use Rattle.state.specs.Legal.{legal_lost}
use Rattle.rules.specs.Outcome.{Next}
use Rattle.rules.specs.Events.{is_leader, is_candidate, says, with_term}
use Rattle.rules.specs.Receive.{
  Effect,
  idle,
  effect,
  heard_yes,
  heard_end,
  rule,
  is_misaddressed,
  is_request,
  is_stale,
  stale_reply,
  contradicts,
  follower_at,
  after_raise,
  at_own_term,
  receive,
}
use Rattle.kinds.proofs.BoolLaws.{or_first, or_second, or_either, cond_either}
use Rattle.kinds.proofs.BetweenLaws.{between_true}
use Rattle.state.proofs.LegalLaws.{legal_candidate_is, legal_leader_is}
use Rattle.rules.proofs.LegalLaws.{IsWho, legal_message_is}
use Rattle.message.proofs.LegalLaws.{append_is}
use Rattle.paxos.proofs.Member.{clash}
use Rattle.views.specs.Hall.{Hall}
use Rattle.views.specs.Moves.{Move}
use Rattle.home.specs.View.{machine, view_of}
use Rattle.home.specs.Stands.{Logs, Ground, Backs, TrueBody, True, Yields, Rooted}
use Rattle.home.proofs.Frame.{body_on, TrueOf, Goes, later, ground_on, stays, goes_on}
use Rattle.home.proofs.By.{GoesBy}
use Rattle.home.proofs.Append.{and_false, append_goes}
use Rattle.home.proofs.End.{end_goes}
use Rattle.home.proofs.Request.{raised_move, request_goes}
use Rattle.home.proofs.Yes.{yes_goes}

-- ---- words

-- Who is addressed by a vote-yes.
pub addressed : (own to : ℕ) → between 1 hubs_most to ≡ true → (eqb to own || eqb to 0) ≡ true → to ≡ own
addressed own to legal t =
    or_either (eqb to own) (eqb to 0) t (λ z. eqb-true to own z)
    (λ z. absurd (omega (arith, eqb-true to 0 z, (between_true 1 hubs_most to legal).0)))

-- No message contradicts a follower.
follower_agrees : (k : Kept) (b : Body) → contradicts (record { kept = k; lost = follower }) b ≡ false
unfolding contradicts is_leader is_candidate
follower_agrees k (vote_request last ballot) = refl
follower_agrees k (vote_yes last ballot entries) = refl
follower_agrees k vote_no = refl
follower_agrees k (append prev prevterm chosen entries) = refl
follower_agrees k (append_yes end) = refl
follower_agrees k (append_no n) = refl

-- A message of the term t that is true, legal, from a hub of the group and not for another.
record Arrives (G : Group) (H : Hall Command) (made : Logs) (h t from to : ℕ) (b : Body) : Type 0 where
  true_says : TrueBody G H made t from to b
  allowed : legal_to to b ≡ true
  legal : legal_body t b ≡ true
  first : 1 ≤ from
  last : from ≤ G.size
  mine : (eqb to h || eqb to 0) ≡ true

-- ---- a message of own term

module _ {G : Group} {H : Hall Command} {made : Logs} (ok : Ground G H made) {h : ℕ} (w : IsWho (hub_of G h)) where
  -- A vote-yes that does not contradict the hub.
  hears_yes :
      (k : Kept) (l : Lost) → Rooted G H made h (record { kept = k; lost = l }) → legal_lost (hub_of G h) k l ≡ true
      → (from last ballot : ℕ) (entries : List Entry) → Yields H from k.term h last ballot entries → 1 ≤ from → from ≤ G.size
      → contradicts (record { kept = k; lost = l }) (vote_yes last ballot entries) ≡ false
      → GoesBy G H made h (record { kept = k; lost = l }) (heard_yes (hub_of G h) (record { kept = k; lost = l }) from ballot entries)
  unfolding heard_yes legal_lost contradicts is_candidate
  hears_yes k follower f legal from last ballot entries y lo hi agrees = stays ok f tt
  hears_yes k (candidate voters gathered) f legal from last ballot entries y lo hi agrees =
      let elsewhere = not (eqb last (length k.log)) in
      let above = ltb k.ballot ballot in
      let at-end = eqb-true last (length k.log) (not-false (eqb last (length k.log)) (or_first elsewhere above agrees)) in
      yes_goes ok w k voters gathered f (legal_candidate_is (hub_of G h) k voters gathered legal) from ballot entries lo hi
      (subst (λ (n : ℕ). Yields H from k.term h n ballot entries) at-end y)
      (ltb-false k.ballot ballot (or_second elsewhere above agrees))
  hears_yes k (leader confirmed) f legal from last ballot entries y lo hi agrees = stays ok f tt

  -- An append-yes.
  hears_end :
      (k : Kept) (l : Lost) → Rooted G H made h (record { kept = k; lost = l }) → legal_lost (hub_of G h) k l ≡ true
      → (from end : ℕ) → Backs H made from k.term end → 1 ≤ from → from ≤ G.size
      → GoesBy G H made h (record { kept = k; lost = l }) (heard_end (hub_of G h) (record { kept = k; lost = l }) from end)
  unfolding heard_end legal_lost
  hears_end k follower f legal from end b lo hi = stays ok f tt
  hears_end k (candidate voters gathered) f legal from end b lo hi = stays ok f tt
  hears_end k (leader confirmed) f legal from end b lo hi =
      end_goes ok w k confirmed f (legal_leader_is (hub_of G h) k confirmed legal) from end lo hi b

  -- The rule for each type.
  obeys :
      {s : State} → Rooted G H made h s → legal_lost (hub_of G h) s.kept s.lost ≡ true
      → (from to : ℕ) (b : Body) → Arrives G H made h s.kept.term from to b → is_request b ≡ false → contradicts s b ≡ false
      → GoesBy G H made h s (rule (hub_of G h) s from b)
  unfolding rule is_request legal_to
  obeys f legal from to (vote_request last ballot) x r agrees = clash (cc)
  obeys {s} f legal from to (vote_yes last ballot entries) x r agrees =
      hears_yes s.kept s.lost f legal from last ballot entries
      (subst (λ (n : ℕ). Yields H from s.kept.term n last ballot entries) (addressed h to x.allowed x.mine) x.true_says)
      x.first x.last agrees
  obeys f legal from to vote_no x r agrees = stays ok f tt
  obeys {s} f legal from to (append prev prevterm chosen entries) x r agrees =
      append_goes ok w f from prev prevterm chosen entries (append_is s.kept.term prev prevterm chosen entries x.legal).known x.true_says
  obeys {s} f legal from to (append_yes end) x r agrees = hears_end s.kept s.lost f legal from end x.true_says x.first x.last
  obeys f legal from to (append_no n) x r agrees = stays ok f tt

-- ---- the whole event

module _ {G : Group} {H : Hall Command} {made : Logs} (ok : Ground G H made) {h : ℕ} (w : IsWho (hub_of G h)) {s : State} (f : Rooted G H made h s) where
  -- A message of a higher term: the hub reaches that term first, and obeys there as a follower.
  obeys_above :
      (t from to : ℕ) (b : Body) → s.kept.term < t → Arrives G H made h t from to b → is_request b ≡ false
      → GoesBy G H made h (follower_at s t) (rule (hub_of G h) (follower_at s t) from b)
  unfolding follower_at with_term legal_lost
  obeys_above t from to b higher a r =
      by (rule (hub_of G h) (follower_at s t) from b)
      (obeys (ground_on ok x.acts) w (record { view = x.mine; prefix = f.prefix; role = tt }) refl from to b later_on r (follower_agrees _ b))
    where
      x : Move (machine G) H h (view_of (follower_at s t).kept)
      x = raised_move ok w f t higher

      later_on : Arrives G x.hall made h t from to b
      later_on =
          record {
            true_says = body_on (later ok x.acts) G t from to b a.true_says;
            allowed = a.allowed;
            legal = a.legal;
            first = a.first;
            last = a.last;
            mine = a.mine;
          }

      by : (e : Effect) → GoesBy G x.hall made h (follower_at s t) e → GoesBy G H made h (follower_at s t) e
      by idle g = goes_on ok x g
      by (effect next m) g = goes_on ok x g

  higher_goes :
      (t from to : ℕ) (b : Body) → s.kept.term < t → Arrives G H made h t from to b → GoesBy G H made h (follower_at s t) (rule (hub_of G h) (follower_at s t) from b)
  unfolding rule is_request
  higher_goes t from to (vote_request last ballot) up a = request_goes ok w f t up from last ballot
  higher_goes t from to (vote_yes last ballot entries) up a = obeys_above t from to _ up a refl
  higher_goes t from to vote_no up a = obeys_above t from to _ up a refl
  higher_goes t from to (append prev prevterm chosen entries) up a = obeys_above t from to _ up a refl
  higher_goes t from to (append_yes end) up a = obeys_above t from to _ up a refl
  higher_goes t from to (append_no n) up a = obeys_above t from to _ up a refl

  -- A refusal that answers says nothing that anybody relies on.
  stale_true : (from : ℕ) (b : Body) → TrueOf G H made (stale_reply (hub_of G h) s from b)
  unfolding stale_reply says
  stale_true from (vote_request last ballot) = tt
  stale_true from (vote_yes last ballot entries) = tt
  stale_true from vote_no = tt
  stale_true from (append prev prevterm chosen entries) = tt
  stale_true from (append_yes end) = tt
  stale_true from (append_no n) = tt

  -- The outcome's number is no matter here.
  raised_goes : (t : ℕ) (e : Effect) → GoesBy G H made h (follower_at s t) e → let n = after_raise (follower_at s t) e in Goes G H made h n.state n.message
  unfolding after_raise
  raised_goes t idle g = g
  raised_goes t (effect next m) g = g

  own_goes : (e : Effect) → GoesBy G H made h s e → let n = at_own_term s e in Goes G H made h n.state n.message
  unfolding at_own_term
  own_goes idle g = g
  own_goes (effect next m) g = g

  -- A true message.
  pub receive_goes :
      (m : Message) → True G H made m → legal_message m ≡ true → legal_lost (hub_of G h) s.kept s.lost ≡ true
      → Goes G H made h (receive (hub_of G h) s m).state (receive (hub_of G h) s m).message
  unfolding receive is_misaddressed is_stale
  receive_goes m t lm legal =
      let P : Next → Type 0 = λ n. Goes G H made h n.state n.message in
      let l = legal_message_is m lm in
      let far = ltb G.size m.from in
      let self = eqb m.from h in
      let astray = not (eqb m.to h || eqb m.to 0) in
      let old = ltb m.term s.kept.term in
      let again = eqb m.term s.kept.term && is_request m.body in
      cond_either P (far || (self || astray)) (λ z. stays ok f tt)
      (λ z.
      let a : Arrives G H made h m.term m.from m.to m.body =
      record {
        true_says = t;
        allowed = l.to;
        legal = l.body;
        first = l.from;
        last = ltb-false G.size m.from (or_first far (self || astray) z);
        mine = not-false (eqb m.to h || eqb m.to 0) (or_second self astray (or_second far (self || astray) z));
      } in
      cond_either P (old || again) (λ y. stays ok f (stale_true m.from m.body))
      (λ y.
      cond_either P (ltb s.kept.term m.term)
      (λ x. raised_goes m.term _ (higher_goes m.term m.from m.to m.body (ltb-true s.kept.term m.term x) a))
      (λ x.
      let same : m.term ≡ s.kept.term = omega (arith, ltb-false s.kept.term m.term x, ltb-false m.term s.kept.term (or_first old again y)) in
      let plain = and_false (eqb m.term s.kept.term) (is_request m.body) (or_second old again y) (eq-eqb m.term s.kept.term same) in
      cond_either P (contradicts s m.body) (λ v. stays ok f tt)
      (λ v.
      own_goes _
      (obeys ok w f legal m.from m.to m.body
      (subst (λ (n : ℕ). Arrives G H made h n m.from m.to m.body) same a) plain v)))))
