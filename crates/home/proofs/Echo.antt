-- A hub that asked for votes keeps its log and its ballot as long as it stands: so the request, and every yes to it, goes on telling of the
-- hub what is so. That is why no honest vote-yes contradicts a candidate. Assumes nothing.
use Prim.Native.Nat.{ℕ, ◌+◌, ◌≤◌, ◌<◌}
use native.Mathlib.Omega.{arith}
use mathlib.Core.Path.{◌≡◌, refl, sym, ◌∙◌, ap, subst}
use mathlib.Core.Logic.{◌≢◌}
use mathlib.Core.Bool.{true, false, not, ◌&&◌, ◌||◌}
use mathlib.Core.List.{List}
use mathlib.Core.Option.{Option, none, some}
use borrow.Author.Tests.{eqb-false, eq-eqb, ltb-true, ltb-false}
use lib.Dec.{eqb, leb, ltb}
use lib.ListN.{length}
use Rattle.kinds.specs.Sizes.{Group, Who, hub_of, is_hub, majority, limit, term_most}
use Rattle.kinds.specs.Hubs.{for_hub, set_hub, count}
use Rattle.command.specs.Command.{Command}
use Rattle.command.specs.Proposal.{read_proposal}
use Rattle.command.specs.Entry.{Entry}
use Rattle.message.specs.Message.{Message, Body, vote_request, vote_yes, vote_no, append, append_yes, append_no}
use Rattle.state.specs.State.{Kept, Lost, follower, candidate, leader, State}
use Rattle.rules.specs.Outcome.{Next}
use Rattle.rules.specs.Events.{is_leader, is_candidate, len, says, with_term, leads, started, asks, start, propose_leading, propose, sends, send, restart}
use Rattle.rules.specs.Receive.{
  Effect,
  idle,
  effect,
  ballot_told,
  vote,
  counted,
  heard_yes,
  fits,
  heard_append,
  recorded,
  heard_end,
  rule,
  is_misaddressed,
  is_request,
  is_stale,
  stale_reply,
  contradicts,
  follower_at,
  after_raise,
  at_own_term,
  receive,
}
use Rattle.rules.specs.Happens.{Occasion, to_start, to_propose, to_send, to_restart, to_receive, happens}
use Rattle.kinds.proofs.BoolLaws.{or_first, or_second, cond_either}
use Rattle.rules.proofs.VoteLaws.{vote_either}
use Rattle.paxos.specs.Put.{put}
use Rattle.paxos.proofs.Member.{clash}
use Rattle.paxos.proofs.PutLaws.{put_same, put_other}
use Rattle.home.specs.Facts.{Stood, Echoes}
use Rattle.home.proofs.Append.{and_false}

-- ---- the hub that asked

-- A hub that is a candidate after an event, at the term before it, was one before it, and keeps what it kept.
abbrev pub Stays : State → State → Type 0
Stays s n = n.kept.term ≡ s.kept.term → is_candidate n ≡ true → (is_candidate s ≡ true) × (n.kept ≡ s.kept)

-- So what was told of it stays so.
pub stood_on :
    (s n : State) (t last ballot : ℕ) → s.kept.term ≤ n.kept.term → Stays s n → Stood s t last ballot → Stood n t last ballot
stood_on s n t last ballot up stays x =
    record {
      up = omega (arith, x.up);
      still =
          λ e c.
          let same : n.kept.term ≡ s.kept.term = omega (arith, x.up) in
          let (was, kept) = stays same c in
          let (a, b) = x.still (e ∙ same) was in
          (a ∙ sym (ap (λ (k : Kept). length k.log) kept), omega (arith, ap (λ (k : Kept). k.ballot) kept));
    }

-- And of a lower ballot all the more.
stood_low : (s : State) (t last ballot low : ℕ) → low ≤ ballot → Stood s t last ballot → Stood s t last low
stood_low s t last ballot low le x = record { up = x.up; still = λ e c. let (a, b) = x.still e c in (a, omega arith) }

-- ---- what an event's proof has to give

-- What a message tells, if there is one.
abbrev pub EchoOf : (ℕ → State) → Option Message → Type 0
EchoOf states none = Unit {0}
EchoOf states (some m) = Echoes states m.term m.from m.to m.body

-- Hub h, of these states, comes to this.
pub record Polite (states : ℕ → State) (h : ℕ) (n : Next) : Type 0 where
  pub stays : Stays (states h) n.state
  pub wrote : EchoOf (put states h n.state) n.message

-- What the rules do with a message.
abbrev PoliteBy : (ℕ → State) → ℕ → State → Effect → Type 0
PoliteBy states h s idle = Stays (states h) s
PoliteBy states h s (effect next m) = Polite states h (record { outcome = 0; state = next; message = m })

-- A message that says nothing of the hub that asked.
abbrev Plain : Body → Type 0
Plain (vote_request last ballot) = ⊥
Plain (vote_yes last ballot entries) = ⊥
Plain vote_no = Unit {0}
Plain (append prev prevterm chosen entries) = Unit {0}
Plain (append_yes end) = Unit {0}
Plain (append_no n) = Unit {0}

plain_echo : (states : ℕ → State) (t from to : ℕ) (b : Body) → Plain b → Echoes states t from to b
plain_echo states t from to (vote_request last ballot) p = absurd p
plain_echo states t from to (vote_yes last ballot entries) p = absurd p
plain_echo states t from to vote_no p = tt
plain_echo states t from to (append prev prevterm chosen entries) p = tt
plain_echo states t from to (append_yes end) p = tt
plain_echo states t from to (append_no n) p = tt

-- A hub that has not changed.
unchanged : (s : State) → Stays s s
unchanged s e c = (c, refl)

-- A hub that is no candidate, or has gone to another term.
not_candidate : (s n : State) → is_candidate n ≡ false → Stays s n
not_candidate s n f e c = clash (cc)

other_term : (s n : State) → s.kept.term < n.kept.term → Stays s n
other_term s n up e c = absurd (omega arith)

module _ (G : Group) (h : ℕ) (states : ℕ → State) where
  abbrev s : State
  s = states h

  abbrev w : Who
  w = hub_of G h

  -- ---- the hub's own events

  start_polite : Polite states h (start w s)
  unfolding start started with_term asks says
  start_polite =
      cond_either (Polite states h) (is_leader s) (λ e. record { stays = unchanged s; wrote = tt })
      (λ e.
      cond_either (Polite states h) (eqb s.kept.term term_most) (λ e. record { stays = unchanged s; wrote = tt })
      (λ e.
      record {
        stays = other_term s (started w s) (omega arith);
        wrote =
            subst (λ (x : State). Stood x (s.kept.term + 1) (len s) s.kept.ballot) (sym (put_same states h (started w s)))
            (record { up = omega arith; still = λ e c. (refl, omega arith) });
      }))

  propose_polite : (o : Option Command) → Polite states h (propose w s o)
  unfolding propose propose_leading leads is_candidate
  propose_polite o = by s.kept s.lost refl o
    where
      by : (k : Kept) (l : Lost) → s ≡ record { kept = k; lost = l } → (o : Option Command) → Polite states h (propose w (record { kept = k; lost = l }) o)
      by k follower e o = record { stays = rw e (unchanged (record { kept = k; lost = follower })); wrote = tt }
      by k (candidate voters gathered) e o = record { stays = rw e (unchanged (record { kept = k; lost = candidate voters gathered })); wrote = tt }
      by k (leader confirmed) e none = record { stays = rw e (unchanged (record { kept = k; lost = leader confirmed })); wrote = tt }
      by k (leader confirmed) e (some c) =
          cond_either (Polite states h) (leb limit (length k.log))
          (λ t. record { stays = rw e (unchanged (record { kept = k; lost = leader confirmed })); wrote = tt })
          (λ t. record { stays = λ same c. clash (cc); wrote = tt })

  send_polite : (peer prev : ℕ) → Polite states h (send w s peer prev)
  unfolding send sends says
  send_polite peer prev =
      cond_either (Polite states h) (not (is_leader s)) (λ e. record { stays = unchanged s; wrote = tt })
      (λ e.
      cond_either (Polite states h) (not (is_hub G.size peer) || (eqb peer h || ltb (len s) prev)) (λ e. record { stays = unchanged s; wrote = tt })
      (λ e. record { stays = unchanged s; wrote = tt }))

  restart_polite : Polite states h (restart s.kept)
  unfolding restart is_candidate
  restart_polite = record { stays = λ e c. clash (cc); wrote = tt }

  -- ---- messages

  -- An append, at a hub of any state: it is a follower afterwards.
  append_polite : (r : State) (from prev prevterm chosen : ℕ) (entries : List Entry) → PoliteBy states h r (heard_append w r from prev prevterm chosen entries)
  unfolding heard_append is_candidate says
  append_polite r from prev prevterm chosen entries =
      cond_either (PoliteBy states h r) (fits r.kept prev prevterm (prev + length entries))
      (λ t. record { stays = λ e c. clash (cc); wrote = tt })
      (λ t. record { stays = λ e c. clash (cc); wrote = tt })

  -- A vote-yes: a candidate that goes on standing keeps what it keeps.
  yes_polite :
      (r : State) → Stays s r → (is_candidate r ≡ true → s ≡ r) → (from ballot : ℕ) (entries : List Entry)
      → PoliteBy states h r (heard_yes w r from ballot entries)
  unfolding heard_yes is_candidate counted leads
  yes_polite r stays same from ballot entries = by r.kept r.lost stays same
    where
      by :
          (k : Kept) (l : Lost) → Stays s (record { kept = k; lost = l })
          → (is_candidate (record { kept = k; lost = l }) ≡ true → s ≡ record { kept = k; lost = l })
          → PoliteBy states h (record { kept = k; lost = l }) (heard_yes w (record { kept = k; lost = l }) from ballot entries)
      by k follower stays same = stays
      by k (candidate voters gathered) stays same =
          cond_either (PoliteBy states h (record { kept = k; lost = candidate voters gathered })) (for_hub voters from false)
          (λ again. stays)
          (λ t.
          cond_either (λ (n : State). Polite states h (record { outcome = 0; state = n; message = none })) (leb (majority G.size) (count (λ v. v) (set_hub voters from true)))
          (λ m. record { stays = λ e c. clash (cc); wrote = tt })
          (λ m. record { stays = λ e c. (rw (same refl) refl, ap (λ (x : State). x.kept) (sym (same refl))); wrote = tt }))
      by k (leader confirmed) stays same = stays

  -- An append-yes: who records it leads.
  end_polite : (r : State) → Stays s r → (from end : ℕ) → PoliteBy states h r (heard_end w r from end)
  unfolding heard_end is_candidate recorded
  end_polite r stays from end = by r.kept r.lost stays
    where
      by :
          (k : Kept) (l : Lost) → Stays s (record { kept = k; lost = l })
          → PoliteBy states h (record { kept = k; lost = l }) (heard_end w (record { kept = k; lost = l }) from end)
      by k follower stays = stays
      by k (candidate voters gathered) stays = stays
      by k (leader confirmed) stays =
          cond_either (PoliteBy states h (record { kept = k; lost = leader confirmed })) (ltb (for_hub confirmed from 0) end)
          (λ t. record { stays = λ e c. clash (cc); wrote = tt })
          (λ t. stays)

  -- The rule for each type but the request.
  rule_polite :
      (r : State) → Stays s r → (is_candidate r ≡ true → s ≡ r) → (from : ℕ) (b : Body) → is_request b ≡ false → PoliteBy states h r (rule w r from b)
  unfolding rule is_request
  rule_polite r stays same from (vote_request last ballot) q = clash (cc)
  rule_polite r stays same from (vote_yes last ballot entries) q = yes_polite r stays same from ballot entries
  rule_polite r stays same from vote_no q = stays
  rule_polite r stays same from (append prev prevterm chosen entries) q = append_polite r from prev prevterm chosen entries
  rule_polite r stays same from (append_yes end) q = end_polite r stays from end
  rule_polite r stays same from (append_no n) q = stays

  -- A message of a higher term: the hub is a follower of that term first.
  module _ (t : ℕ) (up : s.kept.term < t) (from : ℕ) (ne : from ≢ h) where
    -- A vote-request of another hub: the yes to it tells what the request told.
    vote_polite :
        (last ballot : ℕ) → Stood (states from) t last ballot
        → Polite states h (record { outcome = 0; state = follower_at s t; message = some (says w (follower_at s t) from (vote (follower_at s t).kept last ballot)) })
    unfolding says follower_at with_term
    vote_polite last ballot x =
        let told = ballot_told (len s) s.kept.ballot in
        record {
          stays = other_term s (follower_at s t) up;
          wrote =
              vote_either (follower_at s t).kept last (Echoes (put states h (follower_at s t)) t h from) ballot
              (λ low.
              subst (λ (y : State). Stood y t last told) (sym (put_other states h (follower_at s t) from ne))
              (stood_low (states from) t last ballot told low x))
              (λ high. tt);
        }

    higher_polite : (to : ℕ) (b : Body) → Echoes states t from to b → PoliteBy states h (follower_at s t) (rule w (follower_at s t) from b)
    unfolding rule is_request is_candidate follower_at with_term
    higher_polite to (vote_request last ballot) x = vote_polite last ballot x
    higher_polite to (vote_yes last ballot entries) x = rule_polite (follower_at s t) (other_term s (follower_at s t) up) (λ c. clash (cc)) from (vote_yes last ballot entries) refl
    higher_polite to vote_no x = other_term s (follower_at s t) up
    higher_polite to (append prev prevterm chosen entries) x = append_polite (follower_at s t) from prev prevterm chosen entries
    higher_polite to (append_yes end) x = end_polite (follower_at s t) (other_term s (follower_at s t) up) from end
    higher_polite to (append_no n) x = other_term s (follower_at s t) up

  -- The outcome's number is no matter here.
  raised_polite : (r : State) (e : Effect) → PoliteBy states h r e → Polite states h (after_raise r e)
  unfolding after_raise
  raised_polite r idle p = record { stays = p; wrote = tt }
  raised_polite r (effect next m) p = record { stays = p.stays; wrote = p.wrote }

  own_polite : (e : Effect) → PoliteBy states h s e → Polite states h (at_own_term s e)
  unfolding at_own_term
  own_polite idle p = record { stays = p; wrote = tt }
  own_polite (effect next m) p = record { stays = p.stays; wrote = p.wrote }

  stale_polite : (from : ℕ) (b : Body) → EchoOf (put states h s) (stale_reply w s from b)
  unfolding stale_reply says
  stale_polite from (vote_request last ballot) = tt
  stale_polite from (vote_yes last ballot entries) = tt
  stale_polite from vote_no = tt
  stale_polite from (append prev prevterm chosen entries) = tt
  stale_polite from (append_yes end) = tt
  stale_polite from (append_no n) = tt

  receive_polite : (m : Message) → Echoes states m.term m.from m.to m.body → Polite states h (receive w s m)
  unfolding receive is_misaddressed is_stale
  receive_polite m x =
      let far = ltb G.size m.from in
      let self = eqb m.from h in
      let astray = not (eqb m.to h || eqb m.to 0) in
      let old = ltb m.term s.kept.term in
      let again = eqb m.term s.kept.term && is_request m.body in
      cond_either (Polite states h) (far || (self || astray)) (λ z. record { stays = unchanged s; wrote = tt })
      (λ z.
      cond_either (Polite states h) (old || again) (λ y. record { stays = unchanged s; wrote = stale_polite m.from m.body })
      (λ y.
      cond_either (Polite states h) (ltb s.kept.term m.term)
      (λ v.
      raised_polite (follower_at s m.term) _
      (higher_polite m.term (ltb-true s.kept.term m.term v) m.from
      (eqb-false m.from h (or_first self astray (or_second far (self || astray) z))) m.to m.body x))
      (λ v.
      let same : m.term ≡ s.kept.term = omega (arith, ltb-false s.kept.term m.term v, ltb-false m.term s.kept.term (or_first old again y)) in
      let plain = and_false (eqb m.term s.kept.term) (is_request m.body) (or_second old again y) (eq-eqb m.term s.kept.term same) in
      cond_either (Polite states h) (contradicts s m.body) (λ u. record { stays = unchanged s; wrote = tt })
      (λ u. own_polite _ (rule_polite s (unchanged s) (λ c. refl) m.from m.body plain)))))

  -- Any event; what it receives tells what is so.
  pub event_polite : (o : Occasion) → ((m : Message) → o ≡ to_receive m → Echoes states m.term m.from m.to m.body) → Polite states h (happens w s o)
  unfolding happens
  event_polite to_start x = start_polite
  event_polite (to_propose bytes) x = propose_polite (read_proposal bytes)
  event_polite (to_send peer prev) x = send_polite peer prev
  event_polite to_restart x = restart_polite
  event_polite (to_receive m) x = receive_polite m (x m refl)
