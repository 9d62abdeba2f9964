-- Send: the leader's append is a part of its term's log, and what it reports is settled. Assumes nothing.
use Prim.Native.Nat.{ℕ, zero, suc, ◌+◌, ◌≤◌, ◌<◌}
use native.Mathlib.Omega.{arith}
use mathlib.Core.Path.{◌≡◌, sym, ◌∙◌, ap, subst}
use mathlib.Core.Bool.{true, not, ◌||◌}
use mathlib.Core.List.{List, [], ◌∷◌}
use mathlib.Core.Option.{some}
use borrow.Author.Tests.{not-false, ltb-false}
use lib.Dec.{eqb, ltb}
use lib.ListN.{length, drop, get_elem?}
use Rattle.kinds.specs.Sizes.{is_hub, Group, hub_of}
use Rattle.command.specs.Command.{Command}
use Rattle.command.specs.Entry.{Entry}
use Rattle.state.specs.State.{Kept, Lost, follower, candidate, leader, State}
use Rattle.rules.specs.Outcome.{Next}
use Rattle.rules.specs.Events.{is_leader, len, term_at, says, sends, send}
use Rattle.kinds.proofs.BoolLaws.{cond_either, or_second}
use Rattle.state.proofs.LegalLaws.{IsKept}
use Rattle.paxos.proofs.Member.{clash}
use Rattle.views.specs.Hall.{View, Hall}
use Rattle.views.specs.Faithful.{Settled, Known, Faithful}
use Rattle.home.specs.View.{machine, holds_of, view_of}
use Rattle.home.specs.Stands.{Logs, Ground, Follows, Carries, Rooted}
use Rattle.kinds.proofs.AtLaws.{at_in, at_drop}
use Rattle.home.proofs.ViewLaws.{holds_entry, lt_said}
use Rattle.home.proofs.Frame.{Goes, stays}

-- The term of an entry.
pub term_at_entry : (log : List Entry) (i : ℕ) (e : Entry) → get_elem? log i ≡ some e → term_at log (suc i) ≡ e.term
unfolding term_at
term_at_entry [] i e h = clash (cc)
term_at_entry (x ∷ log) zero e h = let same : x ≡ e = cc in ap (λ (y : Entry). y.term) same
term_at_entry (x ∷ log) (suc i) e h = term_at_entry log i e h

-- What a hub reports is settled.
chosen_settled :
    {G : Group} {H : Hall Command} → Faithful (machine G) H → (h : ℕ) (k : Kept) → H.view h ≡ view_of k
    → (i : ℕ) (e : Entry) → i < k.chosen → get_elem? k.log i ≡ some e → Settled (machine G) H.past k.term (suc i) e.command
chosen_settled {G} {H} ok h k v i e lt q =
    let said : (view_of k).says (suc i) ≡ true → Known (machine G) H.past k.term (suc i) (holds_of k.ballot k.log (suc i)) =
    subst (λ (u : View Command). u.says (suc i) ≡ true → Known (machine G) H.past u.term (suc i) (u.holds (suc i))) v ((ok.hubs h).said (suc i)) in
    let x = said (lt_said k.chosen i lt) in
    let is = x.is in
    let held = holds_entry k.ballot k.log i e q in
    let same : x.command ≡ e.command = cc in
    rw same at x.settled

-- What stands before a part of the log.
pub follows_log : (log : List Entry) (prev : ℕ) → prev ≤ length log → Follows log prev (term_at log prev)
follows_log log zero le = tt
follows_log log (suc i) le = let (e, q) = at_in log i (omega arith) in (e, q, sym (term_at_entry log i e q))

module _ {G : Group} {H : Hall Command} {made : Logs} (ok : Ground G H made) {h : ℕ} where
  -- The append that a leader sends.
  carries :
      (k : Kept) (confirmed : List ℕ) (prev : ℕ) → Rooted G H made h (record { kept = k; lost = leader confirmed }) → IsKept k
      → prev ≤ length k.log
      → Carries G H made k.term h prev (term_at k.log prev) k.chosen (drop prev k.log)
  carries k confirmed prev f legal le =
      let r = f.role in
      record {
        backers = r.backers;
        seen = r.seen;
        leads = r.leads;
        after = subst (λ (m : List Entry). Follows m prev (term_at k.log prev)) r.whole (follows_log k.log prev le);
        part = λ i e q. subst (λ (m : List Entry). get_elem? m (prev + i) ≡ some e) r.whole (sym (at_drop prev k.log i) ∙ q);
        settled =
            λ i lt.
            let (e, q) = at_in k.log i (omega (arith, legal.chosen)) in
            (e, subst (λ (m : List Entry). get_elem? m i ≡ some e) r.whole q, chosen_settled ok.faithful h k f.view i e lt q);
      }

  sends_goes :
      (k : Kept) (l : Lost) (peer prev : ℕ) → Rooted G H made h (record { kept = k; lost = l }) → IsKept k → prev ≤ length k.log
      → is_leader (record { kept = k; lost = l }) ≡ true
      → Goes G H made h (record { kept = k; lost = l }) (some (sends (hub_of G h) (record { kept = k; lost = l }) peer prev))
  unfolding is_leader sends says
  sends_goes k follower peer prev f legal le e = clash (cc)
  sends_goes k (candidate voters gathered) peer prev f legal le e = clash (cc)
  sends_goes k (leader confirmed) peer prev f legal le e = stays ok f (carries k confirmed prev f legal le)

  -- Any send, at any hub.
  pub send_goes :
      {s : State} → Rooted G H made h s → IsKept s.kept → (peer prev : ℕ)
      → Goes G H made h (send (hub_of G h) s peer prev).state (send (hub_of G h) s peer prev).message
  unfolding send
  send_goes {s} f legal peer prev =
      let P : Next → Type 0 = λ n. Goes G H made h n.state n.message in
      let outside = not (is_hub G.size peer) in
      let beyond = ltb (len s) prev in
      cond_either P (not (is_leader s)) (λ e. stays ok f tt)
      (λ e.
      cond_either P (outside || (eqb peer h || beyond)) (λ z. stays ok f tt)
      (λ z.
      let within = ltb-false (len s) prev (or_second (eqb peer h) beyond (or_second outside (eqb peer h || beyond) z)) in
      sends_goes s.kept s.lost peer prev f legal (omega arith) (not-false (is_leader s) e)))
