-- Propose: the leader adds a client's command at the next place, where none of its majority reported a vote. Assumes nothing.
use Prim.Native.Nat.{ℕ, zero, suc, ◌+◌, ◌≤◌, ◌<◌}
use native.Mathlib.Omega.{arith}
use native.Mathlib.Decide.{dec_lt}
use mathlib.Core.Path.{◌≡◌, refl, sym, ◌∙◌, ap, fun_ext, subst}
use mathlib.Core.Logic.{◌≢◌}
use mathlib.Core.Bool.{true}
use mathlib.Core.List.{List, [], ◌∷◌, ◌++◌}
use mathlib.Core.Option.{Option, none, some}
use lib.Dec.{leb, eqb}
use lib.ListN.{length, get_elem?, length-append}
use Rattle.kinds.specs.Sizes.{limit, Group, hub_of}
use Rattle.command.specs.Command.{Command}
use Rattle.command.specs.Entry.{Entry}
use Rattle.state.specs.State.{Kept, Lost, follower, candidate, leader, State}
use Rattle.state.specs.Legal.{legal_lost}
use Rattle.rules.specs.Outcome.{Next, done}
use Rattle.rules.specs.Events.{leads, with_entry, propose_leading, propose}
use Rattle.kinds.proofs.BoolLaws.{cond_either}
use Rattle.state.proofs.LegalLaws.{IsLeader, legal_leader_is}
use Rattle.rules.proofs.LegalLaws.{IsWho}
use Rattle.paxos.specs.Put.{put}
use Rattle.paxos.specs.Paxos.{at, client's, asked, ◌∈◌}
use Rattle.paxos.proofs.Member.{clash}
use Rattle.paxos.proofs.PutLaws.{put_cases}
use Rattle.views.specs.Hall.{Hall}
use Rattle.views.proofs.Moves.{as_view, extend}
use Rattle.home.specs.View.{entry_counts, holds_of, view_of}
use Rattle.home.specs.Stands.{Logs, Ground, Rooted}
use Rattle.kinds.proofs.AtLaws.{at_in, at_out, at_first, at_second}
use Rattle.home.proofs.ViewLaws.{holds_entry, holds_none}
use Rattle.home.proofs.Frame.{Goes, stays}
use Rattle.home.proofs.Grow.{grown_goes}
use Rattle.home.proofs.Start.{is_hub_lem}

-- An entry behind a log.
at_last : (l : List Entry) (e : Entry) → get_elem? (l ++ (e ∷ [])) (length l) ≡ some e
at_last l e = let q : length l ≡ length l + 0 = omega arith in ap (get_elem? (l ++ (e ∷ []))) q ∙ at_second l (e ∷ []) 0

-- What a log and one more entry counts as.
held_more :
    (b : ℕ) (l : List Entry) (e : Entry) (p : ℕ)
    → put (holds_of b l) (suc (length l)) (at b e.command) p ≡ holds_of b (l ++ (e ∷ [])) p
unfolding holds_of
held_more b l e =
    put_cases (λ p x. x ≡ holds_of b (l ++ (e ∷ [])) p) (holds_of b l) (suc (length l)) (at b e.command)
    (sym (holds_entry b (l ++ (e ∷ [])) (length l) e (at_last l e)))
    other
  where
    -- Elsewhere nothing has changed.
    at_other : (i : ℕ) → i ≢ length l → Dec (i < length l) → get_elem? l i ≡ get_elem? (l ++ (e ∷ [])) i
    at_other i ne (yes lt) = let (f, q) = at_in l i lt in q ∙ sym (at_first l (e ∷ []) i f q)
    at_other i ne (no ge) =
        let le : length l + 1 ≤ i = omega arith in
        at_out l i (omega arith) ∙ sym (at_out (l ++ (e ∷ [])) i (simp length-append (omega arith)))

    other : (p : ℕ) → p ≢ suc (length l) → holds_of b l p ≡ holds_of b (l ++ (e ∷ [])) p
    other zero ne = refl
    other (suc i) ne = ap (entry_counts b) (at_other i (omega arith) (dec_lt i (length l)))

module _ {G : Group} {H : Hall Command} {made : Logs} (ok : Ground G H made) {h : ℕ} (w : IsWho (hub_of G h)) where
  -- The hub leads, its ballot being its term.
  added :
      (t n : ℕ) (log : List Entry) (confirmed : List ℕ) (c : Command)
      → let k : Kept = record { term = t; ballot = t; chosen = n; log = log } in
      Rooted G H made h (record { kept = k; lost = leader confirmed }) → h ≤ length confirmed → asked c ∈ H.past
      → Goes G H made h (leads (hub_of G h) (with_entry k c) confirmed) none
  unfolding with_entry leads
  added t n log confirmed c f within a =
      let e : Entry = record { term = t; command = c } in
      let r = f.role in
      let longer : length (log ++ (e ∷ [])) ≡ length log + 1 = length-append log (e ∷ []) in
      let x =
      extend ok.faithful (is_hub_lem w) f.view r.backers r.seen (suc (length log)) c r.leads
      (λ g q. r.free g _ q (omega arith))
      (client's a)
      (λ d q. let none-there = holds_none t log (suc (length log)) (omega arith) in clash (cc)) in
      grown_goes ok
      (record {
        term = t;
        chosen = n;
        log = log;
        more = e ∷ [];
        move =
            as_view x
            (λ i.
            record { term = t; holds = fun_ext (held_more t log e) i; says = (view_of (record { term = t; ballot = t; chosen = n; log = log })).says });
        ballot = t;
        low = omega arith;
        part = f.prefix;
        own = own;
        keeps = λ i d q. at_first log (e ∷ []) i d (rw r.whole q);
        backers = r.backers;
        seen = r.seen;
        leads = r.leads;
        free = λ g p q lt. r.free g p q (omega arith);
        confirmed = confirmed;
        first = w.first;
        within = within;
        backed = r.backed;
      })
    where
      own : (i : ℕ) (d : Entry) → get_elem? (record { term = t; command = c } ∷ []) i ≡ some d → d.term ≡ t
      own zero d q = let same : ◌≡◌ {A = Entry} (record { term = t; command = c }) d = cc in ap (λ (x : Entry). x.term) (sym same)
      own (suc i) d q = clash (cc)

  -- The kept parts with this ballot.
  abbrev at_ballot : Kept → ℕ → Kept
  at_ballot k b = record { term = k.term; ballot = b; chosen = k.chosen; log = k.log }

  leading_goes :
      (k : Kept) (confirmed : List ℕ) (c : Command) → Rooted G H made h (record { kept = k; lost = leader confirmed })
      → IsLeader (hub_of G h) k confirmed → asked c ∈ H.past → Goes G H made h (leads (hub_of G h) (with_entry k c) confirmed) none
  leading_goes k confirmed c f l a =
      subst
      (λ (b : ℕ).
      Rooted G H made h (record { kept = at_ballot k b; lost = leader confirmed })
      → Goes G H made h (leads (hub_of G h) (with_entry (at_ballot k b) c) confirmed) none)
      (sym l.ballot)
      (λ g. added k.term k.chosen k.log confirmed c g (omega (arith, l.seven, w.last, w.most)) a)
      f

  -- At a hub that leads, what is proposed was asked for if it is taken.
  at_leader :
      (k : Kept) (confirmed : List ℕ) (o : Option Command) → Rooted G H made h (record { kept = k; lost = leader confirmed })
      → IsLeader (hub_of G h) k confirmed
      → let n = propose_leading (hub_of G h) (record { kept = k; lost = leader confirmed }) confirmed o in
      ((c : Command) → o ≡ some c → eqb n.outcome done ≡ true → asked c ∈ H.past)
      → Goes G H made h n.state n.message
  unfolding propose_leading
  at_leader k confirmed none f l a = stays ok f tt
  at_leader k confirmed (some c) f l a =
      cond_either (λ (n : Next). (eqb n.outcome done ≡ true → asked c ∈ H.past) → Goes G H made h n.state n.message) (leb limit (length k.log))
      (λ e b. stays ok f tt)
      (λ e b. leading_goes k confirmed c f l (b refl))
      (a c refl)

  at_role :
      (k : Kept) (l : Lost) (o : Option Command) → Rooted G H made h (record { kept = k; lost = l }) → legal_lost (hub_of G h) k l ≡ true
      → let n = propose (hub_of G h) (record { kept = k; lost = l }) o in
      ((c : Command) → o ≡ some c → eqb n.outcome done ≡ true → asked c ∈ H.past)
      → Goes G H made h n.state n.message
  unfolding propose legal_lost
  at_role k follower o f legal a = stays ok f tt
  at_role k (candidate voters gathered) o f legal a = stays ok f tt
  at_role k (leader confirmed) o f legal a = at_leader k confirmed o f (legal_leader_is (hub_of G h) k confirmed legal) a

  -- Any proposal, at any hub; what is taken was asked for.
  pub propose_goes :
      {s : State} → Rooted G H made h s → legal_lost (hub_of G h) s.kept s.lost ≡ true → (o : Option Command)
      → ((c : Command) → o ≡ some c → eqb (propose (hub_of G h) s o).outcome done ≡ true → asked c ∈ H.past)
      → Goes G H made h (propose (hub_of G h) s o).state (propose (hub_of G h) s o).message
  propose_goes {s} f legal o a = at_role s.kept s.lost o f legal a
