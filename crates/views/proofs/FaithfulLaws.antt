-- Each action keeps the invariant, and the machine takes the steps behind it. Assumes nothing.
-- The route: one hub leads a term, since a report is given once and two majorities share a hub (`one_leader`). So where the leader
-- of a term holds nothing of that term, nothing is proposed (`unproposed`), and the machine may propose there.
use mathlib.Core.Path.{◌≡◌, refl, sym}
use mathlib.Core.Logic.{◌≢◌}
use mathlib.Core.Bool.{Bool}
use mathlib.Core.List.{List, ◌∷◌}
use Prim.Native.Nat.{ℕ, ◌<◌}
use native.Mathlib.Omega.{arith}
use Rattle.paxos.specs.Put.{put}
use Rattle.paxos.specs.Paxos.{Can, Machine, Seen, at, Happening, asked, proposed, voted, History, ◌∈◌, here, there, ◌⊆◌, promise, Steps, Run}
use Rattle.paxos.proofs.PutLaws.{put_cases, put_same}
use Rattle.paxos.proofs.QuorumLaws.{share}
use Rattle.paxos.proofs.Member.{clash, new, as_in}
use Rattle.paxos.proofs.Steps.{steps_one, steps_trans, steps_keep}
use Rattle.paxos.proofs.Safe.{unique}
use Rattle.views.specs.Hall.{View, with_term, with_vote, Gift, Hall, giving, turned, Leads, gave}
use Rattle.views.specs.Faithful.{Keeps, Owns, Authored, Faithful}
use Rattle.views.specs.Acts.{Act, to_ask, to_raise, to_give, to_make, to_take, to_say}
use Rattle.views.proofs.KeepsLaws.{keeps_event, keeps_gift, keeps_raise, keeps_say, keeps_vote}

-- ---- who leads, and what it proposed

-- Who leads goes on leading.
pub leads_on :
    {C : Type 0} {M : Machine C} {G G' : List (Gift C)} {t h : ℕ} {Q : ℕ → Bool} {seen : ℕ → ℕ → Seen C}
    → G ⊆ G' → Leads M G t h Q seen → Leads M G' t h Q seen
leads_on sub x = record { most = x.most; all = λ g q. sub _ (x.all g q) }

module _ {C : Type 0} {M : Machine C} {H : Hall C} (ok : Faithful M H) where
  -- One hub leads a term.
  pub one_leader :
      {t h g : ℕ} {P Q : ℕ → Bool} {x y : ℕ → ℕ → Seen C}
      → Leads M H.gifts t h P x → Leads M H.gifts t g Q y → h ≡ g
  one_leader {t} {h} {g} {P} {Q} {x} {y} a b =
      let sh = share M.size P Q a.most b.most in
      ok.once sh.hub t h g _ _ (a.all _ sh.first) (b.all _ sh.second)

  -- What is proposed at the leader's term it holds.
  pub leader_holds :
      {t h p : ℕ} {c : C} {Q : ℕ → Bool} {x : ℕ → ℕ → Seen C} → Leads M H.gifts t h Q x
      → t ≡ (H.view h).term → proposed t p c ∈ H.past → (H.view h).holds p ≡ at t c
  leader_holds {t} {h} {p} {c} l e m =
      let x = ok.authored t p c m in
      let same : x.hub ≡ h = one_leader x.leads l in
      let own : Owns (H.view h) t p c = rw same at x.owns in
      own.mine e

-- ---- the machine's steps

module _ {C : Type 0} {M : Machine C} {H : Hall C} (ok : Faithful M H) where
  -- Behind each action the machine takes zero or more steps.
  pub act_steps : {J : Hall C} → Act M H J → Steps M H.past J.past
  unfolding promise
  act_steps to_ask = steps_one Can.can_ask
  act_steps (to_raise {h} is lt) = let pr = (ok.hubs h).promised in steps_one (Can.can_raise is (omega arith))
  act_steps (to_give {h} is un) = steps_one (Can.can_report is (ok.hubs h).promised (ok.hubs h).held)
  act_steps (to_make {h} Q seen is l pick un) =
      let pr = (ok.hubs h).promised in
      Steps.then_step
      (steps_one (Can.can_propose Q seen l.most (λ g q. ok.given g _ _ _ (l.all g q)) pick (λ d m. un d (leader_holds ok l refl m))))
      (Can.can_vote is here (omega arith))
  act_steps (to_take {h} is m) = let pr = (ok.hubs h).promised in steps_one (Can.can_vote is m (omega arith))
  act_steps (to_say w more all) = Steps.no_step

-- ---- the invariant, action by action

-- Having raised its term, a hub owns what it owned.
owns_raise : {C : Type 0} {v : View C} {t k p : ℕ} {c : C} → v.term < k → Owns v t p c → Owns (with_term v k) t p c
owns_raise lt o = let up = o.up in record { up = omega arith; mine = λ e. absurd (omega arith) }

-- Having voted at its term, a hub owns what it owned: at one place and term nothing else is proposed.
owns_vote :
    {C : Type 0} {M : Machine C} {s : History C} {v : View C} {t p q : ℕ} {c d : C}
    → Run M s → proposed v.term p c ∈ s → proposed t q d ∈ s → Owns v t q d → Owns (with_vote v p c) t q d
owns_vote {s} {v} {t} {p} {q} {c} {d} run m n o =
    record {
      up = o.up;
      mine =
          λ e.
          put_cases (λ k x. proposed t k d ∈ s → v.holds k ≡ at t d → x ≡ at t d) v.holds p (at v.term c)
          (λ n' h. let same = unique run (rw (sym e) at m) n' in cc)
          (λ k ne n' h. h)
          q n (o.mine e);
    }

-- Whose a proposal is stays so when more is given.
authored_given :
    {C : Type 0} {M : Machine C} {G G' : List (Gift C)} {view : ℕ → View C} {t p : ℕ} {c : C}
    → G ⊆ G' → Authored M G view t p c → Authored M G' view t p c
authored_given sub x = record { hub = x.hub; backers = x.backers; seen = x.seen; leads = leads_on sub x.leads; owns = x.owns }

-- And when hub `h` has another view that owns it if the one before did.
authored_turned :
    {C : Type 0} {M : Machine C} {G : List (Gift C)} {t p : ℕ} {c : C} (view : ℕ → View C) (h : ℕ) (v : View C)
    → (Owns (view h) t p c → Owns v t p c) → Authored M G view t p c → Authored M G (put view h v) t p c
authored_turned {t} {p} {c} view h v own x =
    record {
      hub = x.hub;
      backers = x.backers;
      seen = x.seen;
      leads = x.leads;
      owns = put_cases (λ g w. Owns (view g) t p c → Owns w t p c) view h v own (λ g ne o. o) x.hub x.owns;
    }

-- A run but for its last event is a run.
run_before : {C : Type 0} {M : Machine C} {s : History C} {e : Happening C} → Run M (e ∷ s) → Run M s
run_before (Steps.then_step r k) = r

module _ {C : Type 0} {M : Machine C} {H : Hall C} (ok : Faithful M H) where
  -- One hub has another view after its action: what is left to prove, the frame being done.
  turned_faithful :
      {s : History C} (h : ℕ) (v : View C)
      → Act M H (turned H s h v)
      → Keeps M s H.gifts h v
      → ((g : ℕ) → g ≢ h → Keeps M s H.gifts g (H.view g))
      → ((t p : ℕ) (c : C) → proposed t p c ∈ s → Authored M H.gifts (put H.view h v) t p c)
      → Faithful M (turned H s h v)
  turned_faithful {s} h v a own others proposals =
      record {
        run = steps_trans ok.run (act_steps ok a);
        hubs = put_cases (Keeps M s H.gifts) H.view h v own others;
        given = λ g t l x m. steps_keep (act_steps ok a) _ (ok.given g t l x m);
        once = ok.once;
        authored = proposals;
      }

  -- A hub has given its report: what is left to prove is that it did so once.
  given_faithful :
      (h l : ℕ)
      → Act M H (giving H h l)
      → ((g t m n : ℕ) (x y : ℕ → Seen C) → gave g t m x ∈ (giving H h l).gifts → gave g t n y ∈ (giving H h l).gifts → m ≡ n)
      → Faithful M (giving H h l)
  given_faithful h l a once =
      record {
        run = steps_trans ok.run (act_steps ok a);
        hubs = λ g. keeps_gift (keeps_event (ok.hubs g) _ tt) h _ l _ (λ e. rw e (omega arith));
        given = λ g t m x z. new z (λ e. as_in (cc) here) (λ old. there (ok.given g t m x old));
        once = once;
        authored = λ t p c m. new m (λ e. clash (cc)) (λ old. authored_given (λ a z. there z) (ok.authored t p c old));
      }

  -- The leader has made a proposal, which is its own.
  make_faithful :
      {h p : ℕ} {c : C} {Q : ℕ → Bool} {seen : ℕ → ℕ → Seen C}
      → Leads M H.gifts (H.view h).term h Q seen
      → Act M H (turned H (voted h (H.view h).term p c ∷ (proposed (H.view h).term p c ∷ H.past)) h (with_vote (H.view h) p c))
      → Faithful M (turned H (voted h (H.view h).term p c ∷ (proposed (H.view h).term p c ∷ H.past)) h (with_vote (H.view h) p c))
  make_faithful {h} {p} {c} {Q} {seen} l a =
      turned_faithful h v a
      (keeps_vote (keeps_event (ok.hubs h) _ tt) p c run here)
      (λ g ne. keeps_event (keeps_event (ok.hubs g) (proposed t p c) tt) _ ne)
      (λ k q d n. new n (λ e. clash (cc)) (λ n'. new n' now (λ old. authored_turned _ h v (owns_vote run here (there old)) (ok.authored k q d old))))
    where
      t : ℕ
      t = (H.view h).term

      v : View C
      v = with_vote (H.view h) p c

      run : Run M (proposed t p c ∷ H.past)
      run = run_before (steps_trans ok.run (act_steps ok a))

      mine : Owns v t p c
      mine = record { up = omega arith; mine = λ e. put_same (H.view h).holds p (at t c) }

      now : {k q : ℕ} {d : C} → proposed k q d ≡ proposed t p c → Authored M H.gifts (put H.view h v) k q d
      now {k} {q} {d} e =
          let k= : k ≡ t = cc in
          let q= : q ≡ p = cc in
          let d= : d ≡ c = cc in
          rw (k=, q=, d=) (record { hub = h; backers = Q; seen = seen; leads = l; owns = rw put_same mine })

  -- Every action keeps the invariant.
  pub act_faithful : {J : Hall C} → Act M H J → Faithful M J
  act_faithful (to_ask {c}) =
      record {
        run = Steps.then_step ok.run Can.can_ask;
        hubs = λ h. keeps_event (ok.hubs h) (asked c) tt;
        given = λ h t l x m. there (ok.given h t l x m);
        once = ok.once;
        authored = λ t p d m. new m (λ e. clash (cc)) (ok.authored t p d);
      }
  act_faithful (to_raise {h} {t} is lt) =
      turned_faithful h _ (to_raise is lt)
      (keeps_raise (ok.hubs h) t lt)
      (λ g ne. keeps_event (ok.hubs g) _ ne)
      (λ k p c m. new m (λ e. clash (cc)) (λ old. authored_turned _ h _ (owns_raise lt) (ok.authored k p c old)))
  act_faithful (to_give {h} {l} is un) =
      given_faithful h l (to_give is un)
      (λ g t m n x y a b.
      new a
      (λ e. new b (λ e'. cc) (λ old. absurd (un n y (as_in (cc) old))))
      (λ old. new b (λ e. absurd (un m x (as_in (cc) old))) (ok.once g t m n x y old)))
  act_faithful (to_make Q seen is l pick un) = make_faithful l (to_make Q seen is l pick un)
  act_faithful (to_take {h} {p} {c} is m) =
      turned_faithful h _ (to_take is m)
      (keeps_vote (ok.hubs h) p c ok.run m)
      (λ g ne. keeps_event (ok.hubs g) _ ne)
      (λ k q d n. new n (λ e. clash (cc)) (λ old. authored_turned _ h _ (owns_vote ok.run m old) (ok.authored k q d old)))
  act_faithful (to_say {h} w more all) =
      turned_faithful h _ (to_say w more all) (keeps_say (ok.hubs h) w all) (λ g ne. ok.hubs g)
      (λ t p c m. authored_turned _ h _ (λ o. record { up = o.up; mine = o.mine }) (ok.authored t p c m))
