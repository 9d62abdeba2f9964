-- What every engine gets that proves its hubs' steps to be actions: from a faithful hall, over any sequence of actions,
-- the machine runs along (`acts_steps`), the hall is faithful again (`acts_faithful`), what a hub says is chosen is (`says_chosen`), no two
-- hubs ever say different commands of one place (`says_agree`), a hub goes on saying what it said (`says_stay`), and
-- some client asked for it, or it is the machine's own (`says_valid`). The fresh hall is faithful (`first_faithful`). One hub leads a term
-- (`one_leader`, passed on here), and what is proposed at its term is what it holds (`leader_proposed`).
-- Assumes nothing.
use mathlib.Core.Path.{◌≡◌, refl}
use mathlib.Core.Logic.{◌↔◌}
use mathlib.Core.Bool.{Bool, true}
use Prim.Native.Nat.{ℕ}
use Rattle.paxos.specs.Put.{put}
use Rattle.paxos.specs.Paxos.{Wanted, Machine, Seen, at, proposed, voted, ◌∈◌, there, ◌⊆◌, Highest, Steps, Chosen}
use Rattle.paxos.proofs.PutLaws.{put_cases}
use Rattle.paxos.proofs.Member.{clash, nothing}
use Rattle.paxos.proofs.Steps.{steps_trans, steps_keep}
use Rattle.paxos.proofs.Theorems.{agree_later, valid}
use Rattle.paxos.proofs.Safe.{voted_proposed, told}
use Rattle.views.specs.Hall.{View, gave, Hall, first, Leads, Says}
use Rattle.views.specs.Faithful.{Faithful}
use Rattle.views.specs.Acts.{Act, to_ask, to_raise, to_give, to_make, to_take, to_say, Acts, no_act, then_act}
pub use Rattle.views.proofs.FaithfulLaws.{one_leader}
use Rattle.views.proofs.FaithfulLaws.{leader_holds, act_steps, act_faithful}

-- ---- sequences of actions

-- The fresh hall is faithful.
pub first_faithful : {C : Type 0} (M : Machine C) → Faithful M first
first_faithful M =
    record {
      run = Steps.no_step;
      hubs =
          λ h.
          record {
            promised = unfold Rattle.paxos.specs.Paxos.promise in refl;
            held = λ p b c m. nothing m;
            low = λ p b c e. clash (cc);
            early = λ t l x m. nothing m;
            said = λ p e. clash (cc);
          };
      given = λ h t l x m. nothing m;
      once = λ h t l m x y a b. nothing a;
      authored = λ t p c m. nothing m;
    }

-- If one hub's next view reports the place again, all hubs report as before.
turned_says :
    {C : Type 0} (H : Hall C) (g : ℕ) (v : View C) (p : ℕ) → ((H.view g).says p ≡ true → v.says p ≡ true)
    → (h : ℕ) → (H.view h).says p ≡ true → (put H.view g v h).says p ≡ true
turned_says H g v p own = put_cases (λ k w. (H.view k).says p ≡ true → w.says p ≡ true) H.view g v own (λ k ne e. e)

module _ {C : Type 0} {M : Machine C} where
  -- Actions after actions are actions.
  pub acts_trans : {H I J : Hall C} → Acts M H I → Acts M I J → Acts M H J
  acts_trans a no_act = a
  acts_trans a (then_act b k) = then_act (acts_trans a b) k

  -- After any actions the hall is faithful again.
  pub acts_faithful : {H J : Hall C} → Faithful M H → Acts M H J → Faithful M J
  acts_faithful ok no_act = ok
  acts_faithful ok (then_act a k) = act_faithful (acts_faithful ok a) k

  -- Behind any actions the machine takes zero or more steps.
  pub acts_steps : {H J : Hall C} → Faithful M H → Acts M H J → Steps M H.past J.past
  acts_steps ok no_act = Steps.no_step
  acts_steps ok (then_act a k) = steps_trans (acts_steps ok a) (act_steps (acts_faithful ok a) k)

  -- Nothing is lost of the machine's history.
  pub acts_keep : {H J : Hall C} → Faithful M H → Acts M H J → H.past ⊆ J.past
  acts_keep ok a = steps_keep (acts_steps ok a)

  act_gifts : {H J : Hall C} → Act M H J → H.gifts ⊆ J.gifts
  act_gifts to_ask g m = m
  act_gifts (to_raise is lt) g m = m
  act_gifts (to_give is un) g m = there m
  act_gifts (to_make Q seen is l pick un) g m = m
  act_gifts (to_take is n) g m = m
  act_gifts (to_say w more all) g m = m

  -- What was given stays given.
  pub acts_gifts : {H J : Hall C} → Acts M H J → H.gifts ⊆ J.gifts
  acts_gifts no_act g m = m
  acts_gifts (then_act a k) g m = act_gifts k g (acts_gifts a g m)

  act_says : {H J : Hall C} → Act M H J → (h p : ℕ) → (H.view h).says p ≡ true → (J.view h).says p ≡ true
  act_says to_ask h p e = e
  act_says {H} (to_raise is lt) h p e = turned_says H _ _ p (λ e. e) h e
  act_says (to_give is un) h p e = e
  act_says {H} (to_make Q seen is l pick un) h p e = turned_says H _ _ p (λ e. e) h e
  act_says {H} (to_take is n) h p e = turned_says H _ _ p (λ e. e) h e
  act_says {H} (to_say w more all) h p e = turned_says H _ _ p (more p) h e

  -- A place that a hub reports it goes on reporting.
  acts_says : {H J : Hall C} → Acts M H J → (h p : ℕ) → (H.view h).says p ≡ true → (J.view h).says p ≡ true
  acts_says no_act h p e = e
  acts_says (then_act a k) h p e = act_says k h p (acts_says a h p e)

-- ---- what is held, and what is reported

module _ {C : Type 0} {M : Machine C} {H : Hall C} (ok : Faithful M H) where
  -- A hub has voted for what it holds.
  pub holds_voted : {h p b : ℕ} {c : C} → (H.view h).holds p ≡ at b c → voted h b p c ∈ H.past
  holds_voted {h} {p} e = let x : Highest H.past h p (at _ _) = rw e at ((ok.hubs h).held p) in x.0

  -- What a hub holds was proposed at the ballot that it holds it with: so hubs that hold the same ballot hold the same command.
  pub holds_proposed : {h p b : ℕ} {c : C} → (H.view h).holds p ≡ at b c → proposed b p c ∈ H.past
  holds_proposed e = voted_proposed ok.run (holds_voted e)

  -- So was what a report tells of.
  pub gift_proposed : {h t l p b : ℕ} {c : C} {x : ℕ → Seen C} → gave h t l x ∈ H.gifts → x p ≡ at b c → proposed b p c ∈ H.past
  gift_proposed {h} {t} {l} {x} m e = voted_proposed ok.run (told ok.run (ok.given h t l x m) e)

  -- What is proposed at the term of its leader is what that hub holds of its term, and the other way round.
  pub leader_proposed :
      {h p : ℕ} {c : C} {Q : ℕ → Bool} {x : ℕ → ℕ → Seen C} → Leads M H.gifts (H.view h).term h Q x
      → (proposed (H.view h).term p c ∈ H.past) ↔ ((H.view h).holds p ≡ at (H.view h).term c)
  leader_proposed l = (leader_holds ok l refl, holds_proposed)

  -- What a hub says is chosen is.
  pub says_chosen : (h p : ℕ) (c : C) → Says (H.view h) p c → Chosen M H.past p c
  says_chosen h p c r =
      let k = (ok.hubs h).said p r.says in
      let (b, le, x) = k.settled in
      let held = r.holds in
      let is = k.is in
      let same : k.command ≡ c = cc in
      (b, rw same at x)

  -- Some client asked for it, or it is the machine's own.
  pub says_valid : (h p : ℕ) (c : C) → Says (H.view h) p c → Wanted M H.past c
  says_valid h p c r = valid ok.run (says_chosen h p c r)

module _ {C : Type 0} {M : Machine C} {H J : Hall C} (ok : Faithful M H) (acts : Acts M H J) where
  -- No two hubs, at any two moments, say different commands of one place.
  pub says_agree : (g h p : ℕ) (c d : C) → Says (H.view g) p c → Says (J.view h) p d → c ≡ d
  says_agree g h p c d r q =
      agree_later ok.run (acts_steps ok acts) (says_chosen ok g p c r) (says_chosen (acts_faithful ok acts) h p d q)

  -- What a hub says it goes on saying.
  pub says_stay : (h p : ℕ) (c : C) → Says (H.view h) p c → Says (J.view h) p c
  says_stay h p c r =
      let says = acts_says acts h p r.says in
      let k = ((acts_faithful ok acts).hubs h).said p says in
      let later : Says (J.view h) p k.command = record { ballot = k.ballot; says = says; holds = k.is } in
      rw (says_agree h h p c k.command r later) later
