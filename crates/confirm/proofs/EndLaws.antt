-- Laws of append-yes: what the rule says by what the code tests, and what a recorded end makes of the bytes. Assumes nothing.
use Prim.Native.Nat.{ℕ, zero, suc, ◌-◌, ◌≤◌, ◌<◌, max}
use native.Mathlib.Omega.{arith}
use mathlib.Core.Path.{◌≡◌, refl, sym, ◌∙◌, ap}
use mathlib.Core.Bool.{true, false}
use mathlib.Core.List.{List, [], ◌∷◌, map}
use mathlib.Core.Option.{none}
use borrow.Author.Tests.{le-ltb, lt-ltb}
use lib.Dec.{ltb}
use lib.ListN.{get_or, set}
use lib.Seq.{sets}
use Rattle.kinds.specs.declared.Place.{Place}
use Rattle.kinds.specs.Of.{place}
use Rattle.kinds.specs.Role.{as_leader}
use Rattle.kinds.specs.Sizes.{Who}
use Rattle.state.specs.declared.Head.{Head}
use Rattle.state.specs.State.{Kept, Lost, follower, candidate, leader}
use Rattle.state.specs.Image.{role_of, voters_of, gathered_of, confirmed_of, state_in}
use Rattle.state.specs.Head.{head_in, bytes_of_head, head_of}
use Rattle.state.specs.Table.{rows_of}
use Rattle.rules.specs.Majority.{majority_place}
use Rattle.rules.specs.Receive.{idle, effect, recorded, heard_end}
use Rattle.rules.proofs.Fair.{IsPeer}
use Rattle.rules.proofs.EndLaws.{heard_end_fine}
use Rattle.promise.specs.Promise.{HearsEnd, Ruled}
use Rattle.promise.specs.Heads.{confirming}
use Rattle.promise.proofs.PromiseLaws.{ready_legal, ready_head, ready_role, ready_chosen, ready_who, ready_headed, idle_ruled, effect_ruled, fine_legal}
use Rattle.promise.proofs.HeadsLaws.{places_set}
use Rattle.majority.specs.Numbers.{place_numbers}

-- ---- the rule

numbers_back : (ns : List ℕ) → place_numbers (map place ns) ≡ ns
numbers_back [] = refl
numbers_back (n ∷ ns) = rw (numbers_back ns)

place_at : (ns : List ℕ) (i : ℕ) → (get_or (map place ns) i (place 0)).0 ≡ get_or ns i 0
place_at [] i = refl
place_at (n ∷ ns) zero = refl
place_at (n ∷ ns) (suc i) = place_at ns i

module _ (w : Who) (k : Kept) (from end : ℕ) where
  -- At another role.
  end_other : (l : Lost) → (role_of l ≡ as_leader → ⊥) → heard_end w (record { kept = k; lost = l }) from end ≡ idle
  unfolding heard_end role_of
  end_other follower h = refl
  end_other (candidate voters gathered) h = refl
  end_other (leader confirmed) h = absurd (h refl)

  -- Not greater than recorded.
  end_known :
      (l : Lost) → role_of l ≡ as_leader → ltb (get_or (confirmed_of l) (from - 1) 0) end ≡ false
      → heard_end w (record { kept = k; lost = l }) from end ≡ idle
  unfolding heard_end role_of confirmed_of
  end_known follower h e = refl
  end_known (candidate voters gathered) h e = refl
  end_known (leader confirmed) h e = rw e

  -- Greater.
  end_more :
      (l : Lost) → role_of l ≡ as_leader → ltb (get_or (confirmed_of l) (from - 1) 0) end ≡ true
      → heard_end w (record { kept = k; lost = l }) from end ≡ effect (recorded w k (set (confirmed_of l) (from - 1) end)) none
  unfolding heard_end role_of confirmed_of
  end_more follower h e = absurd (omega arith)
  end_more (candidate voters gathered) h e = absurd (omega arith)
  end_more (leader confirmed) h e = rw e

  -- The head of a leader with the end recorded, and its rows.
  recorded_head :
      (l : Lost) → role_of l ≡ 2
      → (let t = recorded w k (set (confirmed_of l) (from - 1) end) in
      (confirming (head_of k l) from (place end)
      (place (max k.chosen (majority_place w.size (place_numbers (set (map place (confirmed_of l)) (from - 1) (place end))))))
      ≡ head_of t.kept t.lost)
      × (rows_of t ≡ rows_of (record { kept = k; lost = l })))
  unfolding recorded confirming head_of rows_of role_of voters_of gathered_of confirmed_of
  recorded_head follower h = absurd (omega arith)
  recorded_head (candidate voters gathered) h = absurd (omega arith)
  recorded_head (leader confirmed) h = (rw (places_set confirmed (from - 1) end, numbers_back (set confirmed (from - 1) end)), refl)

-- ---- the bytes

module _ (w : Who) (l : List ℕ) (from end : ℕ) (hears : HearsEnd w l from end) {h : Head} (e : h ≡ head_in l) where
  all_of : h ≡ head_of (state_in l).kept (state_in l).lost
  all_of = e ∙ ready_head w l hears.ready

  role_is : h.role ≡ role_of (state_in l).lost
  role_is = ap (λ (x : Head). x.role) e ∙ ready_role w l hears.ready

  confirmed_is : h.confirmed ≡ map place (confirmed_of (state_in l).lost)
  unfolding head_of
  confirmed_is = ap (λ (x : Head). x.confirmed) all_of

  chosen_is : h.chosen.0 ≡ (state_in l).kept.chosen
  chosen_is = ap (λ (x : Head). x.chosen.0) e ∙ ready_chosen w l hears.ready

  recorded_is : (get_or h.confirmed (from - 1) (place 0)).0 ≡ get_or (confirmed_of (state_in l).lost) (from - 1) 0
  recorded_is = ap (λ (ps : List Place). (get_or ps (from - 1) (place 0)).0) confirmed_is ∙ place_at (confirmed_of (state_in l).lost) (from - 1)

  -- Another role.
  pub heard_other : (h.role ≡ as_leader → ⊥) → Ruled (heard_end w (state_in l) from end) l false l
  heard_other role = idle_ruled l (end_other w (state_in l).kept from end (state_in l).lost (λ f. role (role_is ∙ f)))

  module _ (role : h.role ≡ as_leader) {p : Place} (here : p ≡ get_or h.confirmed (from - 1) (place 0)) where
    -- What the leader has recorded.
    known : p.0 ≡ get_or (confirmed_of (state_in l).lost) (from - 1) 0
    known = ap (λ (q : Place). q.0) here ∙ recorded_is

    -- Nothing new.
    pub heard_known : end ≤ p.0 → Ruled (heard_end w (state_in l) from end) l false l
    heard_known least =
        let test = le-ltb (get_or (confirmed_of (state_in l).lost) (from - 1) 0) end (omega (arith, known)) in
        idle_ruled l (end_known w (state_in l).kept from end (state_in l).lost (sym role_is ∙ role) test)

    -- Recorded.
    pub heard_more :
        p.0 < end → {f : Head} {l' : List ℕ}
        → f ≡ confirming h from (place end) (place (max h.chosen.0 (majority_place w.size (place_numbers (set h.confirmed (from - 1) (place end))))))
        → l' ≡ sets l 0 (bytes_of_head f) → Ruled (heard_end w (state_in l) from end) l true l'
    unfolding head_of
    heard_more more {f = f} ef el =
        let s = state_in l in
        let leads = sym role_is ∙ role in
        let t = recorded w s.kept (set (confirmed_of s.lost) (from - 1) end) in
        let test = lt-ltb (get_or (confirmed_of s.lost) (from - 1) 0) end (omega (arith, known)) in
        let told = end_more w s.kept from end s.lost leads test in
        let peer : IsPeer w from = record { first = hears.first; last = hears.last; other = hears.other } in
        let fine = heard_end_fine w (ready_who w l hears.ready) from peer s.kept s.lost end (ready_legal w l hears.ready) hears.agrees in
        let made = recorded_head w s.kept from end s.lost leads in
        let head : f ≡ head_of t.kept t.lost = ef ∙ rw (confirmed_is, chosen_is, all_of) made.0 in
        effect_ruled t l _ told (el ∙ rw head (ready_headed w l hears.ready t (fine_legal fine told) made.1))
