-- Lists over the seven hubs: what stands for a hub after one was set. Assumes nothing.
use Prim.Native.Nat.{ℕ, zero, suc, ◌-◌, ◌≤◌}
use native.Mathlib.Omega.{arith}
use native.Mathlib.Decide.{ℕ_discrete}
use mathlib.Core.Path.{◌≡◌, refl, ap, fun_ext}
use mathlib.Core.Logic.{◌≢◌}
use mathlib.Core.List.{List}
use lib.ListN.{length, get_or, set, replicate}
use lib.Seq.{get_or-set_same, get_or-set_other}
use Rattle.kinds.specs.Hubs.{for_hub, set_hub, of_hub}
use Rattle.paxos.specs.Put.{put}
use Rattle.paxos.proofs.PutLaws.{put_same, put_other}

module _ {A : Type 0} where
  -- A hub's own.
  pub for_hub_is : (l : List A) (x : A) (h : ℕ) → 1 ≤ h → for_hub l h x ≡ of_hub l x h
  unfolding of_hub
  for_hub_is l x zero le = absurd (omega arith)
  for_hub_is l x (suc i) le = let e : suc i - 1 ≡ i = omega arith in ap (λ j. get_or l j x) e

  -- What stands for another hub stays.
  pub set_hub_other : (l : List A) (h g : ℕ) (x y : A) → 1 ≤ h → 1 ≤ g → g ≢ h → for_hub (set_hub l h y) g x ≡ for_hub l g x
  set_hub_other l h g x y low le ne = get_or-set_other l (h - 1) (g - 1) y x (λ e. ne (omega arith))

  -- Whatever holds of what is set for one hub, and of what stood there for each other, holds for every hub.
  pub set_hub_cases :
      (P : ℕ → A → Type 0) (l : List A) (x y : A) (h : ℕ) → 1 ≤ h → h ≤ length l
      → P h y → ((g : ℕ) → g ≢ h → P g (of_hub l x g)) → (g : ℕ) → P g (of_hub (set_hub l h y) x g)
  unfolding of_hub
  set_hub_cases P l x y h low le new old zero = old zero (omega arith)
  set_hub_cases P l x y h low le new old (suc i) = by (ℕ_discrete (suc i) h)
    where
      by : Dec (suc i ≡ h) → P (suc i) (get_or (set l (h - 1) y) i x)
      by (yes e) =
          let here : h - 1 ≡ i = omega arith in
          rw (here, get_or-set_same l i y x (omega arith)) (rw (← e) at new)
      by (no ne) = rw (get_or-set_other l (h - 1) i y x (omega arith)) (old (suc i) ne)

  -- So the set is changed at that hub.
  pub set_hub_put : (l : List A) (x y : A) (h : ℕ) → 1 ≤ h → h ≤ length l → put (of_hub l x) h y ≡ of_hub (set_hub l h y) x
  set_hub_put l x y h low le =
      fun_ext
      (set_hub_cases (λ g z. put (of_hub l x) h y g ≡ z) l x y h low le (put_same (of_hub l x) h y) (λ g ne. put_other (of_hub l x) h y g ne))

  -- The same for all hubs.
  pub of_hub_replicate : (n : ℕ) (x : A) (g : ℕ) → of_hub (replicate n x) x g ≡ x
  unfolding of_hub
  of_hub_replicate n x zero = refl
  of_hub_replicate zero x (suc i) = refl
  of_hub_replicate (suc n) x (suc zero) = refl
  of_hub_replicate (suc n) x (suc (suc i)) = of_hub_replicate n x (suc i)
