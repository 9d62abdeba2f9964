-- The largest place confirmed by a majority is what its name says, and lies within what is confirmed. Assumes nothing.
use Prim.Native.Nat.{ℕ, zero, suc, ◌-◌, ◌≤◌, ◌<◌}
use native.Mathlib.Omega.{arith}
use mathlib.Core.Path.{◌≡◌, refl, ◌∙◌, ap}
use mathlib.Core.Bool.{Bool, true, false}
use mathlib.Core.List.{List}
use borrow.Author.Tests.{leb-true, leb-false, le-leb, lt-leb, ltb-true, ltb-false}
use lib.Dec.{leb, ltb}
use lib.ListN.{length, take, length-take}
use lib.Seq.{take-set-lt, get_or-take}
use Rattle.kinds.specs.Hubs.{for_hub, set_hub}
use Rattle.kinds.specs.Sizes.{majority, limit}
use Rattle.state.specs.Legal.{all, count}
use Rattle.rules.specs.Majority.{confirmed_by, largest, majority_place}
use Rattle.rules.specs.Theorems.{LargestConfirmed, MajorityPlaceIsLargest, MajorityPlaceIsOnly}
use Rattle.kinds.proofs.BoolLaws.{not_both}
use Rattle.rules.proofs.CountLaws.{all_take, count_some, count_more}

-- ---- the largest number with a property

-- One number or another, by a test.
abbrev pick : Bool → ℕ → ℕ → ℕ
pick b x y = elim b [ true ↦ x | false ↦ y ]

module _ (P : ℕ → Bool) where
  largest_suc : (k : ℕ) (b : Bool) → P (suc k) ≡ b → largest P (suc k) ≡ pick b (suc k) (largest P k)
  unfolding largest
  largest_suc k b e = ap (λ (t : Bool). pick t (suc k) (largest P k)) e

  -- It has the property, unless it is 0.
  largest_has : (k : ℕ) → 1 ≤ largest P k → P (largest P k) ≡ true
  unfolding largest
  largest_has zero h = absurd (omega arith)
  largest_has (suc k) h = go (P (suc k)) refl (largest_has k)
    where
      go : (b : Bool) → P (suc k) ≡ b → (1 ≤ largest P k → P (largest P k) ≡ true) → P (largest P (suc k)) ≡ true
      go true e f = ap P (largest_suc k true e) ∙ e
      go false e f = ap P (largest_suc k false e) ∙ f (omega (arith, largest_suc k false e))

  -- It is among those looked at.
  largest_most : (k : ℕ) → largest P k ≤ k
  unfolding largest
  largest_most zero = omega arith
  largest_most (suc k) = go (P (suc k)) refl (largest_most k)
    where
      go : (b : Bool) → P (suc k) ≡ b → largest P k ≤ k → largest P (suc k) ≤ suc k
      go true e h = omega (arith, largest_suc k true e)
      go false e h = omega (arith, largest_suc k false e)

  -- None above it has the property.
  largest_none : (k p : ℕ) → largest P k < p → p ≤ k → P p ≡ false
  unfolding largest
  largest_none zero p h l = absurd (omega arith)
  largest_none (suc k) p h l = go (P (suc k)) refl (largest_none k p)
    where
      below : (b : Bool) → leb p k ≡ b → P (suc k) ≡ false → (largest P k < p → p ≤ k → P p ≡ false) → P p ≡ false
      below true t e f = f (omega (arith, largest_suc k false e)) (leb-true p k t)
      below false t e f =
          let last : p ≡ suc k = omega (arith, leb-false p k t) in
          ap P last ∙ e

      go : (b : Bool) → P (suc k) ≡ b → (largest P k < p → p ≤ k → P p ≡ false) → P p ≡ false
      go true e f = absurd (omega (arith, largest_suc k true e))
      go false e f = below (leb p k) refl e f

-- ---- confirmed by a majority

-- It is the largest place confirmed by a majority.
pub majority_place_is_largest : MajorityPlaceIsLargest
unfolding majority_place
majority_place_is_largest n confirmed =
    let P = confirmed_by n confirmed in
    record { has = largest_has P _; most = largest_most P _; none_above = largest_none P _ }

-- Of two that are the largest, neither lies above the other.
not_above : (n : ℕ) (confirmed : List ℕ) (p q : ℕ) → LargestConfirmed n confirmed p → LargestConfirmed n confirmed q → q ≤ p
not_above n confirmed p q at_p at-q = go (leb q p) refl
  where
    go : (t : Bool) → leb q p ≡ t → q ≤ p
    go true e = leb-true q p e
    go false e =
        let above = leb-false q p e in
        absurd (not_both (confirmed_by n confirmed q) (at-q.has (omega arith)) (at_p.none_above q above at-q.most))

-- No other place is the largest.
pub majority_place_is_only : MajorityPlaceIsOnly
majority_place_is_only n confirmed p l =
    let m = majority_place_is_largest n confirmed in
    omega (arith, not_above n confirmed _ p m l, not_above n confirmed p _ l m)

-- It is at most what all have confirmed at most.
pub majority_place_within : (n m : ℕ) (confirmed : List ℕ) → all (λ x. leb x m) confirmed ≡ true → majority_place n confirmed ≤ m
unfolding confirmed_by
majority_place_within n m confirmed h = go (majority_place n confirmed) (majority_place_is_largest n confirmed).has
  where
    go : (p : ℕ) → (1 ≤ p → confirmed_by n confirmed p ≡ true) → p ≤ m
    go zero f = omega arith
    go (suc p) f =
        let enough = leb-true (majority n) (count (leb (suc p)) (take n confirmed)) (f (omega arith)) in
        let one = count_some (leb (suc p)) (λ x. leb x m) (take n confirmed) (omega arith) (all_take (λ x. leb x m) n confirmed h) in
        omega (arith, leb-true (suc p) one.0 one.1, leb-true one.0 m one.2)

-- One hub more of the first n has confirmed a length of p or more.
pub confirmed_more :
    (n p h q : ℕ) (confirmed : List ℕ) → 1 ≤ h → h ≤ n → h ≤ length confirmed → for_hub confirmed h 0 < p → p ≤ q
    → count (leb p) (take n (set_hub confirmed h q)) ≡ suc (count (leb p) (take n confirmed))
confirmed_more n p h q confirmed low in_group in_List less more =
    let inside : h - 1 < n = omega arith in
    let there : h - 1 < length (take n confirmed) = omega (arith, length-take n confirmed) in
    ap (count (leb p)) (take-set-lt n confirmed (h - 1) q inside)
    ∙ count_more (leb p) (take n confirmed) (h - 1) q 0 there
    (rw (get_or-take n confirmed (h - 1) 0 inside) (lt-leb p (for_hub confirmed h 0) less)) (le-leb p q more)

-- Where nobody has confirmed more than p: it is p with a majority that has confirmed p.
pub majority_place_all :
    (n p : ℕ) (confirmed : List ℕ) → all (λ x. leb x p) confirmed ≡ true → p ≤ limit → confirmed_by n confirmed p ≡ true
    → majority_place n confirmed ≡ p
majority_place_all n p confirmed most in_limit enough = go (ltb (majority_place n confirmed) p) refl
  where
    go : (t : Bool) → ltb (majority_place n confirmed) p ≡ t → majority_place n confirmed ≡ p
    go true e =
        let below = ltb-true (majority_place n confirmed) p e in
        absurd (not_both (confirmed_by n confirmed p) enough ((majority_place_is_largest n confirmed).none_above p below in_limit))
    go false e = omega (arith, ltb-false (majority_place n confirmed) p e, majority_place_within n p confirmed most)

-- And below it with fewer.
pub majority_place_few :
    (n p : ℕ) (confirmed : List ℕ) → all (λ x. leb x p) confirmed ≡ true → 1 ≤ p → confirmed_by n confirmed p ≡ false
    → majority_place n confirmed < p
majority_place_few n p confirmed most first few = go (ltb (majority_place n confirmed) p) refl
  where
    go : (t : Bool) → ltb (majority_place n confirmed) p ≡ t → majority_place n confirmed < p
    go true e = ltb-true (majority_place n confirmed) p e
    go false e =
        let within = majority_place_within n p confirmed most in
        let same : majority_place n confirmed ≡ p = omega (arith, ltb-false (majority_place n confirmed) p e) in
        let has : confirmed_by n confirmed p ≡ true = rw same at ((majority_place_is_largest n confirmed).has (omega arith)) in
        absurd (not_both (confirmed_by n confirmed p) has few)
