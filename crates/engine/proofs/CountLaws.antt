-- Counting hubs in a list over the seven hubs is counting them in a set of hubs. Assumes nothing.
use Prim.Native.Nat.{ℕ, zero, suc, ◌+◌, ◌≤◌}
use native.Mathlib.Omega.{arith}
use mathlib.Core.Path.{◌≡◌, refl, ◌∙◌, ap}
use mathlib.Core.Bool.{Bool, true, false, not}
use mathlib.Core.List.{List, [], ◌∷◌, ◌++◌}
use lib.ListN.{length, take, get_or}
use lib.Seq.{take-suc}
use Rattle.kinds.specs.Hubs.{of_hub, all, count}
use Rattle.paxos.specs.Quorum as quorum
use Rattle.paxos.specs.Quorum.{bit}
use Rattle.paxos.proofs.Member.{clash}

module _ {A : Type 0} (P : A → Bool) where
  -- How many of two lists.
  pub count_append : (l m : List A) → count P (l ++ m) ≡ count P l + count P m
  unfolding count
  count_append [] m = omega arith
  count_append (x ∷ l) m = by (P x) (count_append l m)
    where
      by :
          (b : Bool) → count P (l ++ m) ≡ count P l + count P m
          → elim b [ true ↦ 1 + count P (l ++ m) | false ↦ count P (l ++ m) ] ≡ elim b [ true ↦ 1 + count P l | false ↦ count P l ] + count P m
      by true e = omega arith
      by false e = e

  count_one : (x : A) → count P (x ∷ []) ≡ bit (P x)
  unfolding count
  count_one x = by (P x)
    where
      by : (b : Bool) → elim b [ true ↦ 1 + 0 | false ↦ 0 ] ≡ bit b
      by true = refl
      by false = refl

  -- How many of the first n hubs.
  pub count_hubs : (x : A) (l : List A) (n : ℕ) → n ≤ length l → count P (take n l) ≡ quorum.count_to n (λ g. P (of_hub l x g))
  unfolding quorum.count_to of_hub count
  count_hubs x l zero le = refl
  count_hubs x l (suc n) le =
      let step : count P (take n l ++ (get_or l n x ∷ [])) ≡ count P (take n l) + count P (get_or l n x ∷ []) = count_append (take n l) _ in
      ap (count P) (take-suc l n x (omega arith)) ∙ omega (arith, step, count_one (get_or l n x), count_hubs x l n (omega arith))

-- None in a list of none.
pub count_none : (l : List Bool) → all not l ≡ true → count (λ v. v) l ≡ 0
unfolding count all
count_none [] h = refl
count_none (true ∷ l) h = clash (cc)
count_none (false ∷ l) h = count_none l h
