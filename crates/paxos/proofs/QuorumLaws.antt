-- Two majorities of the hubs 1..N share a hub, whatever N is: together they count more than N. Assumes nothing.
use mathlib.Core.Path.{◌≡◌, refl, ap}
use mathlib.Core.Bool.{Bool, true, false}
use Prim.Native.Nat.{ℕ, zero, suc, ◌+◌, ◌<◌, ◌≤◌}
use native.Mathlib.Omega.{arith}
use Rattle.paxos.specs.Quorum.{IsHub, bit, count_to, Majority}

-- A hub of 1..n that is in both sets.
pub record Shared (n : ℕ) (P Q : ℕ → Bool) : Type 0 where
  pub hub : ℕ
  pub is : IsHub n hub
  pub first : P hub ≡ true
  pub second : Q hub ≡ true

bit_most : (x : Bool) → bit x ≤ 1
bit_most true = omega arith
bit_most false = omega arith

module _ (P Q : ℕ → Bool) where
  wider : (n : ℕ) → Shared n P Q → Shared (suc n) P Q
  wider n s =
      let is = s.is in
      record { hub = s.hub; is = record { low = is.low; high = omega arith }; first = s.first; second = s.second }

  -- Two sets that count more than n together share a hub of 1..n.
  overlap : (n : ℕ) → n < count_to n P + count_to n Q → Shared n P Q
  unfolding count_to
  overlap zero h = absurd (omega arith)
  overlap (suc n) h = at_top (P (suc n)) (Q (suc n)) refl refl (overlap n)
    where
      at_top : (x y : Bool) → P (suc n) ≡ x → Q (suc n) ≡ y → (n < count_to n P + count_to n Q → Shared n P Q) → Shared (suc n) P Q
      at_top true true p q r = record { hub = suc n; is = record { low = omega arith; high = omega arith }; first = p; second = q }
      at_top true false p q r = wider n (r (omega (arith, ap bit p, ap bit q)))
      at_top false y p q r = wider n (r (omega (arith, ap bit p, bit_most (Q (suc n)))))

-- Two majorities share a hub.
pub share : (N : ℕ) (P Q : ℕ → Bool) → Majority N P → Majority N Q → Shared N P Q
share N P Q p q = overlap P Q N (omega arith)
