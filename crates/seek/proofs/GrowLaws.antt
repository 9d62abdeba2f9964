-- That the code which divides both ends of the range by ten finds whether a number of the range begins so, and that such a beginning is at most the
-- range's end. Assumes nothing.
use Prim.Native.Nat.{ℕ, zero, suc, ◌/◌, ◌≤◌, ◌<◌}
use native.Mathlib.Omega.{arith}
use mathlib.Core.Bool.{Bool, true, false}
use mathlib.Core.Path.{◌≡◌, sym, ◌∙◌}
use borrow.Author.Tests.{le-leb, lt-leb}
use Rattle.kinds.proofs.BetweenLaws.{between_in, between_above}
use Rattle.kinds.proofs.BoolLaws.{same_test}
use Rattle.begins.specs.Digits.{grows}
use Rattle.begins.proofs.DigitsLaws.{fits_most, grows_true, grows_is}

-- ---- whether a number of the range begins so

-- The count of digits that are tried does not matter, if it is not less than the range's end.
any_count : (n m l h v : ℕ) → 1 ≤ v → h ≤ n → h ≤ m → grows n l h v ≡ grows m l h v
any_count n m l h v p a b =
    same_test (grows n l h v) (grows m l h v)
    (λ e. let g = grows_true n l h v e in grows_is m g.more l h v p b g.fit)
    (λ e. let g = grows_true m l h v e in grows_is n g.more l h v p a g.fit)

none_at : (n l h v : ℕ) → h < v → grows n l h v ≡ false
unfolding grows
none_at zero l h v p = between_above l h v p
none_at (suc n) l h v p = rw (lt-leb v h p, grows)

found_at : (n l h v : ℕ) → v ≤ h → l ≤ v → grows n l h v ≡ true
unfolding grows
found_at zero l h v p q = between_in l h v q p
found_at (suc n) l h v p q = rw (le-leb v h p, le-leb l v q, grows)

again_at : (h l v : ℕ) → 1 ≤ v → v ≤ h → v < l → grows h l h v ≡ grows (h / 10) (l / 10) (h / 10) v
unfolding grows
again_at zero l v o p q = absurd (omega arith)
again_at (suc k) l v o p q = rw (le-leb v (suc k) p, lt-leb l v q, grows) (any_count k (suc k / 10) (l / 10) (suc k / 10) v o (omega arith) (omega arith))

-- t is whether a number of l..h begins with the digits of v.
module _ (t : Bool) (l h v : ℕ) (so_far : t ≡ grows h l h v) where
  -- The end is below v.
  pub grow_none : h < v → false ≡ t
  grow_none p = sym (so_far ∙ none_at h l h v p)

  -- v lies in the range.
  pub grow_found : v ≤ h → l ≤ v → true ≡ t
  grow_found p q = sym (so_far ∙ found_at h l h v p q)

  -- Neither: it takes a digit more.
  pub grow_again : 1 ≤ v → v ≤ h → v < l → t ≡ grows (h / 10) (l / 10) (h / 10) v
  grow_again o p q = so_far ∙ again_at h l v o p q

-- What begins a number of the range is at most the range's end.
pub grow_most : (lo hi v : ℕ) (t : Bool) → t ≡ grows hi lo hi v → t ≡ true → v ≤ hi
grow_most lo hi v t e n = let g = grows_true hi lo hi v (sym e ∙ n) in fits_most 10 (omega arith) g.more lo hi v g.fit
