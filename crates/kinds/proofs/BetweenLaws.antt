-- What the test `between` says as an order of numbers, and back. Assumes nothing.
use Prim.Native.Nat.{ℕ, ◌≤◌, ◌<◌}
use mathlib.Core.Bool.{Bool, true, false, true≢false, ◌&&◌}
use mathlib.Core.Path.{◌≡◌, refl, sym, ◌∙◌}
use lib.Dec.{leb}
use borrow.Author.Tests.{le-leb, lt-leb, leb-true, leb-false}
use Rattle.kinds.specs.Sizes.{between}

module _ (lo hi x : ℕ) where
  -- A number of the range passes.
  pub between_in : lo ≤ x → x ≤ hi → between lo hi x ≡ true
  unfolding between
  between_in p q = rw (le-leb lo x p, le-leb x hi q)

  -- One below it does not.
  pub between_below : x < lo → between lo hi x ≡ false
  unfolding between
  between_below p = rw (lt-leb lo x p)

  -- Nor does one above it.
  pub between_above : hi < x → between lo hi x ≡ false
  unfolding between
  between_above p = go (leb lo x)
    where
      go : (t : Bool) → t && leb x hi ≡ false
      go true = lt-leb x hi p
      go false = refl

  -- What passes lies in the range.
  pub between_true : between lo hi x ≡ true → (lo ≤ x) × (x ≤ hi)
  between_true e = go (leb lo x) refl (leb x hi) refl
    where
      go : (t : Bool) → leb lo x ≡ t → (u : Bool) → leb x hi ≡ u → (lo ≤ x) × (x ≤ hi)
      go true p true q = (leb-true lo x p, leb-true x hi q)
      go true p false q = absurd (true≢false (sym e ∙ between_above (leb-false x hi q)))
      go false p u q = absurd (true≢false (sym e ∙ between_below (leb-false lo x p)))
