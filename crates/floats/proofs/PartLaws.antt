-- Values of 0 to 1 in units, and their difference and product, rounded: values of 0 to 1 again, no greater than the first. In either format.
-- Assumes nothing.
use Prim.Native.Nat.{ℕ, ◌-◌, ◌*◌, ◌≤◌, ◌<◌}
use native.Mathlib.Nat.{mul_assoc, mul-pos, le_trans, le_of_eq}
use native.Mathlib.Nat.{sub-le, mul-le-mul_left, mul-le-mul_right}
use mathlib.Core.Path.{◌≡◌, sym, subst}
use mathlib.Core.Bool.{false}
use lib.Dec.{T}
use lib.Ieee.{Float, Format, sub, mul, round, fits}
use lib.Ieee.Fits.{sub-fits, mul-fits}
use lib.Ieee.Scale.{grid}
use Rattle.floats.proofs.UnitsLaws.{Is, is_sub, is_mul}
use Rattle.floats.proofs.RoundLaws.{unity, some, Rounds, round_le, rounds, exact}

module _ (f : Format) where
  -- 1, in units.
  abbrev u : ℕ
  u = unity f

  pub square : 0 < u * u
  square = mul-pos (some f) (some f)

  -- A value of 0 to 1, in units.
  pub record Part (x : Float) : Type 0 where
    pub at : ℕ
    pub is : Is u x at
    pub most : at ≤ u
    pub fit : T (fits f x)

  -- It is rounded to itself.
  pub self : (x : Float) (p : Part x) → Rounds f p.at u p.at
  self x p = exact f x p.at p.fit p.is p.most

  -- Such a value, to which n / c is rounded.
  pub record Rounded (n c : ℕ) (z : Float) : Type 0 where
    pub part : Part z
    pub from : Rounds f n c part.at

  -- What is not above a fraction that is rounded to 1 or less is rounded so too.
  pub rounded : (z : Float) (n c n' c' g : ℕ) → 0 < c → 0 < c' → n * c' ≤ n' * c → Rounds f n' c' g → g ≤ u
      → z ≡ round f false n c → T (fits f z) → Rounded n c z
  rounded z n c n' c' g C C' h v m e t =
      let own = rounds f n c n' c' g C C' h v in
      record {
        part =
            record {
              at = grid f n c;
              is = subst (λ k. Is u k (grid f n c)) (sym e) own;
              most = le_trans (round_le f n c n' c' g C C' h v (grid f n c) own) m;
              fit = t;
            };
        from = own;
      }

  -- ---- one operation

  module _ (x : Float) (p : Part x) where
    -- What is not above x is rounded to no more than x.
    pub not_above : (z : Float) (n c : ℕ) → 0 < c → n * u ≤ p.at * c → z ≡ round f false n c → T (fits f z) → Rounded n c z
    not_above z n c C h = rounded z n c p.at u p.at C (some f) h (self x p) p.most

    at_most : (z : Float) (n c : ℕ) → 0 < c → n * u ≤ p.at * c → (r : Rounded n c z) → r.part.at ≤ p.at
    at_most z n c C h r = round_le f n c p.at u p.at C (some f) h (self x p) r.part.at r.from

    -- A difference.
    module _ (y : Float) (q : Part y) (h : q.at ≤ p.at) where
      pub difference : Rounded (p.at - q.at) u (sub f x y)
      difference =
          not_above _ (p.at - q.at) u (some f) (mul-le-mul_right u (sub-le p.at q.at))
          (is_sub u (some f) f x y p.at q.at p.is q.is h) (sub-fits f x y)

      pub difference_most : difference.part.at ≤ p.at
      difference_most = at_most _ (p.at - q.at) u (some f) (mul-le-mul_right u (sub-le p.at q.at)) difference

    -- A product.
    module _ (q : Float) (b : Part q) where
      fewer : p.at * b.at * u ≤ p.at * (u * u)
      fewer = le_trans (le_of_eq (mul_assoc p.at b.at u)) (mul-le-mul_left p.at (mul-le-mul_right u b.most))

      pub product : Rounded (p.at * b.at) (u * u) (mul f x q)
      product =
          not_above _ (p.at * b.at) (u * u) square fewer
          (is_mul u (some f) f x q p.at b.at p.is b.is) (mul-fits f x q)

      pub product_most : product.part.at ≤ p.at
      product_most = at_most _ (p.at * b.at) (u * u) square fewer product
