-- The one lemma of beginnings of numbers, over base and width: what fits goes on with some digit, and what goes on with a digit fits. And what begins a
-- number of some width. Assumes nothing.
use Prim.Native.Nat.{ℕ, zero, suc, ◌+◌, ◌-◌, ◌*◌, ◌/◌, ◌%◌, ◌≤◌, ◌<◌}
use native.Mathlib.Omega.{arith}
use native.Mathlib.Nat.{le_trans, mul-le-mul_right, div-add-mod', div-mul-le_self, div-le_self, mod-lt}
use mathlib.Core.Path.{◌≡◌, sym, subst}
use mathlib.Core.Bool.{true, true≢false}
use lib.Dec.{leb}
use lib.Arith.{digits_div}
use lib.Ieee.Nearest.{div_mono}
use borrow.Author.Tests.{le-leb, leb-true}
use Rattle.kinds.proofs.BetweenLaws.{between_in, between_true}
use Rattle.command.proofs.Tests.{by_test}
use Rattle.begins.specs.Digits.{fits, grows}

-- `fits`, as an order of numbers.
abbrev pub Fits : ℕ → ℕ → ℕ → ℕ → ℕ → Type 0
Fits b zero lo hi v = (lo ≤ v) × (v ≤ hi)
Fits b (suc k) lo hi v = Fits b k (lo / b) (hi / b) v

pub fits_true : (b k lo hi v : ℕ) → fits b k lo hi v ≡ true → Fits b k lo hi v
unfolding fits
fits_true b zero lo hi v e = between_true lo hi v e
fits_true b (suc k) lo hi v e = fits_true b k (lo / b) (hi / b) v e

pub fits_is : (b k lo hi v : ℕ) → Fits b k lo hi v → fits b k lo hi v ≡ true
unfolding fits
fits_is b zero lo hi v h = between_in lo hi v h.0 h.1
fits_is b (suc k) lo hi v h = fits_is b k (lo / b) (hi / b) v h

-- A digit of base b, such that v with it fits.
pub record Next (b k lo hi v : ℕ) : Type 0 where
  pub digit : ℕ
  pub small : digit < b
  pub fit : Fits b k lo hi (v * b + digit)

module _ (b : ℕ) (B : 0 < b) where
  div_le : (x y : ℕ) → x ≤ y → x / b ≤ y / b
  div_le x y h = div_mono x b y b B B (mul-le-mul_right b h)

  one_down : (lo hi v : ℕ) → lo ≤ hi → lo / b ≤ v → v ≤ hi / b → Next b zero lo hi v
  one_down lo hi v h p q =
      let x : lo / b * b + lo % b ≡ lo = div-add-mod' lo b in
      let m : lo % b < b = mod-lt lo B in
      let y : lo / b * b ≤ v * b = mul-le-mul_right b p in
      let z : v * b ≤ hi = le_trans (mul-le-mul_right b q) (div-mul-le_self hi b) in
      record { digit = lo - v * b; small = omega arith; fit = (omega arith, omega arith) }

  -- A beginning goes on with some digit.
  pub fits_down : (k lo hi v : ℕ) → lo ≤ hi → Fits b (suc k) lo hi v → Next b k lo hi v
  fits_down zero lo hi v h f = one_down lo hi v h f.0 f.1
  fits_down (suc k) lo hi v h f =
      let n = fits_down k (lo / b) (hi / b) v (div_le lo hi h) f in
      record { digit = n.digit; small = n.small; fit = n.fit }

  -- What goes on with some digit is a beginning.
  pub fits_up : (k lo hi v d : ℕ) → d < b → Fits b k lo hi (v * b + d) → Fits b (suc k) lo hi v
  fits_up zero lo hi v d l f =
      let e : (v * b + d) / b ≡ v = digits_div v l in
      (subst (λ (x : ℕ). lo / b ≤ x) e (div_le lo (v * b + d) f.0), subst (λ (x : ℕ). x ≤ hi / b) e (div_le (v * b + d) hi f.1))
  fits_up (suc k) lo hi v d l f = fits_up k (lo / b) (hi / b) v d l f

  -- It is at most the range's end.
  pub fits_most : (k lo hi v : ℕ) → Fits b k lo hi v → v ≤ hi
  fits_most zero lo hi v f = f.1
  fits_most (suc k) lo hi v f = le_trans (fits_most k (lo / b) (hi / b) v f) (div-le_self hi b)

-- v begins a number of lo..hi: with some count of digits more it fits.
pub record Grows (lo hi v : ℕ) : Type 0 where
  pub more : ℕ
  pub fit : Fits 10 more lo hi v

pub grows_true : (n lo hi v : ℕ) → grows n lo hi v ≡ true → Grows lo hi v
unfolding grows
grows_true zero lo hi v e = record { more = 0; fit = between_true lo hi v e }
grows_true (suc n) lo hi v e =
    by_test (leb v hi)
    (λ h. by_test (leb lo v)
    (λ l. record { more = 0; fit = (leb-true lo v l, leb-true v hi h) })
    (λ l. let g = grows_true n (lo / 10) (hi / 10) v (rw (h, l, grows) at e) in record { more = suc g.more; fit = g.fit }))
    (λ h. absurd (true≢false (sym (rw (h, grows) at e))))

pub grows_is : (n k lo hi v : ℕ) → 1 ≤ v → hi ≤ n → Fits 10 k lo hi v → grows n lo hi v ≡ true
unfolding grows
grows_is zero k lo hi v p h f = let m = fits_most 10 (omega arith) k lo hi v f in absurd (omega arith)
grows_is (suc n) zero lo hi v p h f = rw (le-leb v hi f.1, le-leb lo v f.0, grows)
grows_is (suc n) (suc k) lo hi v p h f =
    let m = fits_most 10 (omega arith) (suc k) lo hi v f in
    let ih = grows_is n k (lo / 10) (hi / 10) v p (omega arith) f in
    by_test (leb lo v) (λ l. rw (le-leb v hi m, l, grows)) (λ l. rw (le-leb v hi m, l, grows) ih)
