-- Floats that are not negative, as fractions a / D of one denominator: their order, sum, difference and product, and the quotient of two whole
-- numbers; in either format. Assumes nothing.
use Prim.Native.Nat.{ℕ, zero, suc, ◌+◌, ◌-◌, ◌*◌, ◌^◌, ◌≤◌, ◌<◌}
use native.Mathlib.Omega.{arith}
use native.Mathlib.Nat.{mul_assoc, mul_comm, mul_left_comm, mul_right_comm, mul-mul-mul_comm, mul-one, mul-pos, mul-sub}
use native.Mathlib.Nat.{zero-mul, add-mul, not-le_of_lt, le_of_mul-le-mul_right, mul-le-mul_right, eq_of_mul-eq-mul_right}
use mathlib.Core.Path.{◌≡◌, refl, sym, ◌∙◌, ap, subst}
use mathlib.Core.Bool.{Bool, true, false, true≢false, false≢true, cond, ◌&&◌, ◌||◌}
use borrow.Author.Tests.{le-ltb, lt-ltb, ltb-true, ltb-false, eqb-true, ne_eqb}
use lib.Dec.{ltb, eqb}
use lib.IntN.{ℤ}
use lib.Ieee.{Float, nan, inf, fin, Format, prec, emax, low, up, down, neg, add, sub, mul, div, sum, round, units, odd, lt, le, eq}
use lib.Ieee.Exact.{HasValue}
use lib.Ieee.Bits.{is_true}
use lib.Ieee.Fits.{down_pos, round_is}
use lib.Ieee.Order.{transfer, le_of_values}
use lib.Ieee.Scale.{round_same}
use Rattle.kinds.proofs.BoolLaws.{and_first, or_either}
use Rattle.command.proofs.Tests.{by_test}

sub_mul : (a b c : ℕ) → (a - b) * c ≡ a * c - b * c
sub_mul a b c = mul_comm (a - b) c ∙ mul-sub c a b ∙ (λ i. mul_comm c a i - mul_comm c b i)

-- x is a / D.
abbrev pub Is : ℕ → Float → ℕ → Type 0
Is D x a = HasValue x false a D

-- ---- its significand and exponent

-- Of x = m * 2 ^ e: it is a / D.
abbrev Worth : ℕ → ℕ → ℤ → ℕ → Type 0
Worth D m e a = m * up e * D ≡ a * down e

-- What holds of every m * 2 ^ e that is a / D holds of x.
one_is : (D : ℕ) (P : Float → Type 0) (x : Float) (a : ℕ) → Is D x a → ((m : ℕ) (e : ℤ) → Worth D m e a → P (fin false m e)) → P x
one_is D P nan a p f = absurd p
one_is D P (inf s) a p f = absurd p
one_is D P (fin true m e) a p f = absurd (true≢false p.0)
one_is D P (fin false m e) a p f = f m e p.1

-- The same of two.
two_are : (D : ℕ) (P : Float → Float → Type 0) (x y : Float) (a b : ℕ) → Is D x a → Is D y b
    → ((m : ℕ) (e : ℤ) (n : ℕ) (d : ℤ) → Worth D m e a → Worth D n d b → P (fin false m e) (fin false n d))
    → P x y
two_are D P x y a b p q f =
    one_is D (λ z. P z y) x a p (λ m e p'. one_is D (λ z. P (fin false m e) z) y b q (λ n d q'. f m e n d p' q'))

-- A float is one fraction.
pub is_same : (D : ℕ) (x : Float) (a b : ℕ) → Is D x a → Is D x b → a ≡ b
is_same D nan a b p q = absurd p
is_same D (inf s) a b p q = absurd p
is_same D (fin s m e) a b p q = eq_of_mul-eq-mul_right (down e) (down_pos e) a b (sym p.1 ∙ q.1)

module _ (D : ℕ) (above : 0 < D) where
  -- ---- order

  -- The order of two fractions is that of the floats' own.
  cross : (m : ℕ) (e : ℤ) (n : ℕ) (d : ℤ) (a b : ℕ) → Worth D m e a → Worth D n d b → a ≤ b → m * up e * down d ≤ n * up d * down e
  cross m e n d a b p q h =
      transfer (m * up e) (n * up d) (down e) (down d) a b D D above above p q (mul-le-mul_right D h)

  back : (m : ℕ) (e : ℤ) (n : ℕ) (d : ℤ) (a b : ℕ) → Worth D m e a → Worth D n d b → m * up e * down d ≤ n * up d * down e → a ≤ b
  back m e n d a b p q h =
      let l = transfer a b D D (m * up e) (n * up d) (down e) (down d) (down_pos e) (down_pos d) (sym p) (sym q) h in
      le_of_mul-le-mul_right l above

  le_number : (a b : ℕ) → (ltb a b || (eqb a b && true)) ≡ true → a ≤ b
  le_number a b h =
      or_either (ltb a b) (eqb a b && true) h (λ t. omega (arith, ltb-true a b t))
      (λ t. omega (arith, eqb-true a b (and_first (eqb a b) true t)))

  module _ (x y : Float) (a b : ℕ) (p : Is D x a) (q : Is D y b) where
    pub is_le : le x y ≡ true → a ≤ b
    unfolding le lt eq
    is_le =
        two_are D (λ x y. le x y ≡ true → a ≤ b) x y a b p q
        (λ m e n d p' q' h. back m e n d a b p' q' (le_number _ _ h))

    pub le_is : a ≤ b → le x y ≡ true
    le_is h = is_true _ (le_of_values x y a D b D above above p q (mul-le-mul_right D h))

    pub not_lt_is : b ≤ a → lt x y ≡ false
    unfolding lt
    not_lt_is h =
        two_are D (λ x y. lt x y ≡ false) x y a b p q
        (λ m e n d p' q'. le-ltb _ _ (cross n d m e b a q' p' h))

    pub is_lt : lt x y ≡ true → a < b
    is_lt h = by_test (ltb a b) (λ t. ltb-true a b t) (λ t. absurd (false≢true (sym (not_lt_is (ltb-false a b t)) ∙ h)))

    pub is_not_lt : lt x y ≡ false → b ≤ a
    unfolding lt
    is_not_lt =
        two_are D (λ x y. lt x y ≡ false → b ≤ a) x y a b p q
        (λ m e n d p' q' h. back n d m e b a q' p' (ltb-false _ _ h))

    pub lt_is : a < b → lt x y ≡ true
    lt_is h = by_test (lt x y) (λ t. t) (λ t. absurd (not-le_of_lt h (is_not_lt t)))

  -- ---- arithmetic

  module _ (f : Format) where
    neg_odd : (d q k l : ℕ) → odd d true q k l ≡ neg (odd d false q k l)
    unfolding odd neg
    neg_odd d zero k l = refl
    neg_odd d (suc q) k l = refl

    neg_cond : (b : Bool) (x y z w : Float) → x ≡ neg z → y ≡ neg w → cond b x y ≡ neg (cond b z w)
    neg_cond true x y z w p q = p
    neg_cond false x y z w p q = q

    neg_units : (q k : ℕ) → units f true q k ≡ neg (units f false q k)
    unfolding units neg
    neg_units q k =
        neg_cond (ltb (q * 2 ^ k) (2 ^ (low f + suc (emax f)))) _ _ _ _ (neg_odd (suc (prec f)) q k (low f)) refl

    -- Rounding does not see the sign.
    neg_round : (a c : ℕ) → round f true a c ≡ neg (round f false a c)
    neg_round a c = round_is f true a c ∙ neg_units _ _ ∙ sym (ap neg (round_is f false a c))

    -- A float's own fraction, over the product of two denominators.
    over : (m : ℕ) (e d : ℤ) (a : ℕ) → Worth D m e a → m * up e * down d * D ≡ a * (down e * down d)
    over m e d a p = mul_right_comm (m * up e) (down d) D ∙ ap (λ (x : ℕ). x * down d) p ∙ mul_assoc a (down e) (down d)

    over' : (n : ℕ) (d e : ℤ) (b : ℕ) → Worth D n d b → n * up d * down e * D ≡ b * (down e * down d)
    over' n d e b q = over n d e b q ∙ ap (λ (x : ℕ). b * x) (mul_comm (down d) (down e))

    -- The difference, likewise.
    less : (m : ℕ) (e : ℤ) (n : ℕ) (d : ℤ) (a b : ℕ) → Worth D m e a → Worth D n d b
        → (m * up e * down d - n * up d * down e) * D ≡ (a - b) * (down e * down d)
    less m e n d a b p q =
        sub_mul (m * up e * down d) (n * up d * down e) D
        ∙ (λ i. over m e d a p i - over' n d e b q i)
        ∙ sym (sub_mul a b (down e * down d))

    module _ (x y : Float) (a b : ℕ) (p : Is D x a) (q : Is D y b) where
      pub is_add : add f x y ≡ round f false (a + b) D
      unfolding add sum
      is_add =
          two_are D (λ x y. add f x y ≡ round f false (a + b) D) x y a b p q
          (λ m e n d p' q'.
          round_same f false (m * up e * down d + n * up d * down e) (down e * down d) (a + b) D
          (mul-pos (down_pos e) (down_pos d)) above
          (add-mul (m * up e * down d) (n * up d * down e) D
          ∙ (λ i. over m e d a p' i + over' n d e b q' i)
          ∙ sym (add-mul a b (down e * down d))))

      pub is_sub : b ≤ a → sub f x y ≡ round f false (a - b) D
      unfolding sub add neg sum
      is_sub h =
          two_are D (λ x y. sub f x y ≡ round f false (a - b) D) x y a b p q
          (λ m e n d p' q'.
          rw (le-ltb (m * up e * down d) (n * up d * down e) (cross n d m e b a q' p' h))
          (round_same f false _ _ (a - b) D (mul-pos (down_pos e) (down_pos d)) above (less m e n d a b p' q')))

      -- The smaller less the larger.
      pub is_sub_below : a < b → sub f x y ≡ neg (round f false (b - a) D)
      unfolding sub add neg sum
      is_sub_below h =
          two_are D (λ x y. sub f x y ≡ neg (round f false (b - a) D)) x y a b p q
          (λ m e n d p' q'.
          let s = m * up e * down d in
          let t = n * up d * down e in
          let under : s < t =
          by_test (ltb s t) (λ u. ltb-true s t u) (λ u. absurd (not-le_of_lt h (back n d m e b a q' p' (ltb-false s t u)))) in
          let same : (t - s) * D ≡ (b - a) * (down e * down d) =
          less n d m e b a q' p' ∙ ap (λ (x : ℕ). (b - a) * x) (mul_comm (down d) (down e)) in
          rw (lt-ltb s t under)
          (neg_round (t - s) (down e * down d)
          ∙ ap neg (round_same f false (t - s) (down e * down d) (b - a) D (mul-pos (down_pos e) (down_pos d)) above same)))

      pub is_mul : mul f x y ≡ round f false (a * b) (D * D)
      unfolding mul
      is_mul =
          two_are D (λ x y. mul f x y ≡ round f false (a * b) (D * D)) x y a b p q
          (λ m e n d p' q'.
          round_same f false (m * up e * (n * up d)) (down e * down d) (a * b) (D * D)
          (mul-pos (down_pos e) (down_pos d)) (mul-pos above above)
          (mul-mul-mul_comm (m * up e) (n * up d) D D ∙ (λ i. p' i * q' i) ∙ mul-mul-mul_comm a (down e) b (down d)))

      pub mul_neg : mul f (neg x) y ≡ neg (mul f x y)
      unfolding mul neg
      mul_neg = two_are D (λ x y. mul f (neg x) y ≡ neg (mul f x y)) x y a b p q (λ m e n d p' q'. neg_round _ _)

-- ---- the quotient of two whole numbers

not_nought : (n : ℕ) (d : ℤ) (b : ℕ) → Worth 1 n d b → 0 < b → n ≡ 0 → ⊥
not_nought n d b q h z =
    let some : 0 < b * down d = mul-pos h (down_pos d) in
    let none : b * down d ≡ 0 = sym q ∙ ap (λ (k : ℕ). k * up d * 1) z ∙ ap (λ (k : ℕ). k * 1) (zero-mul (up d)) in
    omega arith

pub is_div : (f : Format) (x y : Float) (a b : ℕ) → Is 1 x a → Is 1 y b → 0 < b → div f x y ≡ round f false a b
unfolding div
is_div f x y a b p q h =
    two_are 1 (λ x y. div f x y ≡ round f false a b) x y a b p q
    (λ m e n d p' q'.
    let M : m * up e ≡ a * down e = sym (mul-one (m * up e)) ∙ p' in
    let N : n * up d ≡ b * down d = sym (mul-one (n * up d)) ∙ q' in
    let some : 0 < n * up d * down e = subst (λ (k : ℕ). 0 < k * down e) (sym N) (mul-pos (mul-pos h (down_pos d)) (down_pos e)) in
    let turned : a * down e * down d * b ≡ a * (b * down d * down e) = simp (mul_assoc, mul_comm, mul_left_comm) in
    rw (ne_eqb n 0 (not_nought n d b q' h))
    (round_same f false (m * up e * down d) (n * up d * down e) a b some h
    ((λ i. M i * down d * b) ∙ turned ∙ sym (λ i. a * (N i * down e)))))
