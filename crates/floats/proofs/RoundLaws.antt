-- Rounding in units, the format's smallest values: it keeps the order of fractions, leaves what the format holds as it is, and moves a fraction
-- by no more than a unit of the last digit that it keeps; in either format. Assumes nothing.
use Prim.Native.Nat.{ℕ, zero, suc, ◌+◌, ◌-◌, ◌*◌, ◌/◌, ◌%◌, ◌^◌, ◌≤◌, ◌<◌, compare}
use native.Mathlib.Omega.{arith}
use native.Mathlib.Nat.{mul_assoc, mul_comm, mul-one, zero-mul, suc-mul, le_refl, le_trans, le_of_eq, lt_of_le_of_lt, lt_of_lt_of_le}
use native.Mathlib.Nat.{not-le_of_lt, mul-le-mul_right, le_of_mul-le-mul_right, mul-div_cancel, div-mul-le_self, eq_of_mul-eq-mul_right, add-mul}
use mathlib.Core.Path.{◌≡◌, sym, ◌∙◌, ap}
use mathlib.Core.Bool.{Bool, true, false, false≢true, ◌&&◌}
use borrow.Author.Tests.{ltb-true, ltb-false}
use lib.Dec.{T, ltb, leb, eqb, ltb→lt, leb→le}
use lib.IntN.{ℤ, pos, negsuc}
use lib.Pow.{pow_pos, pow-add, pow-lt, pow_mono}
use lib.Ieee.{Float, nan, inf, fin, Format, prec, low, up, down, round, units, size, lt, le, eq, fits}
use lib.Ieee.Exact.{round_exact}
use lib.Ieee.Bits.{is_true}
use lib.Ieee.Digits.{size-le, size-lt}
use lib.Ieee.Fits.{down_pos, round_is, and_l, and_r, nearest-le, reach}
use lib.Ieee.Nearest.{closest}
use lib.Ieee.Order.{round_mono}
use lib.Ieee.Scale.{grid, overflow, round_val}
use Rattle.command.proofs.Tests.{by_test}
use Rattle.floats.proofs.UnitsLaws.{Is, is_same, is_le}

module _ (f : Format) where
  -- How many units 1 is.
  abbrev pub unity : ℕ
  unity = 2 ^ low f

  pub some : 0 < unity
  some = pow_pos (low f)

  -- n / c, rounded, is g units.
  abbrev pub Rounds : ℕ → ℕ → ℕ → Type 0
  Rounds n c g = Is unity (round f false n c) g

  -- ---- the order of fractions

  module _ (n c n' c' g' : ℕ) (C : 0 < c) (C' : 0 < c') (h : n * c' ≤ n' * c) (w : Rounds n' c' g') where
    -- It stays.
    pub round_le : (g : ℕ) → Rounds n c g → g ≤ g'
    round_le g v = is_le unity some _ _ g g' v w (is_true _ (round_mono f n c n' c' C C' h))

    too_large : ltb (grid f n c) (overflow f) ≡ false → round f false n c ≡ inf false
    unfolding units
    too_large t = round_is f false n c ∙ rw t

    inf_not_le : (y : Float) → Is unity y g' → le (inf false) y ≡ true → ⊥
    unfolding le lt eq
    inf_not_le nan v t = v
    inf_not_le (inf s) v t = v
    inf_not_le (fin s m e) v t = false≢true t

    -- What is not above one that is rounded to a finite value is rounded to one.
    pub rounds : Rounds n c (grid f n c)
    rounds =
        let least : le (round f false n c) (round f false n' c') ≡ true = is_true _ (round_mono f n c n' c' C C' h) in
        round_val f n c
        (by_test (ltb (grid f n c) (overflow f)) (λ t. ltb-true _ _ t)
        (λ t. absurd (inf_not_le (round f false n' c') w (ap (λ x. le x (round f false n' c')) (sym (too_large t)) ∙ least))))

  -- Over one denominator.
  pub round_le_over : (c n n' g g' : ℕ) → 0 < c → n ≤ n' → Rounds n c g → Rounds n' c g' → g ≤ g'
  round_le_over c n n' g g' C h v w = round_le n c n' c g' C C (mul-le-mul_right c h) w g v

  -- What a fraction is rounded to, by its digits.
  pub rounds_grid : (n c g : ℕ) → 0 < c → Rounds n c g → g ≡ grid f n c
  rounds_grid n c g C v = is_same unity (round f false n c) g (grid f n c) v (rounds n c n c g C C (le_refl (n * c)) v)

  -- ---- what the format holds

  -- m * 2 ^ j
  record Shape (g : ℕ) : Type 0 where
    m : ℕ
    j : ℕ
    few : m < 2 ^ prec f
    is : g ≡ m * 2 ^ j

  inside : (k l : ℕ) → 2 ^ k ≤ 2 ^ l → k ≤ l
  inside k l h = by_test (ltb l k) (λ t. absurd (not-le_of_lt (pow-lt (ltb-true l k t)) h)) (λ t. ltb-false l k t)

  fit : (m : ℕ) (e : ℤ) (s : Bool) → T (fits f (fin s (suc m) e)) → (suc m < 2 ^ prec f) × (down e ≤ 2 ^ low f)
  unfolding fits
  fit m e s t =
      let a = eqb (suc m % 2) 1 in
      let b = ltb (suc m) (2 ^ prec f) in
      let c = leb (down e) (2 ^ low f) in
      let u : T (a && b && c) = and_l (a && b && c) _ t in
      (ltb→lt (suc m) (2 ^ prec f) (and_r a b (and_l (a && b) c u)), leb→le (down e) (2 ^ low f) (and_r (a && b) c u))

  shape : (x : Float) (g : ℕ) → T (fits f x) → Is unity x g → Shape g
  shape nan g t p = absurd p
  shape (inf s) g t p = absurd p
  shape (fin s zero e) g t p =
      let none : 0 * up e * unity ≡ 0 * down e =
      ap (λ (k : ℕ). k * unity) (zero-mul (up e)) ∙ zero-mul unity ∙ sym (zero-mul (down e)) in
      record { m = 0; j = 0; few = pow_pos (prec f); is = eq_of_mul-eq-mul_right (down e) (down_pos e) g 0 (sym p.1 ∙ none) }
  shape (fin s (suc m) (pos k)) g t p =
      let is : suc m * 2 ^ k * unity ≡ suc m * 2 ^ (k + low f) =
      mul_assoc (suc m) (2 ^ k) unity ∙ ap (λ (x : ℕ). suc m * x) (sym (pow-add 2 k (low f))) in
      record { m = suc m; j = k + low f; few = (fit m (pos k) s t).0; is = sym (mul-one g) ∙ sym p.1 ∙ is }
  shape (fin s (suc m) (negsuc k)) g t p =
      let j = low f - suc k in
      let within : suc k ≤ low f = inside (suc k) (low f) (fit m (negsuc k) s t).1 in
      let parts : low f ≡ j + suc k = omega arith in
      let is : suc m * 1 * unity ≡ suc m * 2 ^ j * 2 ^ suc k =
      ap (λ (x : ℕ). x * unity) (mul-one (suc m)) ∙ ap (λ (x : ℕ). suc m * 2 ^ x) parts
      ∙ ap (λ (x : ℕ). suc m * x) (pow-add 2 j (suc k)) ∙ sym (mul_assoc (suc m) (2 ^ j) (2 ^ suc k)) in
      record {
        m = suc m;
        j = j;
        few = (fit m (negsuc k) s t).0;
        is = eq_of_mul-eq-mul_right (2 ^ suc k) (pow_pos (suc k)) g (suc m * 2 ^ j) (sym p.1 ∙ is);
      }

  -- A value of the format that is at most 1 is rounded to itself.
  pub exact : (x : Float) (g : ℕ) → T (fits f x) → Is unity x g → g ≤ unity → Rounds g unity g
  exact x g t p h =
      let s = shape x g t p in
      round_exact f false g unity s.m s.j some s.few
      (lt_of_le_of_lt (le_trans (le_of_eq (sym s.is)) h) (pow-lt (omega arith)))
      (ap (λ (k : ℕ). k * unity) s.is)

  -- ---- how far rounding goes

  -- How many digits of n / c are dropped.
  abbrev pub dropped : ℕ → ℕ → ℕ
  dropped n c = size (n * unity / c) - prec f

  near : (n b : ℕ) → closest n b * b ≤ n + b
  near n b =
      let up_to : closest n b ≤ suc (n / b) = nearest-le (n / b) (compare (n % b * 2) b) in
      let down_to : n / b * b ≤ n = div-mul-le_self n b in
      le_trans (mul-le-mul_right b up_to) (le_trans (le_of_eq (suc-mul (n / b) b)) (omega arith))

  -- By a unit of the last digit that is kept, at most.
  pub grid_near : (n c : ℕ) → grid f n c * c ≤ n * unity + c * 2 ^ dropped n c
  grid_near n c =
      let k = dropped n c in
      let q = closest (n * unity) (c * 2 ^ k) in
      let turned : q * 2 ^ k * c ≡ q * (c * 2 ^ k) = mul_assoc q (2 ^ k) c ∙ ap (λ (x : ℕ). q * x) (mul_comm (2 ^ k) c) in
      le_trans (le_of_eq turned) (near (n * unity) (c * 2 ^ k))

  pub size_over : (n : ℕ) → size (n * unity / unity) ≡ size n
  size_over n = ap size (mul-div_cancel n some)

  pub grid_over : (n : ℕ) → grid f n unity ≤ n + 2 ^ dropped n unity
  grid_over n =
      let k = dropped n unity in
      let turned : n * unity + unity * 2 ^ k ≡ (n + 2 ^ k) * unity =
      ap (λ (x : ℕ). n * unity + x) (mul_comm unity (2 ^ k)) ∙ sym (add-mul n (2 ^ k) unity) in
      le_of_mul-le-mul_right (le_trans (grid_near n unity) (le_of_eq turned)) some

  -- Below 1 the last digit that is kept is small.
  pub grid_below_one : (n : ℕ) → n < unity → grid f n unity ≤ n + 2 ^ (low f - prec f)
  grid_below_one n h =
      let few : size n ≤ low f = size-le n (low f) h in
      let small : 2 ^ dropped n unity ≤ 2 ^ (low f - prec f) = pow_mono (omega (arith, size_over n)) in
      le_trans (grid_over n) (omega arith)

  -- Where no digit is dropped, n is rounded to itself.
  pub undropped : (n : ℕ) → dropped n unity ≡ 0 → Rounds n unity n
  undropped n h =
      let few : n < 2 ^ prec f = lt_of_lt_of_le (size-lt n) (pow_mono (omega (arith, size_over n))) in
      round_exact f false n unity n 0 some few
      (lt_of_le_of_lt (le_of_eq (mul-one n)) (lt_of_lt_of_le few (pow_mono (omega (arith, reach f)))))
      (ap (λ (x : ℕ). x * unity) (sym (mul-one n)))

  -- 0 is rounded to 0.
  pub rounds_none : (c g : ℕ) → 0 < c → Rounds 0 c g → g ≡ 0
  rounds_none c g C v =
      let none : Rounds 0 unity 0 = undropped 0 (omega (arith, size_over 0, size-le 0 0 (pow_pos 0))) in
      omega (arith, round_le 0 c 0 unity 0 C some (le_of_eq (zero-mul unity ∙ sym (zero-mul c))) none g v)
