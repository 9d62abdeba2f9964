-- x + (y - x) * q of values of 0 to 1, compared as floats: it begins at x, does not turn back as q grows, and where q is well below 1 it lies between
-- x and y.
-- In either format. Assumes nothing.
use Prim.Native.Nat.{ℕ, ◌+◌, ◌-◌, ◌*◌, ◌/◌, ◌^◌, ◌≤◌, ◌<◌}
use native.Mathlib.Omega.{arith}
use native.Mathlib.Nat.{mul_assoc, mul_comm, mul-one, mul_right_comm, add-mul, div-one, le_trans, le_of_eq, lt_of_le_of_lt}
use native.Mathlib.Nat.{mul-zero, mul-le-mul_left, mul-le-mul_right, le_of_mul-le-mul_right}
use mathlib.Core.Path.{◌≡◌, sym, ◌∙◌, ap, subst}
use mathlib.Core.Bool.{true, false}
use borrow.Author.Tests.{ltb-true, ltb-false}
use lib.Dec.{ltb, lit≤}
use lib.Pow.{pow-add, pow_mono}
use lib.Ieee.{Float, Format, binary32, binary64, prec, sub, round, size, lt, le}
use lib.Ieee.Digits.{size-le, size-lt, size_reaches}
use lib.Ieee.Fits.{two}
use lib.Ieee.Nearest.{div_mono}
use lib.Ieee.Scale.{grid}
use Rattle.command.proofs.Tests.{by_test}
use Rattle.floats.proofs.UnitsLaws.{is_same, is_le, le_is, is_lt, is_not_lt}
use Rattle.floats.proofs.RoundLaws.{unity, some, Rounds, rounds_none, round_le_over, rounds_grid, dropped, grid_near, size_over, undropped}
use Rattle.floats.proofs.PartLaws.{square, Part, self, difference, product, product_most}
use Rattle.floats.proofs.BetweenLaws.{between, moved, upward, upward_least, upward_grows, under, downward, downward_most, downward_falls}

-- There are digits enough.
digits : (f : Format) → 8_388_608 ≤ 2 ^ (prec f - 1)
digits binary32 = lit≤ tt
digits binary64 = lit≤ tt

-- The arithmetic of it: w, what the last digit is worth, is little beside n.
slack : (v w a n : ℕ) → v * 1_048_576 ≤ a * 1_048_575 → a * 8_388_608 ≤ n * 8_388_609 → w * 8_388_608 ≤ n → v + w ≤ n
slack v w a n f g h = omega arith

module _ (f : Format) where
  -- 1, in units.
  abbrev u : ℕ
  u = unity f

  -- At most 1 less its 1,048,576th part: well below 1.
  abbrev pub Small : ℕ → Type 0
  Small b = b * 1_048_576 ≤ u * 1_048_575

  -- ---- a difference of n units, rounded to a, times b, rounded

  module _ (n a b : ℕ) (a_is : a ≡ grid f n u) (small : Small b) (h : 0 < dropped f n u) where
    -- Where digits are dropped, the last one kept is worth little beside n.
    last_little : 2 ^ dropped f n u * 8_388_608 ≤ n
    last_little =
        let k = dropped f n u in
        let few : 2 ^ k * 8_388_608 ≤ 2 ^ k * 2 ^ (prec f - 1) = mul-le-mul_left (2 ^ k) (digits f) in
        let reached : 2 ^ (k + (prec f - 1)) ≤ n = size_reaches n (k + (prec f - 1)) (omega (arith, size_over f n, two f)) in
        le_trans few (le_trans (le_of_eq (sym (pow-add 2 k (prec f - 1)))) reached)

    last_over : u * 2 ^ dropped f n u * 8_388_608 ≤ n * u
    last_over =
        le_trans (le_of_eq (mul_assoc u (2 ^ dropped f n u) 8_388_608))
        (le_trans (mul-le-mul_left u last_little) (le_of_eq (mul_comm u n)))

    -- So the rounded difference is little more than n,
    little_more : a * u * 8_388_608 ≤ n * u * 8_388_609
    little_more =
        let near : a * u ≤ n * u + u * 2 ^ dropped f n u = le_trans (le_of_eq (ap (λ (x : ℕ). x * u) a_is)) (grid_near f n u) in
        omega (arith, last_over)

    -- while the product is less than it by more.
    less : a * b * 1_048_576 ≤ a * u * 1_048_575
    less =
        le_trans (le_of_eq (mul_assoc a b 1_048_576)) (le_trans (mul-le-mul_left a small) (le_of_eq (sym (mul_assoc a u 1_048_575))))

    -- It has no more digits than n, and so its last digit is worth no more.
    no_longer : size (a * b * u / (u * u)) ≤ size n
    no_longer =
        let under : a * b ≤ n * u = omega (arith, less, little_more) in
        let over : a * b * u * 1 ≤ n * (u * u) =
        le_trans (le_of_eq (mul-one (a * b * u))) (le_trans (mul-le-mul_right u under) (le_of_eq (mul_assoc n u u))) in
        let whole : a * b * u / (u * u) ≤ n =
        le_trans (div_mono (a * b * u) (u * u) n 1 (square f) (omega arith) over) (le_of_eq (div-one n)) in
        size-le (a * b * u / (u * u)) (size n) (lt_of_le_of_lt whole (size-lt n))

    last_no_more : u * 2 ^ dropped f (a * b) (u * u) ≤ u * 2 ^ dropped f n u
    last_no_more = mul-le-mul_left u (pow_mono (omega (arith, no_longer, size_over f n)))

    -- How far rounding moves it.
    product_near : grid f (a * b) (u * u) * u ≤ a * b + u * 2 ^ dropped f (a * b) (u * u)
    product_near =
        let g = grid f (a * b) (u * u) in
        let w = 2 ^ dropped f (a * b) (u * u) in
        let apart : a * b * u + u * u * w ≡ (a * b + u * w) * u =
        ap (λ (x : ℕ). a * b * u + x) (mul_right_comm u u w) ∙ sym (add-mul (a * b) (u * w) u) in
        let near : g * u * u ≤ (a * b + u * w) * u =
        le_trans (le_of_eq (mul_assoc g u u)) (le_trans (grid_near f (a * b) (u * u)) (le_of_eq apart)) in
        le_of_mul-le-mul_right near (some f)

    -- The product is no more than n.
    product_within : grid f (a * b) (u * u) ≤ n
    product_within =
        let sum : a * b + u * 2 ^ dropped f n u ≤ n * u =
        slack (a * b) (u * 2 ^ dropped f n u) (a * u) (n * u) less little_more last_over in
        le_of_mul-le-mul_right (le_trans product_near (omega (arith, last_no_more, sum))) (some f)

  -- ---- how far a q that is well below 1 moves

  module _ (q : Float) (b : Part f q) (small : Small b.at) where
    -- Where no digit is dropped the difference is exact, and its product with q is no more.
    moved_little : (x y : Float) (p : Part f x) (r : Part f y) (h : r.at ≤ p.at) → moved f x y q p r h b ≤ p.at - r.at
    moved_little x y p r h =
        let n = p.at - r.at in
        let d = difference f x p y r h in
        let m = product f (sub f x y) d.part q b in
        let d_is = rounds_grid f n u d.part.at (some f) d.from in
        let m_is = rounds_grid f (d.part.at * b.at) (u * u) m.part.at (square f) m.from in
        by_test (ltb 0 (dropped f n u))
        (λ t. le_trans (le_of_eq m_is) (product_within n d.part.at b.at d_is small (ltb-true 0 _ t)))
        (λ t.
        let none : dropped f n u ≡ 0 = omega (arith, ltb-false 0 (dropped f n u) t) in
        let own : d.part.at ≡ n = is_same u (round f false n u) d.part.at n d.from (undropped f n none) in
        le_trans (product_most f (sub f x y) d.part q b) (le_of_eq own))

    module _ (x y : Float) (p : Part f x) (r : Part f y) where
      upward_within : (h : p.at ≤ r.at) → (upward f x y p r h q b).part.at ≤ r.at
      upward_within h =
          round_le_over f u _ r.at _ _ (some f) (omega (arith, moved_little y x r p h)) (upward f x y p r h q b).from (self f y r)

      downward_within : (h : r.at < p.at) → r.at ≤ (downward f x y p r h q b).part.at
      downward_within h =
          round_le_over f u r.at _ _ _ (some f) (omega (arith, moved_little x y p r (under f x y p r h))) (self f y r)
          (downward f x y p r h q b).from

  -- ---- where q is 0

  moved_none : (q : Float) (b : Part f q) → b.at ≡ 0 → (x y : Float) (p : Part f x) (r : Part f y) (h : r.at ≤ p.at) → moved f x y q p r h b ≡ 0
  moved_none q b z x y p r h =
      let d = (difference f x p y r h).part in
      let m = product f (sub f x y) d q b in
      let none : d.at * b.at ≡ 0 = ap (λ (k : ℕ). d.at * k) z ∙ mul-zero d.at in
      rounds_none f (u * u) m.part.at (square f) (subst (λ (n : ℕ). Rounds f n (u * u) m.part.at) none m.from)

  module _ (q : Float) (b : Part f q) (z : b.at ≡ 0) (x y : Float) (p : Part f x) (r : Part f y) where
    upward_none : (h : p.at ≤ r.at) → (upward f x y p r h q b).part.at ≤ p.at
    upward_none h =
        round_le_over f u _ p.at _ _ (some f) (omega (arith, moved_none q b z y x r p h)) (upward f x y p r h q b).from (self f x p)

    downward_none : (h : r.at < p.at) → p.at ≤ (downward f x y p r h q b).part.at
    downward_none h =
        round_le_over f u p.at _ _ _ (some f) (omega (arith, moved_none q b z x y p r (under f x y p r h))) (self f x p)
        (downward f x y p r h q b).from

  -- ---- the same of floats

  module _ (x y q : Float) (p : Part f x) (r : Part f y) (b : Part f q) where
    -- A value of 0 to 1 again.
    pub between_part : Part f (between f x y q)
    between_part =
        by_test (ltb r.at p.at) (λ t. (downward f x y p r (ltb-true r.at p.at t) q b).part)
        (λ t. (upward f x y p r (ltb-false r.at p.at t) q b).part)

    -- The float that a part is, compared with another's.
    part_le : (z w : Float) (s : Part f z) (t : Part f w) → s.at ≤ t.at → le z w ≡ true
    part_le z w s t = le_is u (some f) z w s.at t.at s.is t.is

    not_below : lt y x ≡ false → p.at ≤ r.at
    not_below = is_not_lt u (some f) y x r.at p.at r.is p.is

    below : lt y x ≡ true → r.at < p.at
    below = is_lt u (some f) y x r.at p.at r.is p.is

    -- Upwards never below x.
    pub between_least : lt y x ≡ false → le x (between f x y q) ≡ true
    between_least h = let e = not_below h in part_le x _ p (upward f x y p r e q b).part (upward_least f x y p r e q b)

    -- Where q is 0: x.
    pub between_none : b.at ≡ 0 → (le x (between f x y q) ≡ true) × (le (between f x y q) x ≡ true)
    between_none z =
        by_test (lt y x)
        (λ t.
        let e = below t in
        let w = (downward f x y p r e q b).part in
        (part_le x _ p w (downward_none q b z x y p r e), part_le _ x w p (downward_most f x y p r e q b)))
        (λ t. let e = not_below t in (between_least t, part_le _ x (upward f x y p r e q b).part p (upward_none q b z x y p r e)))

    -- Where q is well below 1: from x to y, or from y to x.
    pub rises_within : Small b.at → lt y x ≡ false → (le x (between f x y q) ≡ true) × (le (between f x y q) y ≡ true)
    rises_within s h =
        let e = not_below h in
        (between_least h, part_le _ y (upward f x y p r e q b).part r (upward_within q b s x y p r e))

    pub falls_within : Small b.at → lt y x ≡ true → (le y (between f x y q) ≡ true) × (le (between f x y q) x ≡ true)
    falls_within s h =
        let e = below h in
        let z = (downward f x y p r e q b).part in
        (part_le y _ r z (downward_within q b s x y p r e), part_le _ x z p (downward_most f x y p r e q b))

    -- As q grows it does not turn back.
    module _ (q' : Float) (b' : Part f q') (g : le q q' ≡ true) where
      more : b.at ≤ b'.at
      more = is_le u (some f) q q' b.at b'.at b.is b'.is g

      pub rises : lt y x ≡ false → le (between f x y q) (between f x y q') ≡ true
      rises h =
          let e = not_below h in
          part_le _ _ (upward f x y p r e q b).part (upward f x y p r e q' b').part (upward_grows f q q' b b' more x y p r e)

      pub falls : lt y x ≡ true → le (between f x y q') (between f x y q) ≡ true
      falls h =
          let e = below h in
          part_le _ _ (downward f x y p r e q' b').part (downward f x y p r e q b).part (downward_falls f q q' b b' more x y p r e)
