-- Of values of 0 to 1, x + (y - x) * q with each operation rounded is a value of 0 to 1 again: upwards no less than x, downwards no more, and
-- further on for a greater q. In either format. Assumes nothing.
use Prim.Native.Nat.{ℕ, ◌+◌, ◌-◌, ◌*◌, ◌^◌, ◌≤◌, ◌<◌}
use native.Mathlib.Omega.{arith}
use native.Mathlib.Nat.{le_refl, sub-le, mul-le-mul_left, mul-le-mul_right}
use mathlib.Core.Path.{◌≡◌, refl, sym, ◌∙◌, ap, subst}
use borrow.Author.Tests.{ltb-true, ltb-false}
use lib.Dec.{ltb}
use lib.Ieee.{Float, Format, binary32, binary64, prec, low, neg, add, sub, mul, round, size}
use lib.Ieee.Fits.{add-fits}
use Rattle.command.proofs.Tests.{by_test}
use Rattle.floats.proofs.UnitsLaws.{is_add, is_sub, is_sub_below, mul_neg}
use Rattle.floats.proofs.RoundLaws.{unity, some, Rounds, round_le_over, rounds_grid, grid_below_one}
use Rattle.floats.proofs.PartLaws.{square, Part, self, Rounded, rounded, difference, difference_most, product, product_most}

-- A little more than 1 is rounded to 1: half a unit of 1's last digit, a tie.
a_little_more : (f : Format) → Rounds f (unity f + 2 ^ (low f - prec f)) (unity f) (unity f)
unfolding round
a_little_more binary32 = (refl, refl)
a_little_more binary64 = (refl, refl)

module _ (f : Format) where
  -- 1, in units.
  abbrev u : ℕ
  u = unity f

  -- ---- x + (y - x) * q

  abbrev pub between : Float → Float → Float → Float
  between x y q = add f x (mul f (sub f y x) q)

  -- How far q moves, upwards or downwards.
  abbrev pub moved : (x y q : Float) (p : Part f x) (r : Part f y) → r.at ≤ p.at → (b : Part f q) → ℕ
  moved x y q p r h b = (product f (sub f x y) (difference f x p y r h).part q b).part.at

  as_sum : (x z : Float) → sub f x z ≡ add f x (neg z)
  unfolding sub
  as_sum x z = refl

  module _ (x y : Float) (p : Part f x) (r : Part f y) where
    -- Upwards.
    module _ (h : p.at ≤ r.at) where
      -- The rounded difference may be a little more than the exact one.
      over : (difference f y r x p h).part.at + p.at ≤ u + 2 ^ (low f - prec f)
      unfolding size
      over =
          let d = difference f y r x p h in
          let n = r.at - p.at in
          by_test (ltb n u)
          (λ t. omega (arith, rounds_grid f n u d.part.at (some f) d.from, grid_below_one f n (ltb-true n u t), r.most))
          (λ t. omega (arith, ltb-false n u t, r.most, difference_most f y r x p h))

      module _ (q : Float) (b : Part f q) where
        pub upward : Rounded f (p.at + moved y x q r p h b) u (between x y q)
        upward =
            let d = (difference f y r x p h).part in
            let m = (product f (sub f y x) d q b).part in
            rounded f _ (p.at + m.at) u (u + 2 ^ (low f - prec f)) u u (some f) (some f)
            (mul-le-mul_right u (omega (arith, over, product_most f (sub f y x) d q b))) (a_little_more f) (le_refl u)
            (is_add u (some f) f x (mul f (sub f y x) q) p.at m.at p.is m.is) (add-fits f x _)

        pub upward_least : p.at ≤ upward.part.at
        upward_least = round_le_over f u p.at _ _ _ (some f) (omega arith) (self f x p) upward.from

    -- Downwards.
    module _ (h : r.at < p.at) where
      turned : sub f y x ≡ neg (sub f x y)
      turned =
          is_sub_below u (some f) f y x r.at p.at r.is p.is h
          ∙ ap neg (sym (is_sub u (some f) f x y p.at r.at p.is r.is (omega arith)))

      pub under : r.at ≤ p.at
      under = omega arith

      module _ (q : Float) (b : Part f q) where
        pub downward : Rounded f (p.at - moved x y q p r under b) u (between x y q)
        downward =
            let d = (difference f x p y r under).part in
            let m = (product f (sub f x y) d q b).part in
            let z = mul f (sub f x y) q in
            let back : mul f (sub f y x) q ≡ neg z =
            ap (λ k. mul f k q) turned ∙ mul_neg u (some f) f (sub f x y) q d.at b.at d.is b.is in
            let l : m.at ≤ p.at = omega (arith, product_most f (sub f x y) d q b, difference_most f x p y r under) in
            subst (λ k. Rounded f (p.at - m.at) u k) (as_sum x z ∙ ap (add f x) (sym back)) (difference f x p z m l)

        pub downward_most : downward.part.at ≤ p.at
        downward_most = round_le_over f u _ p.at _ _ (some f) (sub-le p.at _) downward.from (self f x p)

  -- ---- it does not turn back as q grows

  module _ (q q' : Float) (b : Part f q) (b' : Part f q') (g : b.at ≤ b'.at) where
    moved_more : (x y : Float) (p : Part f x) (r : Part f y) (h : r.at ≤ p.at) → moved x y q p r h b ≤ moved x y q' p r h b'
    moved_more x y p r h =
        let d = (difference f x p y r h).part in
        let z = sub f x y in
        round_le_over f (u * u) (d.at * b.at) (d.at * b'.at) _ _ (square f) (mul-le-mul_left d.at g)
        (product f z d q b).from (product f z d q' b').from

    module _ (x y : Float) (p : Part f x) (r : Part f y) where
      pub upward_grows : (h : p.at ≤ r.at) → (upward x y p r h q b).part.at ≤ (upward x y p r h q' b').part.at
      upward_grows h =
          round_le_over f u _ _ _ _ (some f) (omega (arith, moved_more y x r p h)) (upward x y p r h q b).from (upward x y p r h q' b').from

      pub downward_falls : (h : r.at < p.at) → (downward x y p r h q' b').part.at ≤ (downward x y p r h q b).part.at
      downward_falls h =
          round_le_over f u _ _ _ _ (some f) (omega (arith, moved_more x y p r (under x y p r h)))
          (downward x y p r h q' b').from (downward x y p r h q b).from
