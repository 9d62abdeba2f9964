-- The test whether two lists of numbers are one tells it. Assumes nothing.
use Prim.Native.Nat.{ℕ}
use mathlib.Core.Path.{◌≡◌, refl}
use mathlib.Core.Bool.{true}
use mathlib.Core.List.{List, [], ◌∷◌}
use lib.Dec.{eqb}
use borrow.Author.Tests.{eqb-true, eq-eqb}
use Rattle.kinds.specs.Same.{same}
use Rattle.kinds.proofs.BoolLaws.{and_first, and_second, and_both}

-- Two lists that pass the test are the same.
pub same_is : (xs ys : List ℕ) → same xs ys ≡ true → xs ≡ ys
unfolding same
same_is [] [] h = refl
same_is [] (y ∷ ys) h = cc
same_is (x ∷ xs) [] h = cc
same_is (x ∷ xs) (y ∷ ys) h =
    let e = eqb-true x y (and_first (eqb x y) (same xs ys) h) in
    let t = same_is xs ys (and_second (eqb x y) (same xs ys) h) in
    cc

pub same_self : (xs : List ℕ) → same xs xs ≡ true
unfolding same
same_self [] = refl
same_self (x ∷ xs) = and_both (eq-eqb x x refl) (same_self xs)

-- Two lists that are the same pass the test.
pub is_same : (xs ys : List ℕ) → xs ≡ ys → same xs ys ≡ true
is_same xs ys e = rw e (same_self ys)
