-- A place confirmed by a majority is one of the confirmed lengths, or below one of them that is confirmed too. Assumes nothing.
use Prim.Native.Nat.{ℕ, suc, ◌≤◌, ◌<◌}
use native.Mathlib.Omega.{arith}
use mathlib.Core.Path.{◌≡◌, refl, ◌∙◌}
use mathlib.Core.Bool.{Bool, true, false}
use mathlib.Core.Logic.{◌⊎◌, inl, inr, ⊎_elim}
use mathlib.Core.List.{List, [], ◌∷◌}
use borrow.Author.Tests.{leb-true, leb-false, le-leb, lt-leb}
use lib.Dec.{leb}
use lib.ListN.{length, take, get_or, length-take}
use lib.Seq.{get_or-take}
use Rattle.kinds.specs.Sizes.{majority}
use Rattle.state.specs.Legal.{count}
use Rattle.rules.specs.Majority.{confirmed_by}
use Rattle.rules.proofs.CountLaws.{tally, count_cons, count_weaker}

-- ---- how many numbers are p or more

-- A lower number is not reached by fewer.
lower : (p q : ℕ) (xs : List ℕ) → p ≤ q → count (leb q) xs ≤ count (leb p) xs
lower p q xs h = count_weaker (leb q) (leb p) (λ x e. le-leb p x (omega (arith, leb-true q x e))) xs

-- A member that is p or more, and reached by as many as p.
record Reached (p : ℕ) (xs : List ℕ) : Type 0 where
  at : ℕ
  inside : at < length xs
  up : p ≤ get_or xs at 0
  many : count (leb p) xs ≤ count (leb (get_or xs at 0)) xs

-- One of those that are p or more is such a member: the least of them. Or there is none.
reached : (p : ℕ) (xs : List ℕ) → Reached p xs ⊎ (count (leb p) xs ≡ 0)
unfolding count
reached p [] = inr refl
reached p (x ∷ xs) = first (leb p x) refl (reached p xs)
  where
    here : p ≤ x → count (leb p) xs ≤ count (leb x) xs → Reached p (x ∷ xs)
    here up many =
        record {
          at = 0;
          inside = omega arith;
          up = up;
          many = omega (arith, count_cons (leb p) x xs true (le-leb p x up), count_cons (leb x) x xs true (le-leb x x (omega arith)));
        }

    behind : (r : Reached p xs) (b : Bool) → leb p x ≡ b → leb (get_or xs r.at 0) x ≡ b → Reached p (x ∷ xs)
    behind r b e f =
        record {
          at = suc r.at;
          inside = omega (arith, r.inside);
          up = r.up;
          many = rw (count_cons (leb p) x xs b e, count_cons (leb (get_or xs r.at 0)) x xs b f) (more b);
        }
      where
        more : (b : Bool) → tally b (count (leb p) xs) ≤ tally b (count (leb (get_or xs r.at 0)) xs)
        more true = omega (arith, r.many)
        more false = r.many

    least : (r : Reached p xs) → leb p x ≡ true → (b : Bool) → leb (get_or xs r.at 0) x ≡ b → Reached p (x ∷ xs)
    least r e true f = behind r true e f
    least r e false f =
        let y = get_or xs r.at 0 in
        here (leb-true p x e) (omega (arith, r.many, lower x y xs (omega (arith, leb-false y x f))))

    first : (b : Bool) → leb p x ≡ b → Reached p xs ⊎ (count (leb p) xs ≡ 0) → Reached p (x ∷ xs) ⊎ (count (leb p) (x ∷ xs) ≡ 0)
    first true e (inl r) = inl (least r e (leb (get_or xs r.at 0) x) refl)
    first true e (inr z) = inl (here (leb-true p x e) (omega arith))
    first false e (inl r) = inl (behind r false e (lt-leb (get_or xs r.at 0) x (omega (arith, r.up, leb-false p x e))))
    first false e (inr z) = inr (count_cons (leb p) x xs false e ∙ z)

-- ---- confirmed by a majority

module _ (n : ℕ) (confirmed : List ℕ) where
  -- A lower place is confirmed with a higher one.
  pub confirmed_below : (p q : ℕ) → p ≤ q → confirmed_by n confirmed q ≡ true → confirmed_by n confirmed p ≡ true
  unfolding confirmed_by
  confirmed_below p q h e =
      let xs = take n confirmed in
      le-leb (majority n) (count (leb p) xs) (omega (arith, lower p q xs h, leb-true (majority n) (count (leb q) xs) e))

  -- A confirmed place is a confirmed length, or below one that is confirmed too.
  pub confirmed_length :
      (p : ℕ) → n ≤ length confirmed → confirmed_by n confirmed p ≡ true
      → (i : ℕ) × (i < n) × (p ≤ get_or confirmed i 0) × (confirmed_by n confirmed (get_or confirmed i 0) ≡ true)
  unfolding confirmed_by
  confirmed_length p long e =
      let xs = take n confirmed in
      let many = leb-true (majority n) (count (leb p) xs) e in
      let r : Reached p xs = ⊎_elim (λ r. r) (λ z. absurd (omega (arith, many))) (reached p xs) in
      let inside : r.at < n = omega (arith, r.inside, length-take n confirmed) in
      let q = get_or xs r.at 0 in
      let same : q ≡ get_or confirmed r.at 0 = get_or-take n confirmed r.at 0 inside in
      let has = le-leb (majority n) (count (leb q) xs) (omega (arith, many, r.many)) in
      (r.at, inside, omega (arith, r.up, same), rw same at has)
