-- What stands at an index of a list, and prefixes. Assumes nothing.
use Prim.Native.Nat.{ℕ, zero, suc, ◌+◌, ◌≤◌, ◌<◌}
use native.Mathlib.Omega.{arith}
use mathlib.Core.Path.{◌≡◌, refl, ◌∙◌, ap}
use mathlib.Core.List.{List, [], ◌∷◌, ◌++◌, map}
use mathlib.Core.Option.{none, some}
use lib.ListN.{length, take, drop, get_elem?}
use Rattle.kinds.proofs.Clash.{clash}

module _ {A : Type 0} where
  -- Below the length something stands.
  pub at_in : (l : List A) (i : ℕ) → i < length l → (e : A) × (get_elem? l i ≡ some e)
  at_in [] i lt = absurd (omega arith)
  at_in (x ∷ l) zero lt = (x, refl)
  at_in (x ∷ l) (suc i) lt = at_in l i (omega arith)

  -- Something stands only below the length.
  pub at_lt : (l : List A) (i : ℕ) (e : A) → get_elem? l i ≡ some e → i < length l
  at_lt [] i e h = clash (cc)
  at_lt (x ∷ l) zero e h = omega arith
  at_lt (x ∷ l) (suc i) e h = omega (arith, at_lt l i e h)

  -- From the length on nothing stands.
  pub at_out : (l : List A) (i : ℕ) → length l ≤ i → get_elem? l i ≡ none
  at_out [] i le = refl
  at_out (x ∷ l) zero le = absurd (omega arith)
  at_out (x ∷ l) (suc i) le = at_out l i (omega arith)

  -- What stands in the first of two lists.
  pub at_first : (l m : List A) (i : ℕ) (e : A) → get_elem? l i ≡ some e → get_elem? (l ++ m) i ≡ some e
  at_first [] m i e h = clash (cc)
  at_first (x ∷ l) m zero e h = h
  at_first (x ∷ l) m (suc i) e h = at_first l m i e h

  -- What stands in two lists together stands in the first, or in the second behind it.
  pub at_either :
      {P : Type 0} (l m : List A) (i : ℕ) (e : A) → get_elem? (l ++ m) i ≡ some e
      → (get_elem? l i ≡ some e → P) → ((j : ℕ) → i ≡ length l + j → get_elem? m j ≡ some e → P) → P
  at_either [] m i e h f g = g i (omega arith) h
  at_either (x ∷ l) m zero e h f g = f h
  at_either (x ∷ l) m (suc i) e h f g = at_either l m i e h f (λ j q. g j (omega arith))

  -- Below the length of the first it stands in the first.
  pub at_before : (l m : List A) (i : ℕ) (e : A) → i < length l → get_elem? (l ++ m) i ≡ some e → get_elem? l i ≡ some e
  at_before l m i e lt h = at_either l m i e h (λ q. q) (λ j q r. absurd (omega arith))

  -- The second of two lists stands behind the first.
  pub at_second : (l m : List A) (i : ℕ) → get_elem? (l ++ m) (length l + i) ≡ get_elem? m i
  at_second [] m i = let e : 0 + i ≡ i = omega arith in ap (get_elem? m) e
  at_second (x ∷ l) m i = let e : suc (length l) + i ≡ suc (length l + i) = omega arith in ap (get_elem? (x ∷ (l ++ m))) e ∙ at_second l m i

  -- In the first part of a list.
  pub at_take : (n : ℕ) (l : List A) (i : ℕ) (e : A) → get_elem? (take n l) i ≡ some e → (i < n) × (get_elem? l i ≡ some e)
  at_take zero l i e h = clash (cc)
  at_take (suc n) [] i e h = clash (cc)
  at_take (suc n) (x ∷ l) zero e h = (omega arith, h)
  at_take (suc n) (x ∷ l) (suc i) e h = let r = at_take n l i e h in (omega (arith, r.0), r.1)

  -- What stands below n stands in the first n.
  pub in_take : (n : ℕ) (l : List A) (i : ℕ) (e : A) → i < n → get_elem? l i ≡ some e → get_elem? (take n l) i ≡ some e
  in_take zero l i e lt h = absurd (omega arith)
  in_take (suc n) [] i e lt h = clash (cc)
  in_take (suc n) (x ∷ l) zero e lt h = h
  in_take (suc n) (x ∷ l) (suc i) e lt h = in_take n l i e (omega arith) h

  -- In the rest of a list.
  pub at_drop : (n : ℕ) (l : List A) (i : ℕ) → get_elem? (drop n l) i ≡ get_elem? l (n + i)
  at_drop zero l i = let e : i ≡ 0 + i = omega arith in ap (get_elem? l) e
  at_drop (suc n) [] i = refl
  at_drop (suc n) (x ∷ l) i = let e : suc (n + i) ≡ suc n + i = omega arith in at_drop n l i ∙ ap (get_elem? (x ∷ l)) e

  -- In a list of images: of what stands there.
  pub at_map : {B : Type 0} (f : A → B) (l : List A) (i : ℕ) (y : B) → get_elem? (map f l) i ≡ some y → (x : A) × (get_elem? l i ≡ some x) × (y ≡ f x)
  at_map f [] i y h = clash (cc)
  at_map f (x ∷ l) zero y h = (x, refl, cc)
  at_map f (x ∷ l) (suc i) y h = at_map f l i y h

  -- The image of what stands there.
  pub in_map : {B : Type 0} (f : A → B) (l : List A) (i : ℕ) (x : A) → get_elem? l i ≡ some x → get_elem? (map f l) i ≡ some (f x)
  in_map f [] i x h = clash (cc)
  in_map f (y ∷ l) zero x h = let same : y ≡ x = cc in ap (λ (z : A). some (f z)) same
  in_map f (y ∷ l) (suc i) x h = in_map f l i x h
