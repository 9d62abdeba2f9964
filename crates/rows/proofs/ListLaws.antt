-- Laws of lists, over the library's: writes past a first part and in its place, bytes of members. Assumes nothing.
use Prim.Native.Nat.{ℕ, suc, ◌+◌, ◌*◌, ◌≤◌, ◌<◌}
use native.Mathlib.Omega.{arith}
use native.Mathlib.Numerals.{add-one}
use native.Mathlib.Nat.{add_assoc}
use mathlib.Core.Path.{◌≡◌, refl, sym, ◌∙◌, ap}
use mathlib.Core.List.{List, [], ◌∷◌, ◌++◌, append_assoc, append-nil, map}
use lib.ListN.{length, take, drop, get_or, set, length-append, drop_of_length-le}
use lib.Seq.{sets, sets-eq, take-add, take-suc, length-take-le, take-append-add, drop-append-add, drop_at}
use Rattle.rows.specs.Rows.{bytes_of}

-- ---- writes

-- A write past a first part.
pub sets_skip : (xs ys zs : List ℕ) (i j : ℕ) → length xs + i ≡ j → i + length zs ≤ length ys → sets (xs ++ ys) j zs ≡ xs ++ sets ys i zs
sets_skip xs ys zs i j e h =
    let n = length-append xs ys in
    rw (sets-eq zs (xs ++ ys) j (omega (arith, n)), sets-eq zs ys i h, ← e, take-append-add, add_assoc, drop-append-add)
    (simp append_assoc)

-- A write in the place of a first part of its own length.
pub sets_front : (xs ys zs : List ℕ) → length xs ≡ length zs → sets (xs ++ ys) 0 zs ≡ zs ++ ys
sets_front xs ys zs e =
    let n = length-append xs ys in
    sets-eq zs (xs ++ ys) 0 (omega (arith, n)) ∙ ap (λ (r : List ℕ). zs ++ r) (drop_at xs ys (0 + length zs) (omega arith))

-- A write to the end leaves two parts before it.
pub sets_last : (l v : List ℕ) (a b : ℕ) → a + b + length v ≡ length l → sets l (a + b) v ≡ take a l ++ (take b (drop a l) ++ v)
sets_last l v a b e =
    let none = drop_of_length-le l {i = a + b + length v} (omega arith) in
    rw (sets-eq v l (a + b) (omega arith), none, take-add a b l) (simp (append_assoc, append-nil))

-- One write after another, just behind it, is one write.
pub sets_then : (l : List ℕ) (i j : ℕ) (xs ys : List ℕ) → i + length xs ≡ j → sets (sets l i xs) j ys ≡ sets l i (xs ++ ys)
sets_then l i j [] ys h =
    let e : j ≡ i = omega arith in
    ap (λ (k : ℕ). sets l k ys) e
sets_then l i j (x ∷ xs) ys h = sets_then (set l i x) (suc i) j xs ys (omega arith)

-- ---- members and their bytes

module _ {A : Type 0} (f : A → List ℕ) where
  -- The bytes of two lists, one after the other.
  pub bytes_of_append : (xs ys : List A) → bytes_of f (xs ++ ys) ≡ bytes_of f xs ++ bytes_of f ys
  unfolding bytes_of
  bytes_of_append [] ys = refl
  bytes_of_append (x ∷ xs) ys = rw (bytes_of_append xs ys) (sym (append_assoc (f x) (bytes_of f xs) (bytes_of f ys)))

  -- Members of one width.
  pub bytes_of_length : (k : ℕ) → ((x : A) → length (f x) ≡ k) → (xs : List A) → length (bytes_of f xs) ≡ length xs * k
  unfolding bytes_of
  bytes_of_length k w [] = omega arith
  bytes_of_length k w (x ∷ xs) =
      let n = length-append (f x) (bytes_of f xs) in
      omega (arith, w x, bytes_of_length k w xs)

  -- The bytes of members that are made of others.
  pub bytes_of_map : {B : Type 0} (g : B → A) (xs : List B) → bytes_of f (map g xs) ≡ bytes_of (λ x. f (g x)) xs
  unfolding bytes_of
  bytes_of_map g [] = refl
  bytes_of_map g (x ∷ xs) = rw (bytes_of_map g xs)

  -- One member more is written behind those before it.
  pub bytes_of_put : (k : ℕ) → ((x : A) → length (f x) ≡ k) → (l : List ℕ) (at : ℕ) (xs : List A) (i : ℕ) (d : A) →
      i < length xs →
      sets (sets l at (bytes_of f (take i xs))) (at + i * k) (f (get_or xs i d)) ≡ sets l at (bytes_of f (take (i + 1) xs))
  unfolding bytes_of
  bytes_of_put k w l at xs i d h =
      let n = bytes_of_length k w (take i xs) in
      let t = length-take-le i xs (omega arith) in
      let e : at + length (bytes_of f (take i xs)) ≡ at + i * k = ap (λ (m : ℕ). at + m) (n ∙ ap (λ (m : ℕ). m * k) t) in
      rw (add-one, take-suc xs i d h, bytes_of_append (take i xs) (get_or xs i d ∷ []), append-nil)
      (sets_then l at (at + i * k) (bytes_of f (take i xs)) (f (get_or xs i d)) e)
