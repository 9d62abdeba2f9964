-- Laws of `all` and `count`, for lists over the seven hubs and others. Assumes nothing.
use Prim.Native.Nat.{ℕ, zero, suc, ◌+◌, ◌≤◌, ◌<◌}
use native.Mathlib.Omega.{arith}
use mathlib.Core.Path.{◌≡◌, refl, ◌∙◌, ap}
use mathlib.Core.Bool.{Bool, true, false}
use mathlib.Core.List.{List, [], ◌∷◌, map, map-id}
use lib.ListN.{length, take, drop, get_or, set, replicate}
use Rattle.state.specs.Legal.{all, count}
use Rattle.kinds.proofs.BoolLaws.{and_first, and_second, and_both, not_both}

-- ---- all

module _ {A : Type 0} (P : A → Bool) where
  -- All members have what each of them has.
  pub all_map :
      {B : Type 0} (Q : B → Bool) (f : A → B) → ((x : A) → P x ≡ true → Q (f x) ≡ true)
      → (l : List A) → all P l ≡ true → all Q (map f l) ≡ true
  unfolding all
  all_map Q f i [] h = refl
  all_map Q f i (x ∷ l) h = and_both (i x (and_first (P x) (all P l) h)) (all_map Q f i l (and_second (P x) (all P l) h))

  -- All members have what follows for each.
  pub all_weaker : (Q : A → Bool) → ((x : A) → P x ≡ true → Q x ≡ true) → (l : List A) → all P l ≡ true → all Q l ≡ true
  all_weaker Q i l h = rw map-id at (all_map Q (λ x. x) i l h)

  -- One member is replaced by another that has the property.
  pub all_set : (l : List A) (i : ℕ) (x : A) → all P l ≡ true → P x ≡ true → all P (set l i x) ≡ true
  unfolding all
  all_set [] i x h p = refl
  all_set (y ∷ l) zero x h p = and_both p (and_second (P y) (all P l) h)
  all_set (y ∷ l) (suc i) x h p = and_both (and_first (P y) (all P l) h) (all_set l i x (and_second (P y) (all P l) h) p)

  -- All of a first part.
  pub all_take : (n : ℕ) (l : List A) → all P l ≡ true → all P (take n l) ≡ true
  unfolding all
  all_take zero l h = refl
  all_take (suc n) [] h = refl
  all_take (suc n) (x ∷ l) h = and_both (and_first (P x) (all P l) h) (all_take n l (and_second (P x) (all P l) h))

  -- All of the rest.
  pub all_drop : (n : ℕ) (l : List A) → all P l ≡ true → all P (drop n l) ≡ true
  unfolding all
  all_drop zero l h = h
  all_drop (suc n) [] h = refl
  all_drop (suc n) (x ∷ l) h = all_drop n l (and_second (P x) (all P l) h)

  -- All of a list of one thing.
  pub all_replicate : (n : ℕ) (x : A) → P x ≡ true → all P (replicate n x) ≡ true
  unfolding all
  all_replicate zero x p = refl
  all_replicate (suc n) x p = and_both p (all_replicate n x p)

-- ---- count

-- One more, or none, by a test.
abbrev pub tally : Bool → ℕ → ℕ
tally b n = elim b [ true ↦ 1 + n | false ↦ n ]

-- A member that is counted or not.
pub count_cons : {A : Type 0} (P : A → Bool) (x : A) (l : List A) (b : Bool) → P x ≡ b → count P (x ∷ l) ≡ tally b (count P l)
unfolding count
count_cons P x l b e = ap (λ (t : Bool). tally t (count P l)) e

-- A weaker test counts no fewer.
pub count_weaker : {A : Type 0} (P Q : A → Bool) → ((x : A) → P x ≡ true → Q x ≡ true) → (l : List A) → count P l ≤ count Q l
unfolding count
count_weaker {A} P Q i [] = omega arith
count_weaker {A} P Q i (x ∷ l) = go (P x) refl (Q x) refl (count_weaker P Q i l)
  where
    go : (a : Bool) → P x ≡ a → (b : Bool) → Q x ≡ b → count P l ≤ count Q l → count P (x ∷ l) ≤ count Q (x ∷ l)
    go true e true f r = omega (arith, count_cons P x l true e, count_cons Q x l true f)
    go true e false f r = absurd (not_both (Q x) (i x e) f)
    go false e true f r = omega (arith, count_cons P x l false e, count_cons Q x l true f)
    go false e false f r = omega (arith, count_cons P x l false e, count_cons Q x l false f)

-- Where something is counted and all have a property, something counted has it.
pub count_some :
    {A : Type 0} (P Q : A → Bool) (l : List A) → 1 ≤ count P l → all Q l ≡ true → (x : A) × (P x ≡ true) × (Q x ≡ true)
unfolding count all
count_some {A} P Q [] h a = absurd (omega arith)
count_some {A} P Q (x ∷ l) h a =
    let first = and_first (Q x) (all Q l) a in
    let rest = and_second (Q x) (all Q l) a in
    go (P x) refl first (λ k. count_some P Q l k rest)
  where
    go : (b : Bool) → P x ≡ b → Q x ≡ true → (1 ≤ count P l → (y : A) × (P y ≡ true) × (Q y ≡ true)) → (y : A) × (P y ≡ true) × (Q y ≡ true)
    go true e q f = (x, e, q)
    go false e q f = f (omega (arith, count_cons P x l false e))

-- One that was not counted is replaced by one that is.
pub count_more :
    {A : Type 0} (P : A → Bool) (l : List A) (i : ℕ) (x none-there : A) → i < length l → P (get_or l i none-there) ≡ false → P x ≡ true
    → count P (set l i x) ≡ suc (count P l)
count_more P [] i x d h old new = absurd (omega arith)
count_more P (y ∷ l) zero x d h old new = omega (arith, count_cons P x l true new, count_cons P y l false old)
count_more P (y ∷ l) (suc i) x d h old new = by (P y) refl (count_more P l i x d (omega arith) old new)
  where
    by : (b : Bool) → P y ≡ b → count P (set l i x) ≡ suc (count P l) → count P (y ∷ set l i x) ≡ suc (count P (y ∷ l))
    by true e h = omega (arith, count_cons P y (set l i x) true e, count_cons P y l true e)
    by false e h = omega (arith, count_cons P y (set l i x) false e, count_cons P y l false e)

-- One more of seven is counted.
pub count_set : (l : List Bool) (i : ℕ) → i < length l → get_or l i false ≡ false → count (λ v. v) (set l i true) ≡ suc (count (λ v. v) l)
count_set l i h e = count_more (λ v. v) l i true false h e refl

-- A first part counts no more.
pub count_take : {A : Type 0} (P : A → Bool) (n : ℕ) (l : List A) → count P (take n l) ≤ count P l
unfolding count
count_take P zero l = omega arith
count_take P (suc n) [] = omega arith
count_take P (suc n) (x ∷ l) = by (P x) refl (count_take P n l)
  where
    by : (b : Bool) → P x ≡ b → count P (take n l) ≤ count P l → count P (x ∷ take n l) ≤ count P (x ∷ l)
    by true e h = omega (arith, count_cons P x (take n l) true e, count_cons P x l true e)
    by false e h = omega (arith, count_cons P x (take n l) false e, count_cons P x l false e)

-- Of one thing that is not counted, however often, none is.
pub count_replicate : {A : Type 0} (P : A → Bool) (n : ℕ) (x : A) → P x ≡ false → count P (replicate n x) ≡ 0
unfolding count
count_replicate P zero x e = refl
count_replicate P (suc n) x e = count_cons P x (replicate n x) false e ∙ count_replicate P n x e

-- Of none, none is counted.
pub count_none : (n : ℕ) → count (λ v. v) (replicate n false) ≡ 0
count_none n = count_replicate (λ v. v) n false refl

-- A hub that is among them stays so when another joins.
pub get_d_set_true : (l : List Bool) (i j : ℕ) → get_or l j false ≡ true → get_or (set l i true) j false ≡ true
get_d_set_true [] i j h = h
get_d_set_true (v ∷ l) zero zero h = refl
get_d_set_true (v ∷ l) zero (suc j) h = h
get_d_set_true (v ∷ l) (suc i) zero h = h
get_d_set_true (v ∷ l) (suc i) (suc j) h = get_d_set_true l i j h
