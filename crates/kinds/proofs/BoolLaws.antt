-- Laws of tests: joined, one of two, and what hangs on one. Assumes nothing.
use mathlib.Core.Path.{◌≡◌, refl, sym, subst}
use Prim.Native.Nat.{ℕ, zero, suc}
use native.Mathlib.Omega.{arith}
use mathlib.Core.Bool.{Bool, true, false, cond, not, beq, ◌&&◌, ◌||◌}
use mathlib.Core.List.{List, [], ◌∷◌}
use mathlib.Core.Option.{none, some}
use borrow.Author.Tests.{leb-true, ltb-false, le-leb, le-ltb, not-true}
use lib.Dec.{leb, ltb}
use lib.ListN.{get_or}

-- ---- tests that hold together

-- The first of two tests that both hold.
pub and_first : (a b : Bool) → (a && b) ≡ true → a ≡ true
and_first true b h = refl
and_first false b h = h

-- The second of two tests that both hold.
pub and_second : (a b : Bool) → (a && b) ≡ true → b ≡ true
and_second true b h = h
and_second false b h = cc

-- Two tests that hold, joined.
pub and_both : {a b : Bool} → a ≡ true → b ≡ true → (a && b) ≡ true
and_both p q = rw (p, q)

-- A test that fails, joined with another.
pub and_fails : {a : Bool} (b : Bool) → a ≡ false → (a && b) ≡ false
and_fails b p = rw p

-- A test that holds, joined with another.
pub and_holds : {a : Bool} (b : Bool) → a ≡ true → (a && b) ≡ b
and_holds b p = rw p

-- Joined with a test that holds.
pub and_alone : (a : Bool) → (a && true) ≡ a
and_alone true = refl
and_alone false = refl

-- Tests joined to the right, as a definition joins them.
abbrev pub joined : List Bool → Bool
joined [] = true
joined (t ∷ []) = t
joined (t ∷ u ∷ ts) = t && joined (u ∷ ts)

-- Each of joined tests that hold.
pub each_holds : (ts : List Bool) → joined ts ≡ true → (i : ℕ) → get_or ts i true ≡ true
each_holds [] h i = refl
each_holds (t ∷ []) h zero = h
each_holds (t ∷ []) h (suc i) = refl
each_holds (t ∷ u ∷ ts) h zero = and_first t (joined (u ∷ ts)) h
each_holds (t ∷ u ∷ ts) h (suc i) = each_holds (u ∷ ts) (and_second t (joined (u ∷ ts)) h) i

-- ---- one of two tests

-- What follows from each of two tests follows where one of them holds.
pub or_either : {P : Type 0} (a b : Bool) → (a || b) ≡ true → (a ≡ true → P) → (b ≡ true → P) → P
or_either true b h f g = f refl
or_either false b h f g = g h

-- One of two tests holds where the second follows from the first's failing.
pub or_one : (a b : Bool) → (a ≡ false → b ≡ true) → (a || b) ≡ true
or_one true b f = refl
or_one false b f = f refl

-- Neither of two tests holds: the first fails.
pub or_first : (a b : Bool) → (a || b) ≡ false → a ≡ false
or_first true b h = h
or_first false b h = refl

-- Neither of two tests holds: the second fails.
pub or_second : (a b : Bool) → (a || b) ≡ false → b ≡ false
or_second true b h = cc
or_second false b h = h

-- What follows from the failing of each of two tests follows where they do not both hold.
pub and_either : {P : Type 0} (a b : Bool) → (a && b) ≡ false → (a ≡ false → P) → (b ≡ false → P) → P
and_either true b h f g = g h
and_either false b h f g = f refl

-- A test does not both hold and fail.
pub not_both : (a : Bool) → a ≡ true → a ≡ false → ⊥
not_both a p q = let z : ◌≡◌ {A = ℕ} 0 1 = cc in omega arith

-- ---- two tests that agree

-- Tests found equal are equal.
pub beq_true : (a b : Bool) → beq a b ≡ true → a ≡ b
beq_true true true h = refl
beq_true true false h = sym h
beq_true false true h = h
beq_true false false h = refl

-- Tests that hold together are found equal.
pub beq_both : (a b : Bool) → (a ≡ true → b ≡ true) → (b ≡ true → a ≡ true) → beq a b ≡ true
beq_both true b f g = rw (f refl)
beq_both false true f g = g refl
beq_both false false f g = refl

-- Two tests that hold together are one.
pub same_test : (a b : Bool) → (a ≡ true → b ≡ true) → (b ≡ true → a ≡ true) → a ≡ b
same_test true b f g = sym (f refl)
same_test false true f g = g refl
same_test false false f g = refl

-- Not below another is at least as great.
pub not_below : (a b : ℕ) → not (ltb a b) ≡ leb b a
not_below a b = same_test (not (ltb a b)) (leb b a) (λ h. le-leb b a (ltb-false a b (not-true (ltb a b) h))) (λ h. rw (le-ltb a b (leb-true b a h)))

-- ---- what hangs on a test

-- What holds of both branches holds of the one that the test takes.
pub cond_either : {A : Type 0} (P : A → Type 0) (t : Bool) {x y : A} → (t ≡ true → P x) → (t ≡ false → P y) → P (cond t x y)
cond_either P true f g = f refl
cond_either P false f g = g refl

-- There is none where something is.
pub none_some : {A P : Type 0} {x : A} → none ≡ some x → P
none_some e = absurd (let z : ◌≡◌ {A = ℕ} 0 1 = cc in omega arith)

-- What is there behind a test has what follows from the test.
pub cond_some : {A : Type 0} (P : A → Type 0) (t : Bool) (x y : A) → (t ≡ true → P x) → cond t (some x) none ≡ some y → P y
cond_some P true x y f e =
    let same : x ≡ y = cc in
    subst P same (f refl)
cond_some P false x y f e = none_some e
