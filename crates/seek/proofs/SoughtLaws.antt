-- What an answer says once its case is known, and what two seekers find one behind the other, from what the first one found. Assumes nothing.
use Rattle.std.specs.Prelude.{Result, Ok, Err, MatchResult}
use Rattle.std.specs.Result.{IsErrAnd}
use Prim.Native.Nat.{ℕ}
use native.Mathlib.Omega.{arith}
use mathlib.Core.List.{List}
use mathlib.Core.Path.{◌≡◌, refl, sym, ◌∙◌, ap, subst}
use lib.ListN.{length, drop, length-drop}
use Rattle.text.specs.Found.{Found}
use Rattle.text.specs.Reader.{Got}
use Rattle.text.specs.declared.Number.{Number}
use Rattle.begins.specs.Seek.{Sought, found, wrong, Seeker, on, rest_of}
use Rattle.seek.specs.Spotted.{At, SpottedText, SpottedNumber, Ends, Missed, ReadNumber, ReadText}
use Rattle.seek.specs.declared.Wrong.{Wrong}

-- ---- once the case is known

-- A text.
module _ (s : List ℕ) (g : Sought (Unit {0})) (x : Result ℕ Wrong) (h : SpottedText s g x) where
  -- It was found.
  pub text_is : {n : ℕ} → x ≡ Ok n → At s g (found tt) n
  text_is e = subst (λ (y : Result ℕ Wrong). SpottedText s g y) e h

  -- It is wrong.
  pub text_wrong : {w : Wrong} → x ≡ Err w → At s g wrong w.place
  text_wrong e = subst (λ (y : Result ℕ Wrong). SpottedText s g y) e h

-- A number.
module _ (s : List ℕ) (g : Sought ℕ) (x : Result Number Wrong) (h : SpottedNumber s g x) where
  -- It was found.
  pub number_is : {v : Number} → x ≡ Ok v → At s g (found v.value) v.next
  number_is e = subst (λ (y : Result Number Wrong). SpottedNumber s g y) e h

  -- It is wrong.
  pub number_wrong : {w : Wrong} → x ≡ Err w → At s g wrong w.place
  number_wrong e = subst (λ (y : Result Number Wrong). SpottedNumber s g y) e h

-- ---- an error, as `?` passes it on

pub text_err : (s : List ℕ) (g : Sought (Unit {0})) (w : Wrong) (x : Result ℕ Wrong) → IsErrAnd x (λ e. e ≡ w) → At s g wrong w.place → SpottedText s g x
text_err s g w (Ok n) h a = absurd h
text_err s g w (Err e) h a = rw h a

pub number_err : (s : List ℕ) (g : Sought ℕ) (w : Wrong) (x : Result Number Wrong) → IsErrAnd x (λ e. e ≡ w) → At s g wrong w.place → SpottedNumber s g x
number_err s g w (Ok v) h a = absurd h
number_err s g w (Err e) h a = rw h a

-- ---- one behind the other

module _ {A B : Type 0} (f : A → Seeker B) {s : List ℕ} {g : Sought A} {n : ℕ} where
  -- The first is wrong.
  pub wrong_first : At s g wrong n → At s (on g f) wrong n
  unfolding on
  wrong_first w = record { inside = w.inside; is = ap (λ (o : Sought A). on o f) w.is }

  -- The first was found.
  pub found_first : {a : A} → At s g (found a) n → on g f ≡ f a (drop n s)
  unfolding on
  found_first w = ap (λ (o : Sought A). on o f) w.is

-- ---- the place where something ends

module _ {A : Type 0} {s : List ℕ} {g : Sought A} {n : ℕ} where
  -- Behind what was found.
  pub ends_found : {a : A} → At s g (found a) n → Ends s g n
  unfolding rest_of
  ends_found w = record { inside = w.inside; is = ap rest_of w.is }

  -- At what is wrong.
  pub ends_wrong : At s g wrong n → Ends s g n
  unfolding rest_of
  ends_wrong w = record { inside = w.inside; is = ap rest_of w.is }

  -- Two that leave the same end at the same place.
  pub ends_same : {B : Type 0} {h : Sought B} → rest_of h ≡ rest_of g → Ends s g n → Ends s h n
  ends_same e w = record { inside = w.inside; is = e ∙ w.is }

-- There is one such place.
pub ends_one : {A : Type 0} {s : List ℕ} {g : Sought A} {n m : ℕ} → Ends s g n → Ends s g m → n ≡ m
ends_one {s = s} {n = n} {m = m} v w =
    let same = sym v.is ∙ w.is in omega (arith, ap length same, length-drop n s, length-drop m s, v.inside, w.inside)

-- Either place of an answer.
pub text_ends
    : (s : List ℕ) (g : Sought (Unit {0})) (x : Result ℕ Wrong) (n : ℕ)
    → SpottedText s g x
    → MatchResult x (λ m. n ≡ m) (λ w. n ≡ w.place)
    → Ends s g n
text_ends s g (Ok m) n h e = rw e (ends_found h)
text_ends s g (Err w) n h e = rw e (ends_wrong h)

pub number_ends
    : (s : List ℕ) (g : Sought ℕ) (x : Result Number Wrong) (n : ℕ)
    → SpottedNumber s g x
    → MatchResult x (λ v. n ≡ v.next) (λ w. n ≡ w.place)
    → Ends s g n
number_ends s g (Ok v) n h e = rw e (ends_found h)
number_ends s g (Err w) n h e = rw e (ends_wrong h)

-- What is only told ends where it was found.
pub rest_told : {A B : Type 0} (f : A → B) (g : Sought A) → rest_of (on g (λ a. found (f a))) ≡ rest_of g
unfolding on rest_of
rest_told f (found a r) = refl
rest_told f (wrong r) = refl

-- So does what is only told of two, one behind the other.
pub rest_told_two : {A B C : Type 0} (f : A → B → C) (h : A → Seeker B) (g : Sought A) → rest_of (on g (λ a r. on (h a r) (λ b. found (f a b)))) ≡ rest_of (on g h)
unfolding on rest_of
rest_told_two f h (found a r) = rest_told (f a) (h a r)
rest_told_two f h (wrong r) = refl

-- ---- what a reader reads

-- A text.
module _ {A : Type 0} (s : List ℕ) (g : Got (Unit {0})) (o : Sought A) (x : Result ℕ Wrong) (h : ReadText s g o x) where
  -- It was read.
  pub text_read : {n : ℕ} → x ≡ Ok n → Found s g tt n
  text_read e = subst (λ (y : Result ℕ Wrong). ReadText s g o y) e h

  -- It was not.
  pub text_missed : {w : Wrong} → x ≡ Err w → Missed s g o w.place
  text_missed e = subst (λ (y : Result ℕ Wrong). ReadText s g o y) e h

-- A number.
module _ {A : Type 0} (s : List ℕ) (g : Got ℕ) (o : Sought A) (x : Result Number Wrong) (h : ReadNumber s g o x) where
  -- It was read.
  pub read_is : {v : Number} → x ≡ Ok v → Found s g v.value v.next
  read_is e = subst (λ (y : Result Number Wrong). ReadNumber s g o y) e h

  -- It was not.
  pub read_wrong : {w : Wrong} → x ≡ Err w → Missed s g o w.place
  read_wrong e = subst (λ (y : Result Number Wrong). ReadNumber s g o y) e h
