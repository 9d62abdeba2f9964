-- What is found of a number that has to lie in a range. Assumes nothing.
use Prim.Native.Nat.{ℕ, ◌+◌, ◌-◌, ◌*◌, ◌≤◌, ◌<◌}
use mathlib.Core.Bool.{Bool, true, false}
use mathlib.Core.List.{List, [], ◌∷◌}
use mathlib.Core.Path.{◌≡◌, refl, sym, ◌∙◌}
use native.Mathlib.Omega.{arith}
use lib.Dec.{ltb}
use borrow.Author.Tests.{ltb-true, ltb-false}
use Rattle.kinds.specs.Sizes.{between}
use Rattle.text.specs.Decimal.{is_digit, more_digits, number}
use Rattle.text.specs.Line.{line}
use Rattle.text.specs.Range.{within, number_in, line_in}
use Rattle.text.specs.Reader.{Got, got, lost, onward, literal}
use Rattle.kinds.proofs.BetweenLaws.{between_in, between_below, between_above, between_true}
use Rattle.text.proofs.DecimalLaws.{more_end, more_digit, more_other}
use Rattle.text.proofs.ReaderLaws.{lost_never, onward_got, onward_lost, onward_never, onward-assoc}

-- ---- a value

module _ (lo hi x : ℕ) (s : List ℕ) where
  -- A value of the range.
  pub within_in : lo ≤ x → x ≤ hi → within lo hi x s ≡ got x s
  unfolding within
  within_in p q = simp (between_in lo hi x p q, within)

  -- A value below it.
  pub within_below : x < lo → within lo hi x s ≡ lost
  unfolding within
  within_below p = simp (between_below lo hi x p, within)

  -- A value above it.
  pub within_above : hi < x → within lo hi x s ≡ lost
  unfolding within
  within_above p = simp (between_above lo hi x p, within)

  -- What is found is the value, which lies in the range.
  pub within_sound : {y : ℕ} {rest : List ℕ} → within lo hi x s ≡ got y rest → (got x s ≡ got y rest) × (lo ≤ x) × (x ≤ hi)
  unfolding within
  within_sound {y} {rest} e = go (between lo hi x) refl
    where
      go : (t : Bool) → between lo hi x ≡ t → (got x s ≡ got y rest) × (lo ≤ x) × (x ≤ hi)
      go true b = let w : (lo ≤ x) × (x ≤ hi) = between_true lo hi x b in (sym (within_in w.0 w.1) ∙ e, w.0, w.1)
      go false b = absurd (lost_never (sym (simp (b, within)) ∙ e))

-- Where nothing is found, the value lies outside: a smaller range lacks it too.
pub within_less : (lo hi x : ℕ) (s q : List ℕ) → within 0 hi x s ≡ lost → within lo hi x q ≡ lost
within_less lo hi x s q e = go (ltb hi x) refl
  where
    go : (t : Bool) → ltb hi x ≡ t → within lo hi x q ≡ lost
    go true b = within_above lo hi x q (ltb-true hi x b)
    go false b = absurd (lost_never (sym e ∙ within_in 0 hi x s (omega arith) (ltb-false hi x b)))

-- More digits make a number no smaller: what is above the range stays above it.
pub more_above : (hi v : ℕ) (s : List ℕ) → hi < v → onward (more_digits v s) (within 0 hi) ≡ lost
more_above hi v [] h = onward_got (within 0 hi) (more_end v) ∙ within_above 0 hi v [] h
more_above hi v (b ∷ bs) h = go (is_digit b) refl (more_above hi (v * 10 + (b - 48)) bs (omega arith))
  where
    go : (t : Bool) → is_digit b ≡ t → onward (more_digits (v * 10 + (b - 48)) bs) (within 0 hi) ≡ lost → onward (more_digits v (b ∷ bs)) (within 0 hi) ≡ lost
    go true d ih = rw (more_digit b bs v d) ih
    go false d ih = onward_got (within 0 hi) (more_other b bs v d) ∙ within_above 0 hi v (b ∷ bs) h

-- ---- a number and the byte that ends it

module _ (lo hi end : ℕ) (s : List ℕ) where
  -- No number, or one above the range.
  pub number_in_lost : onward (number s) (within 0 hi) ≡ lost → number_in lo hi end s ≡ lost
  unfolding number_in
  number_in_lost e = go (number s) refl
    where
      go : (g : Got ℕ) → number s ≡ g → onward (number s) (λ x t. onward (literal (end ∷ []) t) (λ a. within lo hi x)) ≡ lost
      go (got x r) f =
          onward_got _ f
          ∙ onward_never (literal (end ∷ []) r) (λ a. within lo hi x)
          (λ a q. within_less lo hi x r q (sym (onward_got (within 0 hi) f) ∙ e))
      go lost f = onward_lost _ f

  module _ (x : ℕ) (r : List ℕ) (f : number s ≡ got x r) where
    -- The number is below the range.
    pub number_in_below : x < lo → number_in lo hi end s ≡ lost
    unfolding number_in
    number_in_below h =
        onward_got _ f ∙ onward_never (literal (end ∷ []) r) (λ a. within lo hi x) (λ a q. within_below lo hi x q h)

    -- Another byte ends the number.
    pub number_in_other : literal (end ∷ []) r ≡ lost → number_in lo hi end s ≡ lost
    unfolding number_in
    number_in_other e = onward_got _ f ∙ onward_lost _ e

    -- The right one does.
    pub number_in_ended : {q : List ℕ} → literal (end ∷ []) r ≡ got tt q → number_in lo hi end s ≡ within lo hi x q
    unfolding number_in
    number_in_ended e = onward_got _ f ∙ onward_got _ e

-- ---- a line

module _ (key : List ℕ) (lo hi : ℕ) (s : List ℕ) where
  -- A line of a range is a line whose number lies there.
  pub line_in_is : line_in key lo hi s ≡ onward (line key s) (within lo hi)
  unfolding line_in line number_in onward
  line_in_is = sym (simp onward-assoc)
