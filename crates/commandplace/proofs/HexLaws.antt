-- The value of a hex digit, whether a number of the range fits with so many hex digits more, and what is sought of hex digits, from the bytes that
-- stand at a place: one law for each answer of the code, whose premises are what the code's tests and calls tell. Assumes nothing.
use Prim.Native.Nat.{ℕ, suc, ◌+◌, ◌-◌, ◌*◌, ◌/◌, ◌≤◌, ◌<◌}
use native.Mathlib.Omega.{arith}
use mathlib.Core.Bool.{Bool, true, false}
use mathlib.Core.List.{List}
use mathlib.Core.Path.{◌≡◌, sym, ◌∙◌}
use lib.ListN.{length, get_or, drop}
use borrow.Author.Tests.{lt-ltb, le-leb}
use lib.Dec.{leb}
use Rattle.kinds.specs.Sizes.{between}
use Rattle.kinds.proofs.BetweenLaws.{between_in, between_below, between_above, between_true}
use Rattle.text.proofs.FoundLaws.{drop_next, drop_past}
use Rattle.command.proofs.Tests.{by_test}
use Rattle.begins.specs.Commands.{digit_of}
use Rattle.begins.specs.Seek.{Sought, found, wrong}
use Rattle.begins.specs.Digits.{fits, seek_fixed}
use Rattle.begins.proofs.DigitsLaws.{fits_true, fits_most}
use Rattle.seek.specs.Spotted.{At}

-- ---- the value of a digit

module _ (c : ℕ) where
  -- 0 to 9.
  pub digit_small : 48 ≤ c → c ≤ 57 → digit_of c ≡ c - 48
  unfolding digit_of
  digit_small l h = rw (between_in 48 57 c l h)

  -- a to f.
  pub digit_great : 97 ≤ c → c ≤ 102 → digit_of c ≡ 10 + (c - 97)
  unfolding digit_of
  digit_great l h = rw (between_above 48 57 c (omega arith), between_in 97 102 c l h)

  -- Any other byte.
  pub digit_none : ((48 ≤ c) × (c ≤ 57) → ⊥) → ((97 ≤ c) × (c ≤ 102) → ⊥) → digit_of c ≡ 16
  unfolding digit_of
  digit_none n m =
      by_test (between 48 57 c)
      (λ e. absurd (n (between_true 48 57 c e)))
      (λ e. by_test (between 97 102 c) (λ f. absurd (m (between_true 97 102 c f))) (λ f. rw (e, f)))

-- ---- whether it fits

-- t is whether v fits l..h with `left` digits more.
module _ (t : Bool) (l h v left : ℕ) (so_far : t ≡ fits 16 left l h v) where
  -- With none more it lies in l..h.
  done : left ≡ 0 → t ≡ between l h v
  unfolding fits
  done z = rw z at so_far

  -- It is not below l.
  pub fits_upper : left ≡ 0 → l ≤ v → leb v h ≡ t
  unfolding between
  fits_upper z p = sym (done z ∙ rw (le-leb l v p, between))

  -- It is.
  pub fits_lower : left ≡ 0 → v < l → false ≡ t
  fits_lower z p = sym (done z ∙ between_below l h v p)

  -- One digit less divides both ends.
  pub fits_again : (after : ℕ) → 0 < left → after ≡ left - 1 → t ≡ fits 16 after (l / 16) (h / 16) v
  unfolding fits
  fits_again after z n = let one : left ≡ suc after = omega arith in rw one at so_far

-- What fits is at most the range's end.
pub fit_most : (k lo hi v : ℕ) (t : Bool) → t ≡ fits 16 k lo hi v → t ≡ true → v ≤ hi
fit_most k lo hi v t e n = fits_most 16 (omega arith) k lo hi v (fits_true 16 k lo hi v (sym e ∙ n))

-- ---- so many digits

-- What is sought is what is sought from i on, `left` digits behind those of v.
module _ (s : List ℕ) (g : Sought ℕ) (lo hi v i left : ℕ) (so_far : g ≡ seek_fixed digit_of 16 left lo hi v (drop i s)) where
  -- All of them stood.
  pub hex_done : left ≡ 0 → i ≤ length s → At s g (found v) i
  unfolding seek_fixed
  hex_done z h = record { inside = h; is = rw z at so_far }

  module _ (z : 0 < left) where
    here : g ≡ seek_fixed digit_of 16 (suc (left - 1)) lo hi v (drop i s)
    here = let one : left ≡ suc (left - 1) = omega arith in rw one at so_far

    -- The text ends.
    pub hex_out : i ≤ length s → length s ≤ i → At s g wrong i
    unfolding seek_fixed
    hex_out h p = record { inside = h; is = here ∙ rw (drop_past s i p) }

    module _ (p : i < length s) where
      -- No digit.
      pub hex_none : digit_of (get_or s i 0) ≡ 16 → At s g wrong i
      unfolding seek_fixed
      hex_none e = record { inside = omega arith; is = here ∙ rw (drop_next s i p, e, seek_fixed) }

      module _ (d : ℕ) (l : d < 16) (e : digit_of (get_or s i 0) ≡ d) (t : Bool) (rest : ℕ) (f : t ≡ fits 16 rest lo hi (v * 16 + d)) (r : rest ≡ left - 1) where
        known : fits 16 (left - 1) lo hi (v * 16 + d) ≡ t
        known = rw r at (sym f)

        -- A digit, but no number of the range is so.
        pub hex_wrong : t ≡ false → At s g wrong i
        unfolding seek_fixed
        hex_wrong n = record { inside = omega arith; is = here ∙ rw (drop_next s i p, e, lt-ltb d 16 l, known ∙ n, seek_fixed) }

        -- A digit more.
        pub hex_again : (after j : ℕ) → after ≡ left - 1 → j ≡ i + 1 → t ≡ true → g ≡ seek_fixed digit_of 16 after lo hi (v * 16 + d) (drop j s)
        unfolding seek_fixed
        hex_again after j a b n = rw (a, b) (here ∙ rw (drop_next s i p, e, lt-ltb d 16 l, known ∙ n, seek_fixed, e))
