-- So many digits of any base, of a number of a range, are sought exactly: a digit is found wrong only where no number of the range goes on so. Assumes nothing.
use Prim.Native.Nat.{ℕ, zero, suc, ◌+◌, ◌*◌, ◌≤◌, ◌<◌}
use mathlib.Core.Path.{◌≡◌, refl, sym, ◌∙◌, ap}
use mathlib.Core.Bool.{false, true≢false, ◌&&◌}
use mathlib.Core.List.{List, [], ◌∷◌, ◌++◌}
use lib.Dec.{ltb}
use borrow.Author.Tests.{lt-ltb, ltb-true}
use Rattle.text.specs.Reader.{Got, got, lost, Reader}
use Rattle.text.proofs.ReaderLaws.{lost_never}
use Rattle.text.proofs.RangeLaws.{within_in, within_sound}
use Rattle.command.proofs.Tests.{by_test, both}
use Rattle.begins.specs.Digits.{fits, fixed_in, seek_fixed}
use Rattle.begins.proofs.Exact.{Opens, Exact, exact_end, exact_wrong, exact_byte}
use Rattle.begins.proofs.DigitsLaws.{Fits, fits_true, fits_is, fits_down, fits_up}

-- The digits of base b: `byte` tells the one byte of each, `digit` the value of a byte, the base or more for a byte that is none.
pub record Digits (b : ℕ) (digit byte : ℕ → ℕ) : Type 0 where
  pub base : 0 < b
  pub is : (d : ℕ) → d < b → digit (byte d) ≡ d
  pub one : (c : ℕ) → digit c < b → c ≡ byte (digit c)

-- ---- what is read, digit by digit

module _ (b : ℕ) (digit : ℕ → ℕ) (lo hi k v c : ℕ) (s : List ℕ) where
  -- A digit is read, and the number goes on.
  pub fixed_digit : digit c < b → fixed_in digit b (suc k) lo hi v (c ∷ s) ≡ fixed_in digit b k lo hi (v * b + digit c) s
  unfolding fixed_in
  fixed_digit h = rw (lt-ltb (digit c) b h, fixed_in)

  -- Where no digit stands nothing is read.
  pub fixed_none : ltb (digit c) b ≡ false → fixed_in digit b (suc k) lo hi v (c ∷ s) ≡ lost
  unfolding fixed_in
  fixed_none e = rw (e, fixed_in)

module _ (b : ℕ) (digit byte : ℕ → ℕ) (D : Digits b digit byte) where
  -- The byte of a digit is read as that digit.
  pub fixed_byte : (lo hi k v d : ℕ) (s : List ℕ) → d < b → fixed_in digit b (suc k) lo hi v (byte d ∷ s) ≡ fixed_in digit b k lo hi (v * b + d) s
  fixed_byte lo hi k v d s h =
      let e : digit (byte d) ≡ d = D.is d h in
      fixed_digit b digit lo hi k v (byte d) s (rw e h) ∙ ap (λ (x : ℕ). fixed_in digit b k lo hi (v * b + x) s) e

module _ (b : ℕ) (digit : ℕ → ℕ) (B : 0 < b) (lo hi : ℕ) where
  -- What is read begins so.
  pub fixed_fits : (k v : ℕ) (s : List ℕ) {x : ℕ} {rest : List ℕ} → fixed_in digit b k lo hi v s ≡ got x rest → Fits b k lo hi v
  unfolding fixed_in
  fixed_fits zero v s e = let w = within_sound lo hi v s e in (w.1, w.2)
  fixed_fits (suc k) v [] e = absurd (lost_never e)
  fixed_fits (suc k) v (c ∷ cs) e =
      by_test (ltb (digit c) b)
      (λ t.
      let d : digit c < b = ltb-true (digit c) b t in
      fits_up b B k lo hi v (digit c) d (fixed_fits k (v * b + digit c) cs (sym (fixed_digit b digit lo hi k v c cs d) ∙ e)))
      (λ t. absurd (lost_never (sym (fixed_none b digit lo hi k v c cs t) ∙ e)))

  -- What does not fit is never read.
  fixed_never : (k v : ℕ) (s : List ℕ) → fits b k lo hi v ≡ false → fixed_in digit b k lo hi v s ≡ lost
  fixed_never k v s e = go (fixed_in digit b k lo hi v s) refl
    where
      go : (g : Got ℕ) → fixed_in digit b k lo hi v s ≡ g → fixed_in digit b k lo hi v s ≡ lost
      go (got x r) h = absurd (true≢false (sym (fits_is b k lo hi v (fixed_fits k v s h)) ∙ e))
      go lost h = h

  -- A byte that is no digit, or one that no number of the range has there, ends every reading.
  fixed_stops : (k v c : ℕ) (s : List ℕ) → (ltb (digit c) b && fits b k lo hi (v * b + digit c)) ≡ false → fixed_in digit b (suc k) lo hi v (c ∷ s) ≡ lost
  fixed_stops k v c s e =
      by_test (ltb (digit c) b)
      (λ t. fixed_digit b digit lo hi k v c s (ltb-true (digit c) b t) ∙ fixed_never k (v * b + digit c) s (rw t at e))
      (λ t. fixed_none b digit lo hi k v c s t)

-- ---- what is sought

module _ (b : ℕ) (digit byte : ℕ → ℕ) (D : Digits b digit byte) (lo hi : ℕ) (R : lo ≤ hi) where
  -- What fits can be read on: at each digit the least that still fits.
  pub opens_fixed : (k v : ℕ) → Fits b k lo hi v → Opens (fixed_in digit b k lo hi v) []
  unfolding fixed_in
  opens_fixed zero v f = record { more = []; value = v; reads = λ rest. within_in lo hi v rest f.0 f.1 }
  opens_fixed (suc k) v f =
      let n = fits_down b D.base k lo hi v R f in
      let o = opens_fixed k (v * b + n.digit) n.fit in
      record {
        more = byte n.digit ∷ o.more;
        value = o.value;
        reads = λ rest. fixed_byte b digit byte D lo hi k v n.digit (o.more ++ rest) n.small ∙ o.reads rest;
      }

  -- The lemma over base and width: from what fits, the digits that follow are sought exactly.
  pub exact_fixed : (k v : ℕ) (s : List ℕ) → Fits b k lo hi v → Exact (fixed_in digit b k lo hi v) s (seek_fixed digit b k lo hi v s)
  unfolding seek_fixed fixed_in
  exact_fixed zero v s f = record { text = []; split = refl; reads = λ rest. within_in lo hi v rest f.0 f.1 }
  exact_fixed (suc k) v [] f = exact_end (fixed_in digit b (suc k) lo hi v) (opens_fixed (suc k) v f) refl
  exact_fixed (suc k) v (c ∷ cs) f =
      let P : Reader ℕ = fixed_in digit b (suc k) lo hi v in
      let x = v * b + digit c in
      by_test (ltb (digit c) b && fits b k lo hi x)
      (λ t.
      let w = both (ltb (digit c) b) (fits b k lo hi x) t in
      let d : digit c < b = ltb-true (digit c) b w.0 in
      rw (t, seek_fixed)
      (exact_byte c cs (fixed_in digit b k lo hi x) P (λ s. fixed_digit b digit lo hi k v c s d) (seek_fixed digit b k lo hi x cs)
      (exact_fixed k x cs (fits_true b k lo hi x w.1))))
      (λ t. rw (t, seek_fixed) (exact_wrong P c cs (opens_fixed (suc k) v f) (λ q. fixed_stops b digit D.base lo hi k v c q t)))
