-- Behind the first digit of a decimal number of a range, the digits that follow and the byte that ends them are sought exactly. Assumes nothing.
use Prim.Native.Nat.{ℕ, zero, suc, ◌+◌, ◌-◌, ◌*◌, ◌≤◌, ◌<◌}
use native.Mathlib.Omega.{arith}
use mathlib.Core.Path.{◌≡◌, refl, sym, ◌∙◌, ap}
use mathlib.Core.Bool.{true, false, true≢false, ◌&&◌}
use mathlib.Core.List.{List, [], ◌∷◌, ◌++◌}
use lib.Dec.{eqb}
use borrow.Author.Tests.{eqb-true, eqb-false}
use Rattle.kinds.specs.Sizes.{between}
use Rattle.kinds.proofs.BetweenLaws.{between_true}
use Rattle.text.specs.Reader.{Got, got, lost, Reader, onward, literal, ◌>>=◌, ◌>>◌}
use Rattle.text.specs.Decimal.{zero_digit, is_digit, more_digits}
use Rattle.text.specs.Range.{within}
use Rattle.text.proofs.ReaderLaws.{lost_never, onward_got, onward_lost, literal_same, literal_other}
use Rattle.text.proofs.DecimalLaws.{is_digit_lem, digit_is, more_digit, more_other}
use Rattle.text.proofs.RangeLaws.{within_in}
use Rattle.command.proofs.Tests.{by_test, both}
use Rattle.begins.specs.Digits.{grows, seek_more}
use Rattle.begins.proofs.Exact.{Opens, Exact, exact_end, exact_wrong, exact_byte}
use Rattle.begins.proofs.DigitsLaws.{Fits, fits_down, fits_up, Grows, grows_true, grows_is}

-- The value v with the digit b behind it.
abbrev pub with_digit : ℕ → ℕ → ℕ
with_digit v b = v * 10 + (b - zero_digit)

-- ---- the byte that ends a number

module _ (lo hi end : ℕ) where
  -- What is read behind a number's digits.
  abbrev pub ended : ℕ → Reader ℕ
  ended x = ◌>>◌ (literal (end ∷ [])) (within lo hi x)

  -- The end is read behind a number of the range.
  pub ended_end : (v b : ℕ) (s : List ℕ) → b ≡ end → lo ≤ v → v ≤ hi → ended v (b ∷ s) ≡ got v s
  unfolding literal
  ended_end v b s e p q = onward_got (λ a. within lo hi v) (literal_same end [] b s e) ∙ within_in lo hi v s p q

  -- Another byte, or a number outside the range, is not.
  pub ended_other : (v b : ℕ) (s : List ℕ) → (eqb b end && between lo hi v) ≡ false → ended v (b ∷ s) ≡ lost
  unfolding within literal onward
  ended_other v b s e =
      by_test (eqb b end)
      (λ h.
      let out : between lo hi v ≡ false = rw h at e in
      onward_got (λ a. within lo hi v) (literal_same end [] b s (eqb-true b end h)) ∙ rw (out, within))
      (λ h. onward_lost (λ a. within lo hi v) (literal_other end [] b s (eqb-false b end h)))

  -- Nor is nothing.
  pub ended_nil : (v : ℕ) → ended v [] ≡ lost
  unfolding literal onward
  ended_nil v = refl

  -- What is read behind the digits of v.
  abbrev pub more_in : ℕ → Reader ℕ
  more_in v = ◌>>=◌ (more_digits v) ended

  more_in_nil : (v : ℕ) → more_in v [] ≡ lost
  unfolding literal onward more_digits
  more_in_nil v = refl

  more_in_digit : (v b : ℕ) (s : List ℕ) → is_digit b ≡ true → more_in v (b ∷ s) ≡ more_in (with_digit v b) s
  more_in_digit v b s d = ap (λ (g : Got ℕ). onward g ended) (more_digit b s v d)

  more_in_other : (v b : ℕ) (s : List ℕ) → is_digit b ≡ false → more_in v (b ∷ s) ≡ ended v (b ∷ s)
  more_in_other v b s d = onward_got ended (more_other b s v d)

  -- What is read begins so.
  more_grows : (v : ℕ) (s : List ℕ) {x : ℕ} {rest : List ℕ} → more_in v s ≡ got x rest → Grows lo hi v
  more_grows v [] e = absurd (lost_never (sym (more_in_nil v) ∙ e))
  more_grows v (b ∷ bs) e =
      by_test (is_digit b)
      (λ d.
      let g = more_grows (with_digit v b) bs (sym (more_in_digit v b bs d) ∙ e) in
      let w : (48 ≤ b) × (b ≤ 57) = is_digit_lem b d in
      record { more = suc g.more; fit = fits_up 10 (omega arith) g.more lo hi v (b - 48) (omega arith) g.fit })
      (λ d.
      by_test (eqb b end && between lo hi v)
      (λ h. record { more = 0; fit = between_true lo hi v (both (eqb b end) (between lo hi v) h).1 })
      (λ h. absurd (lost_never (sym (more_in_other v b bs d ∙ ended_other v b bs h) ∙ e))))

  -- A value that begins no number of the range is never read on.
  pub more_never : (v : ℕ) (s : List ℕ) → 1 ≤ v → grows hi lo hi v ≡ false → more_in v s ≡ lost
  more_never v s p e = go (more_in v s) refl
    where
      go : (g : Got ℕ) → more_in v s ≡ g → more_in v s ≡ lost
      go (got x r) h =
          let g = more_grows v s h in
          absurd (true≢false (sym (grows_is hi g.more lo hi v p (omega arith) g.fit) ∙ e))
      go lost h = h

-- ---- sought

module _ (lo hi end : ℕ) (R : lo ≤ hi) (E : is_digit end ≡ false) where
  -- The witness: at each digit the least that still fits, then the end.
  opens_more : (k v : ℕ) → Fits 10 k lo hi v → Opens (more_in lo hi end v) []
  opens_more zero v f =
      record { more = end ∷ []; value = v; reads = λ rest. more_in_other lo hi end v end rest E ∙ ended_end lo hi end v end rest refl f.0 f.1 }
  opens_more (suc k) v f =
      let n = fits_down 10 (omega arith) k lo hi v R f in
      let d = n.digit in
      let small : d < 10 = n.small in
      let o = opens_more k (v * 10 + d) n.fit in
      let same : with_digit v (48 + d) ≡ v * 10 + d = omega arith in
      record {
        more = (48 + d) ∷ o.more;
        value = o.value;
        reads =
            λ rest.
            more_in_digit lo hi end v (48 + d) (o.more ++ rest) (digit_is (48 + d) (omega arith) (omega arith))
            ∙ ap (λ (x : ℕ). more_in lo hi end x (o.more ++ rest)) same
            ∙ o.reads rest;
      }

  -- What begins a number of the range can be read on.
  opens_grows : (v : ℕ) → Grows lo hi v → Opens (more_in lo hi end v) []
  opens_grows v g = opens_more g.more v g.fit

  -- One more digit.
  exact_digit : (v b : ℕ) (bs : List ℕ) → 1 ≤ v → Grows lo hi v → is_digit b ≡ true →
      (Grows lo hi (with_digit v b) → Exact (more_in lo hi end (with_digit v b)) bs (seek_more lo hi end (with_digit v b) bs)) →
      Exact (more_in lo hi end v) (b ∷ bs) (seek_more lo hi end v (b ∷ bs))
  unfolding seek_more
  exact_digit v b bs p g d ih =
      let P = more_in lo hi end in
      let x = with_digit v b in
      by_test (grows hi lo hi x)
      (λ e. rw (d, e, seek_more)
      (exact_byte b bs (P x) (P v) (λ s. more_in_digit lo hi end v b s d) (seek_more lo hi end x bs) (ih (grows_true hi lo hi x e))))
      (λ e. rw (d, e, seek_more)
      (exact_wrong (P v) b bs (opens_grows v g) (λ q. more_in_digit lo hi end v b q d ∙ more_never lo hi end x q (omega arith) e)))

  -- A byte that is no digit.
  exact_other : (v b : ℕ) (bs : List ℕ) → Grows lo hi v → is_digit b ≡ false → Exact (more_in lo hi end v) (b ∷ bs) (seek_more lo hi end v (b ∷ bs))
  unfolding seek_more
  exact_other v b bs g d =
      by_test (eqb b end && between lo hi v)
      (λ e.
      let w = both (eqb b end) (between lo hi v) e in
      let i = between_true lo hi v w.1 in
      rw (d, e, seek_more)
      (record {
        text = b ∷ [];
        split = refl;
        reads = λ rest. more_in_other lo hi end v b rest d ∙ ended_end lo hi end v b rest (eqb-true b end w.0) i.0 i.1;
      }))
      (λ e. rw (d, e, seek_more)
      (exact_wrong (more_in lo hi end v) b bs (opens_grows v g) (λ q. more_in_other lo hi end v b q d ∙ ended_other lo hi end v b q e)))

  -- Behind digits that begin a number of the range, the rest of a number is sought exactly.
  pub exact_more : (v : ℕ) (s : List ℕ) → 1 ≤ v → Grows lo hi v → Exact (more_in lo hi end v) s (seek_more lo hi end v s)
  unfolding seek_more
  exact_more v [] p g = exact_end (more_in lo hi end v) (opens_grows v g) (more_in_nil lo hi end v)
  exact_more v (b ∷ bs) p g =
      by_test (is_digit b)
      (λ d. exact_digit v b bs p g d (λ h. exact_more (with_digit v b) bs (omega arith) h))
      (λ d. exact_other v b bs g d)
