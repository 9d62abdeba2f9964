-- A decimal number of a range with the byte that ends it is sought exactly, and what is read lies in the range. Assumes nothing.
use Prim.Native.Nat.{ℕ, ◌-◌, ◌≤◌}
use native.Mathlib.Omega.{arith}
use mathlib.Core.Path.{◌≡◌, refl, ◌∙◌, ap}
use mathlib.Core.Bool.{true, false}
use mathlib.Core.List.{List, [], ◌∷◌, ◌++◌}
use lib.Dec.{eqb}
use borrow.Author.Tests.{eqb-true, eqb-false}
use Rattle.text.specs.Reader.{Got, got, lost, onward, literal}
use Rattle.text.specs.Decimal.{zero_digit, is_digit, decimal}
use Rattle.text.specs.Range.{within, number_in}
use Rattle.text.proofs.ReaderLaws.{got_same, onward_got, onward_lost, onward_sound, onward_never}
use Rattle.text.proofs.DecimalLaws.{is_digit_lem, number_end, number_zero, number_first, number_other}
use Rattle.text.proofs.RangeLaws.{within_in, within_below, within_sound}
use Rattle.text.proofs.LineLaws.{ended-written}
use Rattle.command.proofs.Tests.{by_test}
use Rattle.begins.specs.Digits.{grows, seek_end, seek_more, seek_number}
use Rattle.begins.proofs.Exact.{Opens, Exact, exact_end, exact_wrong, exact_byte}
use Rattle.begins.proofs.DigitsLaws.{grows_true}
use Rattle.begins.proofs.MoreLaws.{ended, ended_end, ended_other, ended_nil, more_in, more_never, exact_more}
use Rattle.begins.proofs.Seeks.{Seeks}

module _ (lo hi end : ℕ) where
  -- ---- the first digit is read

  number_in_zero : (b : ℕ) (s : List ℕ) → b ≡ zero_digit → number_in lo hi end (b ∷ s) ≡ ended lo hi end 0 s
  unfolding number_in
  number_in_zero b s z = onward_got (ended lo hi end) (number_zero b s z)

  number_in_first : (b : ℕ) (s : List ℕ) → is_digit b ≡ true → (b ≡ zero_digit → ⊥) → number_in lo hi end (b ∷ s) ≡ more_in lo hi end (b - zero_digit) s
  unfolding number_in
  number_in_first b s d n = ap (λ (g : Got ℕ). onward g (ended lo hi end)) (number_first b s d n)

  number_in_none : (b : ℕ) (s : List ℕ) → is_digit b ≡ false → number_in lo hi end (b ∷ s) ≡ lost
  unfolding number_in
  number_in_none b s d = onward_lost (ended lo hi end) (number_other b s d)

  number_in_nil : number_in lo hi end [] ≡ lost
  unfolding number_in
  number_in_nil = onward_lost (ended lo hi end) number_end

  -- 0 is never read where the range is above it.
  zero_never : (s : List ℕ) → (lo ≡ 0 → ⊥) → ended lo hi end 0 s ≡ lost
  zero_never s n = onward_never (literal (end ∷ []) s) (λ a. within lo hi 0) (λ a r. within_below lo hi 0 r (omega (arith, n)))

  -- ---- behind the digit 0

  opens_ended : lo ≡ 0 → Opens (ended lo hi end 0) []
  opens_ended z = record { more = end ∷ []; value = 0; reads = λ rest. ended_end lo hi end 0 end rest refl (omega arith) (omega arith) }

  exact_ended : (s : List ℕ) → lo ≡ 0 → Exact (ended lo hi end 0) s (seek_end end s)
  unfolding seek_end
  exact_ended [] z = exact_end (ended lo hi end 0) (opens_ended z) (ended_nil lo hi end 0)
  exact_ended (b ∷ bs) z =
      by_test (eqb b end)
      (λ e. rw (e, seek_end)
      (record { text = b ∷ []; split = refl; reads = λ rest. ended_end lo hi end 0 b rest (eqb-true b end e) (omega arith) (omega arith) }))
      (λ e. rw (e, seek_end) (exact_wrong (ended lo hi end 0) b bs (opens_ended z) (λ q. ended_other lo hi end 0 b q (rw e))))

-- ---- a number, sought

module _ (lo hi end : ℕ) (R : lo ≤ hi) (E : is_digit end ≡ false) where
  -- The witness: the least number of the range.
  opens_number : Opens (number_in lo hi end) []
  unfolding number_in
  opens_number =
      record {
        more = decimal lo ++ (end ∷ []);
        value = lo;
        reads = ended-written end (within lo hi) lo [] E (λ rest. within_in lo hi lo rest (omega arith) R);
      }

  -- The first digit is 0.
  exact_zero : (b : ℕ) (bs : List ℕ) → is_digit b ≡ true → eqb b zero_digit ≡ true → Exact (number_in lo hi end) (b ∷ bs) (seek_number lo hi end (b ∷ bs))
  unfolding seek_number
  exact_zero b bs d z =
      let P = number_in lo hi end in
      let zeroed : (s : List ℕ) → P (b ∷ s) ≡ ended lo hi end 0 s = λ s. number_in_zero lo hi end b s (eqb-true b zero_digit z) in
      by_test (eqb lo 0)
      (λ e. rw (d, z, e, seek_number)
      (exact_byte b bs (ended lo hi end 0) P zeroed (seek_end end bs) (exact_ended lo hi end bs (eqb-true lo 0 e))))
      (λ e. rw (d, z, e, seek_number)
      (exact_wrong P b bs opens_number (λ q. zeroed q ∙ zero_never lo hi end q (eqb-false lo 0 e))))

  -- The first digit is another.
  exact_first : (b : ℕ) (bs : List ℕ) → is_digit b ≡ true → eqb b zero_digit ≡ false → Exact (number_in lo hi end) (b ∷ bs) (seek_number lo hi end (b ∷ bs))
  unfolding seek_number
  exact_first b bs d z =
      let P = number_in lo hi end in
      let x = b - zero_digit in
      let n : b ≡ 48 → ⊥ = eqb-false b 48 z in
      let w : (48 ≤ b) × (b ≤ 57) = is_digit_lem b d in
      let one : 1 ≤ x = omega (arith, n) in
      by_test (grows hi lo hi x)
      (λ e. rw (d, z, e, seek_number)
      (exact_byte b bs (more_in lo hi end x) P (λ s. number_in_first lo hi end b s d n) (seek_more lo hi end x bs)
      (exact_more lo hi end R E x bs one (grows_true hi lo hi x e))))
      (λ e. rw (d, z, e, seek_number)
      (exact_wrong P b bs opens_number (λ q. number_in_first lo hi end b q d n ∙ more_never lo hi end x q one e)))

  exact_number : (s : List ℕ) → Exact (number_in lo hi end) s (seek_number lo hi end s)
  unfolding seek_number
  exact_number [] = exact_end (number_in lo hi end) opens_number (number_in_nil lo hi end)
  exact_number (b ∷ bs) =
      by_test (is_digit b)
      (λ d. by_test (eqb b zero_digit) (λ z. exact_zero b bs d z) (λ z. exact_first b bs d z))
      (λ d. rw (d, seek_number) (exact_wrong (number_in lo hi end) b bs opens_number (λ q. number_in_none lo hi end b q d)))

-- A number of a range that is not empty is sought exactly.
pub seeks_number : (lo hi end : ℕ) → lo ≤ hi → is_digit end ≡ false → Seeks (number_in lo hi end) (seek_number lo hi end)
seeks_number lo hi end R E = record { opens = opens_number lo hi end R E; exact = exact_number lo hi end R E }

-- What is read lies in the range.
pub number_range : (lo hi end : ℕ) (s : List ℕ) {x : ℕ} {rest : List ℕ} → number_in lo hi end s ≡ got x rest → (lo ≤ x) × (x ≤ hi)
unfolding number_in
number_range lo hi end s e =
    let n = onward_sound e in
    let l = onward_sound n.next in
    let w = within_sound lo hi n.value l.left l.next in
    got_same (λ y q. (lo ≤ y) × (y ≤ hi)) w.0 (w.1, w.2)
