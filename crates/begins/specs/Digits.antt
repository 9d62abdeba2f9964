-- Numbers sought digit by digit: a digit is wrong if no number of the range begins so. Assumes nothing.
use Rattle.std.specs.Prelude.{ℕ, zero, suc, ◌+◌, ◌-◌, ◌*◌, ◌/◌, Bool, true, false, ◌&&◌, [], ◌∷◌, eqb, leb, ltb}
use Rattle.kinds.specs.Sizes.{between}
use Rattle.text.specs.Decimal.{zero_digit, is_digit}
use Rattle.text.specs.Reader.{lost, Reader}
use Rattle.text.specs.Range.{within}
use Rattle.begins.specs.Seek.{found, wrong, Seeker}

-- Some number of lo..hi is v with k more digits of base b: one digit less divides both ends by b.
unfoldable pub fits : ℕ → ℕ → ℕ → ℕ → ℕ → Bool
fits b zero lo hi v = between lo hi v
fits b (suc k) lo hi v = fits b k (lo / b) (hi / b) v

-- Some number of lo..hi is v with at most k more decimal digits.
unfoldable pub grows : ℕ → ℕ → ℕ → ℕ → Bool
grows zero lo hi v = between lo hi v
grows (suc k) lo hi v =
    elim (leb v hi) [
      | true ↦ elim (leb lo v) [ true ↦ true | false ↦ grows k (lo / 10) (hi / 10) v ]
      | false ↦ false
    ]

-- ---- a decimal number of lo..hi, and the byte that ends it

-- Behind the digit 0.
unfoldable pub seek_end : ℕ → Seeker ℕ
seek_end end [] = wrong []
seek_end end (b ∷ bs) = elim (eqb b end) [ true ↦ found 0 bs | false ↦ wrong (b ∷ bs) ]

-- Behind the digits of v. (A number of the range has no more digits than hi.)
unfoldable pub seek_more : ℕ → ℕ → ℕ → ℕ → Seeker ℕ
seek_more lo hi end v [] = wrong []
seek_more lo hi end v (b ∷ bs) =
    elim (is_digit b) [
      | true ↦
          elim (grows hi lo hi (v * 10 + (b - zero_digit))) [
            | true ↦ seek_more lo hi end (v * 10 + (b - zero_digit)) bs
            | false ↦ wrong (b ∷ bs)
          ]
      | false ↦ elim (eqb b end && between lo hi v) [ true ↦ found v bs | false ↦ wrong (b ∷ bs) ]
    ]

unfoldable pub seek_number : ℕ → ℕ → ℕ → Seeker ℕ
seek_number lo hi end [] = wrong []
seek_number lo hi end (b ∷ bs) =
    elim (is_digit b) [
      | true ↦
          elim (eqb b zero_digit) [
            | true ↦ elim (eqb lo 0) [ true ↦ seek_end end bs | false ↦ wrong (b ∷ bs) ]
            | false ↦
                elim (grows hi lo hi (b - zero_digit)) [
                  | true ↦ seek_more lo hi end (b - zero_digit) bs
                  | false ↦ wrong (b ∷ bs)
                ]
          ]
      | false ↦ wrong (b ∷ bs)
    ]

-- ---- so many digits of a base, of a number of lo..hi: `digit` tells the value of each byte, the base or more for one that is no digit

-- Read: v is the value so far.
unfoldable pub fixed_in : (ℕ → ℕ) → ℕ → ℕ → ℕ → ℕ → ℕ → Reader ℕ
fixed_in digit b zero lo hi v s = within lo hi v s
fixed_in digit b (suc k) lo hi v [] = lost
fixed_in digit b (suc k) lo hi v (c ∷ cs) =
    elim (ltb (digit c) b) [ true ↦ fixed_in digit b k lo hi (v * b + digit c) cs | false ↦ lost ]

-- Sought.
unfoldable pub seek_fixed : (ℕ → ℕ) → ℕ → ℕ → ℕ → ℕ → ℕ → Seeker ℕ
seek_fixed digit b zero lo hi v s = found v s
seek_fixed digit b (suc k) lo hi v [] = wrong []
seek_fixed digit b (suc k) lo hi v (c ∷ cs) =
    elim (ltb (digit c) b && fits b k lo hi (v * b + digit c)) [
      | true ↦ seek_fixed digit b k lo hi (v * b + digit c) cs
      | false ↦ wrong (c ∷ cs)
    ]
