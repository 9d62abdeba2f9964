-- A whole number's binary digits moved up to 24 of them: they are the bits of that number as a binary32, the leading one added to the exponent.
-- Assumes nothing.
use Prim.Native.Nat.{ℕ, suc, ◌+◌, ◌-◌, ◌*◌, ◌/◌, ◌%◌, ◌^◌, ◌≤◌, ◌<◌}
use native.Mathlib.Omega.{arith}
use native.Mathlib.Nat.{mul_assoc, mul-one, mod-eq_of_lt, mul-le-mul_right, le_trans, le_of_eq, lt_of_lt_of_le, not-le_of_lt}
use mathlib.Core.Path.{◌≡◌, refl, sym, ◌∙◌, ap, subst}
use mathlib.Core.Bool.{false, not}
use borrow.Author.Tests.{lt-leb, ltb-true, ltb-false, ne_eqb}
use lib.Count.{count_leading_zeros, leading_top}
use lib.Dec.{T, leb, ltb}
use lib.IntN.{pos}
use lib.Pow.{pow_pos, pow-add, pow_mono, shl_lt}
use lib.Ieee.{Float, binary32, of_bits, of_fields, of_int, odd, nan_bits}
use lib.Ieee.Exact.{HasValue, odd_sign}
use lib.Ieee.Bits.{of_bits-fits}
use Rattle.command.specs.Command.{duration_most}
use Rattle.command.proofs.Tests.{by_test}
use Rattle.command.proofs.CaseLaws.{bits_no_nan}
use Rattle.play.specs.Play.{nought, whole, IsNumber}
use Rattle.play.proofs.WholeLaws.{rescale, number_is_whole}
use Rattle.drive.specs.Digits.{Moved}

-- ---- how far the digits are moved

module _ (n : ℕ) (some : n ≡ 0 → ⊥) (h : n ≤ duration_most) where
  pub zeros_moved : Moved n (count_leading_zeros 32 n)
  zeros_moved =
      let above : 0 < n = omega arith in
      let top = leading_top 32 n above (omega arith) in
      let z = count_leading_zeros 32 n in
      let j = top.0 in
      let sum : z + suc j ≡ 32 = top.1 in
      let high : 19 < j → ⊥ = λ l. not-le_of_lt (lt_of_lt_of_le (omega arith) (pow_mono {i = 20} {j = j} l)) top.2 in
      let low : j ≤ 19 = by_test (ltb 19 j) (λ t. absurd (high (ltb-true 19 j t))) (λ t. ltb-false 19 j t) in
      let k = z - 8 in
      let all : j + k ≡ 23 = omega arith in
      let one_more : suc j + k ≡ 24 = omega arith in
      let behind : k + (157 - z) ≡ 149 = omega arith in
      let up : 2 ^ j * 2 ^ k ≡ 0x80_0000 = sym (pow-add 2 j k) ∙ ap (λ (i : ℕ). 2 ^ i) all in
      let few : n * 2 ^ k < 0x100_0000 = lt_of_lt_of_le (shl_lt {a = n} (suc j) k top.3) (le_of_eq (ap (λ (i : ℕ). 2 ^ i) one_more)) in
      record {
        least = omega arith;
        most = omega arith;
        kept = mod-eq_of_lt (omega arith);
        leading = le_trans (le_of_eq (sym up)) (mul-le-mul_right (2 ^ k) top.2);
        few = few;
        worth = mul_assoc n (2 ^ k) (2 ^ (157 - z)) ∙ ap (λ (x : ℕ). n * x) (sym (pow-add 2 k (157 - z)) ∙ ap (λ (i : ℕ). 2 ^ i) behind);
      }

-- ---- the bits

module _ (m e : ℕ) (leading : 0x80_0000 ≤ m) (few : m < 0x100_0000) (low : e ≤ 149) where
  -- The exponent's field, and the digits behind the leading one.
  fields : of_fields binary32 false (suc e) (m - 0x80_0000) ≡ odd 24 false m e 149
  unfolding of_fields
  fields =
      let all : 0x80_0000 + (m - 0x80_0000) ≡ m = omega arith in
      rw (ne_eqb (suc e) 255 (λ h. omega arith)) (ap (λ (k : ℕ). odd 24 false k e 149) all)

  opened : of_bits binary32 (e * 0x80_0000 + m) ≡ odd 24 false m e 149
  unfolding of_bits
  opened =
      let b = e * 0x80_0000 + m in
      let s : leb 0x8000_0000 b ≡ false = lt-leb 0x8000_0000 b (omega arith) in
      let x : b % 0x8000_0000 / 0x80_0000 ≡ suc e = omega arith in
      let t : b % 0x80_0000 ≡ m - 0x80_0000 = omega arith in
      (λ i. of_fields binary32 (s i) (x i) (t i)) ∙ fields

  -- They are m * 2 ^ e / 2 ^ 149.
  bits_value : HasValue (of_bits binary32 (e * 0x80_0000 + m)) false (m * 2 ^ e) (2 ^ 149)
  bits_value = subst (λ (x : Float). HasValue x false (m * 2 ^ e) (2 ^ 149)) (sym opened) (odd_sign 24 false m e 149)

-- 0 is +0.
pub whole_none : (n : ℕ) → n ≡ 0 → (nought ≡ whole (pos n)) × IsNumber nought n
unfolding of_int of_bits
whole_none n e = rw e (refl, (refl, refl))

module _ (n : ℕ) (some : n ≡ 0 → ⊥) (h : n ≤ duration_most) (digits : ℕ) (is : digits ≡ n * 2 ^ (count_leading_zeros 32 n - 8)) where
  abbrev bits : ℕ
  bits = (157 - count_leading_zeros 32 n) * 0x80_0000 + digits

  -- The moved digits with their exponent are no NaN's bits,
  pub digits_no_nan : T (not (nan_bits binary32 bits))
  digits_no_nan =
      let d = zeros_moved n some h in
      rw is (bits_no_nan ((157 - count_leading_zeros 32 n) * 0x80_0000 + n * 2 ^ (count_leading_zeros 32 n - 8)) (omega arith))

  -- and they are this very number's.
  pub digits_whole : (of_bits binary32 bits ≡ whole (pos n)) × IsNumber (of_bits binary32 bits) n
  digits_whole =
      let d = zeros_moved n some h in
      let m = n * 2 ^ (count_leading_zeros 32 n - 8) in
      let e = 157 - count_leading_zeros 32 n in
      let x = of_bits binary32 (e * 0x80_0000 + m) in
      let own : IsNumber x n =
      rescale x false (m * 2 ^ e) (2 ^ 149) n 1 (pow_pos 149) (sym d.worth ∙ sym (mul-one (m * 2 ^ e)))
      (bits_value m e d.leading d.few (omega arith)) in
      rw is (number_is_whole x n h (of_bits-fits binary32 (e * 0x80_0000 + m)) own, own)
