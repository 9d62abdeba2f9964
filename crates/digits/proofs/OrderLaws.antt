-- Digits keep the order of numbers: two numbers are compared as the numbers are that their digits make, each digit a byte. Assumes nothing.
use Prim.Native.Nat.{ℕ, zero, suc, ◌+◌, ◌*◌, ◌/◌, ◌%◌, ◌^◌, ◌≤◌, ◌<◌}
use native.Mathlib.Omega.{arith}
use native.Mathlib.Nat.{pow-suc, div-lt_iff_lt-mul}
use mathlib.Core.Path.{◌≡◌, refl, sym, ◌∙◌, ap}
use mathlib.Core.List.{List, [], ◌∷◌, ◌++◌}
use borrow.Author.Tests.{ltb-true, ltb-false, le-leb, lt-leb, eq-eqb, ne_eqb}
use lib.Dec.{ltb, leb, eqb}
use Rattle.command.specs.Words.{word, value}
use Rattle.command.proofs.Tests.{by_test}
use Rattle.command.proofs.WordsLaws.{value_append}
use Rattle.text.specs.Hex.{hex_digit, hex}
use Rattle.text.proofs.HexLaws.{digit_low, digit_high}
use Rattle.digits.specs.Digits.{in_digits}

-- ---- digits

-- A digit is a byte.
digit_below : (v : ℕ) → v < 16 → hex_digit v < 256
digit_below v h =
    by_test (ltb v 10) (λ t. omega (arith, digit_low v (ltb-true v 10 t))) (λ t. omega (arith, digit_high v (ltb-false v 10 t)))

-- Digits are in the order of their values.
digit_less : (u v : ℕ) → u < v → v < 16 → hex_digit u < hex_digit v
digit_less u v h below =
    by_test (ltb u 10)
    (λ s. by_test (ltb v 10)
    (λ t. omega (arith, digit_low u (ltb-true u 10 s), digit_low v (ltb-true v 10 t)))
    (λ t. omega (arith, digit_low u (ltb-true u 10 s), digit_high v (ltb-false v 10 t))))
    (λ s.
    let ten : 10 ≤ u = ltb-false u 10 s in
    omega (arith, digit_high u ten, digit_high v (omega arith)))

-- The two digits of a byte, as one number.
abbrev pair : ℕ → ℕ
pair c = hex_digit (c / 16) * 256 + hex_digit (c % 16)

pair_below : (c : ℕ) → c < 256 → pair c < 65_536
pair_below c h = omega (arith, digit_below (c / 16) (omega arith), digit_below (c % 16) (omega arith))

-- They are in the order of the bytes.
pair_less : (c e : ℕ) → c < e → e < 256 → pair c < pair e
pair_less c e h below =
    by_test (ltb (c / 16) (e / 16))
    (λ t. omega (arith, digit_less (c / 16) (e / 16) (ltb-true _ _ t) (omega arith), digit_below (c % 16) (omega arith)))
    (λ t.
    let least : e / 16 ≤ c / 16 = ltb-false _ _ t in
    let same : c / 16 ≡ e / 16 = omega arith in
    omega (arith, ap hex_digit same, digit_less (c % 16) (e % 16) (omega arith) (omega arith)))

-- ---- numbers

hex_append : (xs ys : List ℕ) → hex (xs ++ ys) ≡ hex xs ++ hex ys
unfolding hex
hex_append [] ys = refl
hex_append (x ∷ xs) ys = ap (λ (l : List ℕ). hex_digit (x / 16) ∷ hex_digit (x % 16) ∷ l) (hex_append xs ys)

-- One byte more: its two digits behind the others.
in_digits_suc : (n x : ℕ) → in_digits (suc n) x ≡ in_digits n (x / 256) * 65_536 + pair (x % 256)
unfolding in_digits word value hex
in_digits_suc n x =
    ap (value 0) (hex_append (word n (x / 256)) (x % 256 ∷ []))
    ∙ (value_append 0 (hex (word n (x / 256))) (hex (x % 256 ∷ [])) ∙ omega arith)

-- A lesser number has lesser digits.
in_digits_less : (n u w : ℕ) → u < w → w < 256 ^ n → in_digits n u < in_digits n w
in_digits_less zero u w h below = absurd (omega arith)
in_digits_less (suc n) u w h below =
    let high : w / 256 < 256 ^ n = (div-lt_iff_lt-mul {k = 256} (omega arith)).1 (rw pow-suc at below) in
    rw (in_digits_suc n u, in_digits_suc n w)
    (by_test (ltb (u / 256) (w / 256))
    (λ t. omega (arith, in_digits_less n (u / 256) (w / 256) (ltb-true _ _ t) high, pair_below (u % 256) (omega arith)))
    (λ t.
    let least : w / 256 ≤ u / 256 = ltb-false _ _ t in
    let same : u / 256 ≡ w / 256 = omega arith in
    omega (arith, ap (in_digits n) same, pair_less (u % 256) (w % 256) (omega arith) (omega arith))))

-- By the order of two numbers.
by_order : {X : Type 0} (u w : ℕ) → (u < w → X) → (u ≡ w → X) → (w < u → X) → X
by_order u w less same more =
    by_test (ltb u w) (λ t. less (ltb-true u w t))
    (λ t.
    let most : w ≤ u = ltb-false u w t in
    by_test (ltb w u) (λ s. more (ltb-true w u s)) (λ s. same (omega (arith, ltb-false w u s))))

module _ (n u w : ℕ) (hu : u < 256 ^ n) (hw : w < 256 ^ n) where
  -- A number is at most another where its digits are.
  pub in_digits_le : leb (in_digits n u) (in_digits n w) ≡ leb u w
  in_digits_le =
      by_order u w
      (λ h. le-leb (in_digits n u) (in_digits n w) (omega (arith, in_digits_less n u w h hw)) ∙ sym (le-leb u w (omega arith)))
      (λ h. le-leb (in_digits n u) (in_digits n w) (omega (arith, ap (in_digits n) h)) ∙ sym (le-leb u w (omega arith)))
      (λ h. lt-leb (in_digits n u) (in_digits n w) (in_digits_less n w u h hu) ∙ sym (lt-leb u w h))

  -- A number is another where its digits are.
  pub in_digits_eq : eqb (in_digits n u) (in_digits n w) ≡ eqb u w
  in_digits_eq =
      by_order u w
      (λ h. ne_eqb (in_digits n u) (in_digits n w) (λ e. omega (arith, in_digits_less n u w h hw)) ∙ sym (ne_eqb u w (λ e. omega arith)))
      (λ h. eq-eqb (in_digits n u) (in_digits n w) (ap (in_digits n) h) ∙ sym (eq-eqb u w h))
      (λ h. ne_eqb (in_digits n u) (in_digits n w) (λ e. omega (arith, in_digits_less n w u h hu)) ∙ sym (ne_eqb u w (λ e. omega arith)))
