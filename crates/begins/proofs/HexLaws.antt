-- Hex digits are digits of base 16; those of a number of a range are the bytes of a word of that range. Assumes nothing.
use Prim.Native.Nat.{ℕ, zero, suc, ◌+◌, ◌-◌, ◌*◌, ◌≤◌, ◌<◌}
use native.Mathlib.Omega.{arith}
use mathlib.Core.Path.{◌≡◌, refl, sym, ◌∙◌, ap}
use mathlib.Core.Bool.{true, false}
use mathlib.Core.List.{List, [], ◌∷◌}
use lib.Dec.{ltb}
use borrow.Author.Tests.{ltb-true, ltb-false}
use Rattle.kinds.specs.Sizes.{between}
use Rattle.kinds.proofs.BetweenLaws.{between_true}
use Rattle.text.specs.Reader.{got, lost, Reader, onward, pure, ◌>>=◌}
use Rattle.text.specs.Decimal.{is_digit}
use Rattle.text.specs.Hex.{hex_digit, nibble, hex_byte}
use Rattle.text.specs.Range.{within}
use Rattle.text.proofs.ReaderLaws.{got_value, lost_never, onward_got, onward_lost, onward_same, onward-assoc}
use Rattle.text.proofs.HexLaws.{nibble_end, nibble_digit, nibble_letter, nibble_other, nibble_written, nibble_sound}
use Rattle.command.proofs.Tests.{by_test}
use Rattle.begins.specs.Digits.{fixed_in}
use Rattle.begins.specs.Commands.{digit_of}
use Rattle.begins.proofs.FixedLaws.{Digits, fixed_digit, fixed_none}

-- ---- one digit

-- What the value of a byte is, by cases: a digit 0 to 9, a letter a to f, or none.
by_digit : {X : Type 0} (c : ℕ) →
    (is_digit c ≡ true → digit_of c ≡ c - 48 → X) →
    (is_digit c ≡ false → between 97 102 c ≡ true → digit_of c ≡ 10 + (c - 97) → X) →
    (is_digit c ≡ false → between 97 102 c ≡ false → digit_of c ≡ 16 → X) → X
unfolding digit_of
by_digit c f g h =
    by_test (is_digit c) (λ d. f d (rw d))
    (λ d. by_test (between 97 102 c) (λ l. g d l (rw (d, l))) (λ l. h d l (rw (d, l))))

-- A byte whose value is below 16 is read as that value.
pub nibble_value : (c : ℕ) (s : List ℕ) → digit_of c < 16 → nibble (c ∷ s) ≡ got (digit_of c) s
nibble_value c s h =
    by_digit c (λ d e. rw e (nibble_digit c s d)) (λ d l e. rw e (nibble_letter c s d l)) (λ d l e. absurd (omega arith))

-- Any other is not read.
pub nibble_none : (c : ℕ) (s : List ℕ) → 16 ≤ digit_of c → nibble (c ∷ s) ≡ lost
nibble_none c s h =
    by_digit c (λ d e. let w = between_true 48 57 c d in absurd (omega arith)) (λ d l e. let w = between_true 97 102 c l in absurd (omega arith))
    (λ d l e. nibble_other c s d l)

-- What is read is the byte's value.
pub value_read : (c d : ℕ) (s : List ℕ) {r : List ℕ} → nibble (c ∷ s) ≡ got d r → digit_of c ≡ d
value_read c d s e =
    by_test (ltb (digit_of c) 16)
    (λ t. got_value (sym (nibble_value c s (ltb-true (digit_of c) 16 t)) ∙ e))
    (λ t. absurd (lost_never (sym (nibble_none c s (ltb-false (digit_of c) 16 t)) ∙ e)))

same_head : {b c : ℕ} {bs cs : List ℕ} → b ∷ bs ≡ c ∷ cs → b ≡ c
same_head e = cc

-- Hex digits are digits of base 16.
pub hex_digits : Digits 16 digit_of hex_digit
hex_digits =
    record {
      base = omega arith;
      is = λ d h. value_read (hex_digit d) d [] (nibble_written d h []);
      one = λ c h. same_head (nibble_sound (c ∷ []) (nibble_value c [] h)).0;
    }

-- ---- words

-- The word of n bytes, two digits each: v is the value so far.
unfoldable pub hex_word : ℕ → ℕ → Reader ℕ
hex_word zero v = pure v
hex_word (suc n) v = ◌>>=◌ hex_byte (λ b. hex_word n (v * 256 + b))

-- Two digits for each byte.
unfoldable pub double : ℕ → ℕ
double zero = zero
double (suc n) = suc (suc (double n))

module _ (lo hi : ℕ) where
  abbrev F : ℕ → ℕ → Reader ℕ
  F k v = fixed_in digit_of 16 k lo hi v

  fixed_nibble : (k v : ℕ) (s : List ℕ) → F (suc k) v s ≡ onward (nibble s) (λ d. F k (v * 16 + d))
  unfolding fixed_in
  fixed_nibble k v [] = sym (onward_lost (λ d. F k (v * 16 + d)) nibble_end)
  fixed_nibble k v (c ∷ cs) =
      by_test (ltb (digit_of c) 16)
      (λ t.
      let h : digit_of c < 16 = ltb-true (digit_of c) 16 t in
      fixed_digit 16 digit_of lo hi k v c cs h ∙ sym (onward_got (λ d. F k (v * 16 + d)) (nibble_value c cs h)))
      (λ t. fixed_none 16 digit_of lo hi k v c cs t ∙ sym (onward_lost (λ d. F k (v * 16 + d)) (nibble_none c cs (ltb-false (digit_of c) 16 t))))

  fixed_two : (k v : ℕ) (s : List ℕ) → F (suc (suc k)) v s ≡ onward (hex_byte s) (λ b. F k (v * 256 + b))
  unfolding hex_byte
  fixed_two k v s =
      let join : (h l : ℕ) → (v * 16 + h) * 16 + l ≡ v * 256 + (h * 16 + l) = λ h l. omega arith in
      fixed_nibble (suc k) v s
      ∙ onward_same (nibble s)
      (λ h r.
      fixed_nibble k (v * 16 + h) r
      ∙ onward_same (nibble r) (λ l q. ap (λ (x : ℕ). F k x q) (join h l) ∙ sym (onward_got (λ b. F k (v * 256 + b)) refl))
      ∙ sym (onward-assoc (nibble r) (λ l. pure (h * 16 + l)) (λ b. F k (v * 256 + b))))
      ∙ sym (onward-assoc (nibble s) (λ h. ◌>>=◌ nibble (λ l. pure (h * 16 + l))) (λ b. F k (v * 256 + b)))

  -- The digits of n bytes are the word of n bytes, then its range.
  pub fixed_word : (n v : ℕ) (s : List ℕ) → fixed_in digit_of 16 (double n) lo hi v s ≡ onward (hex_word n v s) (within lo hi)
  unfolding fixed_in hex_word onward double
  fixed_word zero v s = refl
  fixed_word (suc n) v s =
      fixed_two (double n) v s
      ∙ onward_same (hex_byte s) (λ b r. fixed_word n (v * 256 + b) r)
      ∙ sym (onward-assoc (hex_byte s) (λ b. hex_word n (v * 256 + b)) (within lo hi))
