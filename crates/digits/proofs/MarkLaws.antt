-- The eight bytes of a word tested at once: what the code makes of a word is made of each of its bytes, and of a byte it is 0 exactly if the byte is a
-- hex digit, which antt computes for all 256. Assumes nothing.
use Prim.Native.Nat.{ℕ, zero, suc, ◌+◌, ◌-◌, ◌*◌, ◌/◌, ◌%◌, ◌^◌, ◌<◌}
use native.Mathlib.Omega.{arith}
use mathlib.Core.Path.{◌≡◌, refl, sym, ap, ap₂, ◌∙◌}
use mathlib.Core.Bool.{Bool, ◌&&◌, beq, and-true, and_assoc}
use mathlib.Core.List.{List, [], ◌∷◌, ◌++◌}
use borrow.Author.Tests.{ne_eqb}
use lib.Dec.{eqb, eqb-suc-zero}
use lib.Bits.{bit_and, bit_or, bit_xor, and_le_r}
use Rattle.kinds.specs.Sizes.{between}
use Rattle.kinds.proofs.BoolLaws.{beq_true}
use Rattle.command.specs.Words.{word}
use Rattle.digits.specs.Digits.{is_hex_digit, all_digits}
use Rattle.digits.proofs.LaneLaws.{every, every_at, each, lane_test, low_byte, each_self, each_sum, each_and, each_or, each_xor}

-- ---- one byte

-- A byte without its highest bit.
abbrev low : ℕ → ℕ
low b = bit_and b 127

-- The highest bit of this tells a byte from the colon to the backquote,
abbrev middle : ℕ → ℕ
middle b = bit_xor (low b + 70) (low b + 31)

-- and of this one from g on, or below 0.
abbrev outer : ℕ → ℕ
outer b = bit_or (low b + 25) (175 - low b)

-- The highest bit of this tells any byte that is no digit.
abbrev all_marks : ℕ → ℕ
all_marks b = bit_or (bit_or (middle b) (outer b)) b

-- That bit alone: the mark of a byte that is no digit.
abbrev mark : ℕ → ℕ
mark b = bit_and (all_marks b) 128

-- A byte has no mark exactly if it is a digit.
mark_digit : (b : ℕ) → b < 256 → eqb (mark b) 0 ≡ is_hex_digit b
unfolding every is_hex_digit between
mark_digit b h = beq_true _ _ (every_at (λ k. beq (eqb (mark k) 0) (is_hex_digit k)) 256 refl b h)

-- ---- a word of n bytes

module _ (n x : ℕ) where
  -- The low bits of all bytes at once.
  lows : bit_and (each (λ b. b) n x) (each (λ b. 127) n x) ≡ each low n x
  unfolding every
  lows = each_and (λ b. b) (λ b. 127) (lane_test _ refl) (lane_test _ refl) n x

  -- A sum of the low bits and a constant.
  more : (k : ℕ) → each low n x + each (λ b. k) n x ≡ each (λ b. low b + k) n x
  more k = each_sum low (λ b. k) (λ b. low b + k) (λ b h. refl) n x

  -- What is left of a constant.
  less : each (λ b. 175) n x - each low n x ≡ each (λ b. 175 - low b) n x
  less =
      let whole : each (λ b. 175 - low b) n x + each low n x ≡ each (λ b. 175) n x =
      each_sum (λ b. 175 - low b) low (λ b. 175) (λ b h. omega (arith, and_le_r b 127)) n x in
      omega arith

  -- Both sums, and where they differ.
  middles : bit_xor (each low n x + each (λ b. 70) n x) (each low n x + each (λ b. 31) n x) ≡ each middle n x
  unfolding every
  middles = ap₂ bit_xor (more 70) (more 31) ∙ each_xor (λ b. low b + 70) (λ b. low b + 31) (lane_test _ refl) (lane_test _ refl) n x

  -- A sum or a difference.
  outers : bit_or (each low n x + each (λ b. 25) n x) (each (λ b. 175) n x - each low n x) ≡ each outer n x
  unfolding every
  outers = ap₂ bit_or (more 25) less ∙ each_or (λ b. low b + 25) (λ b. 175 - low b) (lane_test _ refl) (lane_test _ refl) n x

  -- All of them with the word itself, and of these the highest bits.
  marks : bit_and (bit_or (bit_or (each middle n x) (each outer n x)) (each (λ b. b) n x)) (each (λ b. 128) n x) ≡ each mark n x
  unfolding every
  marks =
      let both : bit_or (each middle n x) (each outer n x) ≡ each (λ b. bit_or (middle b) (outer b)) n x =
      each_or middle outer (lane_test _ refl) (lane_test _ refl) n x in
      let all : bit_or (each (λ b. bit_or (middle b) (outer b)) n x) (each (λ b. b) n x) ≡ each all_marks n x =
      each_or (λ b. bit_or (middle b) (outer b)) (λ b. b) (lane_test _ refl) (lane_test _ refl) n x in
      rw (both, all) (each_and all_marks (λ b. 128) (lane_test _ refl) (lane_test _ refl) n x)

-- Bytes one after the other are digits where both are.
pub digits_append : (bs cs : List ℕ) → all_digits (bs ++ cs) ≡ (all_digits bs && all_digits cs)
unfolding all_digits
digits_append [] cs = refl
digits_append (b ∷ bs) cs = ap (λ (t : Bool). is_hex_digit b && t) (digits_append bs cs) ∙ sym (and_assoc (is_hex_digit b) (all_digits bs) (all_digits cs))

-- One byte more at the end.
digits_last : (bs : List ℕ) (b : ℕ) → all_digits (bs ++ (b ∷ [])) ≡ (all_digits bs && is_hex_digit b)
unfolding all_digits
digits_last bs b = digits_append bs (b ∷ []) ∙ ap (λ (t : Bool). all_digits bs && t) (and-true (is_hex_digit b))

-- A number is 0 exactly if its low byte and the rest are.
zero_both : (a r : ℕ) → eqb (a * 256 + r) 0 ≡ (eqb a 0 && eqb r 0)
zero_both zero r =
    let e : 0 * 256 + r ≡ r = omega arith in
    ap (λ (k : ℕ). eqb k 0) e
zero_both (suc a) r = rw (eqb-suc-zero a) (ne_eqb (suc a * 256 + r) 0 (λ e. omega arith))

-- No byte has a mark exactly if all are digits.
unmarked : (n x : ℕ) → eqb (each mark n x) 0 ≡ all_digits (word n x)
unfolding each word all_digits
unmarked zero x = refl
unmarked (suc n) x =
    zero_both (each mark n (x / 256)) (mark (x % 256))
    ∙ ap₂ ◌&&◌ (unmarked n (x / 256)) (mark_digit (x % 256) (low_byte x)) ∙ sym (digits_last (word n (x / 256)) (x % 256))

-- ---- the code's word

-- The low seven bits of each byte.
abbrev pub low_bits : ℕ → ℕ
low_bits x = bit_and x 0x7f7f_7f7f_7f7f_7f7f

-- What the code makes of a word x and its low bits y.
abbrev pub marked : ℕ → ℕ → ℕ
marked x y =
    bit_and
    (bit_or
    (bit_or (bit_xor (y + 0x4646_4646_4646_4646) (y + 0x1f1f_1f1f_1f1f_1f1f)) (bit_or (y + 0x1919_1919_1919_1919) (0xafaf_afaf_afaf_afaf - y)))
    x)
    0x8080_8080_8080_8080

-- The word of the code is 0 exactly if all eight bytes are digits.
pub marked_digits : (x : ℕ) → x < 256 ^ 8 → eqb (marked x (low_bits x)) 0 ≡ all_digits (word 8 x)
unfolding each
marked_digits x h =
    let self : each (λ b. b) 8 x ≡ x = each_self 8 x h in
    let y : low_bits x ≡ each low 8 x = ap low_bits (sym self) ∙ lows 8 x in
    ap₂ (λ (v w : ℕ). eqb (marked v w) 0) (sym self) y
    ∙ ap₂ (λ (v w : ℕ). eqb (bit_and (bit_or (bit_or v w) (each (λ b. b) 8 x)) 0x8080_8080_8080_8080) 0) (middles 8 x) (outers 8 x)
    ∙ ap (λ (v : ℕ). eqb v 0) (marks 8 x) ∙ unmarked 8 x
