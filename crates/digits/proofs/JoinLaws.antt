-- Eight hex digits, taken for the bytes of one number, are made values all at once by masks, and then joined in pairs, fours and eights:
-- the number comes out whose digits they are, and on the way nothing overflows, whatever the bytes are. Assumes nothing.
use Prim.Native.Nat.{ℕ, ◌+◌, ◌-◌, ◌*◌, ◌/◌, ◌%◌, ◌≤◌, ◌<◌}
use mathlib.Core.List.{[], ◌∷◌}
use mathlib.Core.Path.{◌≡◌, refl, ap, ◌∙◌}
use native.Mathlib.Omega.{arith}
use native.Mathlib.Nat.{zero-add}
use lib.Bits.{bit_and, and_block, and_mask, and_high, and_le_r}
use lib.Arith.{digits_mod}
use lib.Dec.{ltb}
use borrow.Author.Tests.{ltb-true, ltb-false}
use Rattle.command.specs.Words.{word, value}
use Rattle.command.proofs.Tests.{by_test}
use Rattle.text.specs.Hex.{hex_digit, hex}
use Rattle.text.proofs.HexLaws.{digit_low, digit_high}
use Rattle.digits.specs.Digits.{in_digits}

-- ---- the code's four steps

-- The values of eight digits, each in a byte.
abbrev pub values : ℕ → ℕ
values x = bit_and x 0x0f0f_0f0f_0f0f_0f0f + 9 * (bit_and x 0x4040_4040_4040_4040 / 64)

-- The bytes of four pairs of values, each in 16 bits.
abbrev pub pairs : ℕ → ℕ
pairs v = bit_and (v + v / 16) 0x00ff_00ff_00ff_00ff

-- The numbers of two pairs of bytes, each in 32 bits.
abbrev pub fours : ℕ → ℕ
fours p = bit_and (p + p / 256) 0x0000_ffff_0000_ffff

-- The number of those two.
abbrev pub whole : ℕ → ℕ
whole q = (q + q / 65_536) % 4_294_967_296

-- ---- whatever the bytes are, nothing overflows

-- The pairs and their 256th fit 64 bits.
pub pairs_below : (v : ℕ) → pairs v + pairs v / 256 < 18_446_744_073_709_551_616
pairs_below v = omega (arith, and_le_r (v + v / 16) 0x00ff_00ff_00ff_00ff)

-- The fours and their 65,536th fit 64 bits.
pub fours_below : (p : ℕ) → fours p + fours p / 65_536 < 18_446_744_073_709_551_616
fours_below p = omega (arith, and_le_r (p + p / 256) 0x0000_ffff_0000_ffff)

-- ---- digits to values

-- A digit's low four bits, and nine more where it has bit 6, are its value.
digit_value : (n : ℕ) → n < 16 → (hex_digit n < 128) × (hex_digit n % 16 + 9 * (hex_digit n / 64 % 2) ≡ n)
digit_value n h =
    by_test (ltb n 10) (λ t. low (hex_digit n) (ltb-true n 10 t) (digit_low n (ltb-true n 10 t)))
    (λ t. high (hex_digit n) (ltb-false n 10 t) (digit_high n (ltb-false n 10 t)))
  where
    low : (d : ℕ) → n < 10 → d ≡ 48 + n → (d < 128) × (d % 16 + 9 * (d / 64 % 2) ≡ n)
    low d l e =
        let six : d / 64 ≡ 0 = omega arith in
        let four : d % 16 ≡ n = omega arith in
        (omega arith, omega arith)

    high : (d : ℕ) → 10 ≤ n → d ≡ 97 + (n - 10) → (d < 128) × (d % 16 + 9 * (d / 64 % 2) ≡ n)
    high d l e =
        let six : d / 64 ≡ 1 = omega arith in
        let four : d % 16 + 9 ≡ n = omega arith in
        (omega arith, omega arith)

-- The number x of some digits makes the values v by masks of as many bytes, l for the low bits and m for bit 6.
record Read (x l m v : ℕ) : Type 0 where
  letters : ℕ
  highs : bit_and x m ≡ 64 * letters
  sums : bit_and x l + 9 * letters ≡ v

-- No digit.
none : Read 0 0 0 0
none = record { letters = 0; highs = refl; sums = refl }

-- One more digit.
next : {x l m v : ℕ} (n : ℕ) → n < 16 → Read x l m v → Read (x * 256 + hex_digit n) (l * 256 + 15) (m * 256 + 64) (v * 256 + n)
next {x} {l} {m} {v} n h r =
    let d = digit_value n h in
    let low = and_block 8 x l (hex_digit n) 15 (omega arith) (omega arith) in
    let high = and_block 8 x m (hex_digit n) 64 (omega arith) (omega arith) in
    let four = and_mask (hex_digit n) 4 in
    let six = and_high (hex_digit n) 1 6 in
    record {
      letters = r.letters * 256 + hex_digit n / 64 % 2;
      highs = omega arith;
      sums = omega arith;
    }

-- The two digits of one more byte.
next_two : {x l m v : ℕ} (b : ℕ) → b < 256 → Read x l m v →
    Read ((x * 256 + hex_digit (b / 16)) * 256 + hex_digit (b % 16)) ((l * 256 + 15) * 256 + 15) ((m * 256 + 64) * 256 + 64) ((v * 256 + b / 16) * 256 + b % 16)
next_two b h r = next (b % 16) (omega arith) (next (b / 16) (omega arith) r)

-- The values come out as the code takes them.
read : {x l m v : ℕ} → Read x l m v → bit_and x l + 9 * (bit_and x m / 64) ≡ v
read r = omega arith

-- ---- values to bytes, bytes to numbers

-- Of values v that make the bytes p by a mask m of as many lanes: the values of one more byte make it the next lane.
pair_next : (v m p b : ℕ) → b < 256 → bit_and (v + v / 16) m ≡ p →
    bit_and ((v * 256 + b / 16) * 256 + b % 16 + ((v * 256 + b / 16) * 256 + b % 16) / 16) (m * 65_536 + 255) ≡ p * 65_536 + b
pair_next v m p b h e =
    let lane : ℕ = v % 16 * 4_096 + b / 16 * 272 + b % 16 in
    let split : (v * 256 + b / 16) * 256 + b % 16 + ((v * 256 + b / 16) * 256 + b % 16) / 16 ≡ (v + v / 16) * 65_536 + lane = omega arith in
    let lanes = and_block 16 (v + v / 16) m lane 255 (omega arith) (omega arith) in
    let byte = and_mask lane 8 in
    let kept : lane % 256 ≡ b = omega arith in
    rw split (omega arith)

-- Of bytes p that make the numbers q by a mask m of as many lanes: two more bytes make the next lane.
four_next : (p m q a b : ℕ) → a < 256 → b < 256 → bit_and (p + p / 256) m ≡ q →
    bit_and ((p * 65_536 + a) * 65_536 + b + ((p * 65_536 + a) * 65_536 + b) / 256) (m * 4_294_967_296 + 65_535) ≡ q * 4_294_967_296 + (a * 256 + b)
four_next p m q a b h g e =
    let lane : ℕ = p % 256 * 16_777_216 + a * 65_792 + b in
    let split : (p * 65_536 + a) * 65_536 + b + ((p * 65_536 + a) * 65_536 + b) / 256 ≡ (p + p / 256) * 4_294_967_296 + lane = omega arith in
    let lanes = and_block 32 (p + p / 256) m lane 65_535 (omega arith) (omega arith) in
    let number = and_mask lane 16 in
    let kept : lane % 65_536 ≡ a * 256 + b = omega arith in
    rw split (omega arith)

-- Two numbers, joined.
whole_of : (a b : ℕ) → a < 65_536 → b < 65_536 → whole (a * 4_294_967_296 + b) ≡ a * 65_536 + b
whole_of a b h g =
    let sum : a * 4_294_967_296 + b + (a * 4_294_967_296 + b) / 65_536 ≡ a * 4_294_967_296 + (a * 65_536 + b) = omega arith in
    rw sum (digits_mod a (omega arith))

-- ---- four bytes

-- Four bytes as the values of their digits, each in a byte,
unfoldable spread : (a b c d : ℕ) → ℕ
spread a b c d = value 0 (a / 16 ∷ a % 16 ∷ b / 16 ∷ b % 16 ∷ c / 16 ∷ c % 16 ∷ d / 16 ∷ d % 16 ∷ [])

-- and each in 16 bits.
unfoldable apart : (a b c d : ℕ) → ℕ
apart a b c d = (((0 + a) * 65_536 + b) * 65_536 + c) * 65_536 + d

module _ (a b c d : ℕ) (ha : a < 256) (hb : b < 256) (hc : c < 256) (hd : d < 256) where
  -- The digits of four bytes make their values,
  values_of : values (value 0 (hex (a ∷ b ∷ c ∷ d ∷ []))) ≡ spread a b c d
  unfolding spread value hex
  values_of = read (next_two d hd (next_two c hc (next_two b hb (next_two a ha none))))

  -- which make the bytes,
  pairs_of : pairs (spread a b c d) ≡ apart a b c d
  unfolding spread apart value
  pairs_of = pair_next _ _ _ d hd (pair_next _ _ _ c hc (pair_next _ _ _ b hb (pair_next 0 0 0 a ha refl)))

  -- which make two numbers of two bytes,
  fours_of : fours (apart a b c d) ≡ (a * 256 + b) * 4_294_967_296 + (c * 256 + d)
  unfolding apart
  fours_of =
      four_next ((0 + a) * 65_536 + b) 65_535 _ c d hc hd (four_next 0 0 0 a b ha hb refl)
      ∙ ap (λ (n : ℕ). n * 4_294_967_296 + (c * 256 + d)) (zero-add (a * 256 + b))

  -- which make the number of all four.
  bytes_joined : whole (fours (pairs (values (value 0 (hex (a ∷ b ∷ c ∷ d ∷ [])))))) ≡ (a * 256 + b) * 65_536 + (c * 256 + d)
  bytes_joined = rw (values_of, pairs_of, fours_of) (whole_of (a * 256 + b) (c * 256 + d) (omega arith) (omega arith))

-- The digits of a number of four bytes are joined to that number.
pub joined : (w : ℕ) → w < 4_294_967_296 → whole (fours (pairs (values (in_digits 4 w)))) ≡ w
unfolding in_digits word
joined w h =
    bytes_joined (w / 256 / 256 / 256 % 256) (w / 256 / 256 % 256) (w / 256 % 256) (w % 256) (omega arith) (omega arith) (omega arith) (omega arith) ∙ omega arith
