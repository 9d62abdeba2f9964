-- Bytes are read exactly where their hex digits stand. Assumes nothing.
use Prim.Native.Nat.{ℕ, zero, suc, ◌+◌, ◌-◌, ◌*◌, ◌/◌, ◌%◌, ◌≤◌, ◌<◌}
use mathlib.Core.Bool.{Bool, true, false}
use mathlib.Core.List.{List, [], ◌∷◌, ◌++◌}
use mathlib.Core.Path.{◌≡◌, refl, ap, ap₂, sym, ◌∙◌}
use native.Mathlib.Omega.{arith}
use lib.Dec.{ltb}
use lib.ListN.{length, get_or}
use borrow.Author.Tests.{lt-ltb, le-ltb, ltb-true, ltb-false}
use Rattle.kinds.specs.Sizes.{between}
use Rattle.text.specs.Decimal.{is_digit}
use Rattle.text.specs.Hex.{hex_digit, hex, nibble, hex_byte, hex_bytes}
use Rattle.text.specs.Reader.{got, lost, ◌>>=◌, pure}
use Rattle.kinds.proofs.BetweenLaws.{between_in, between_above, between_true}
use Rattle.text.proofs.ReaderLaws.{got_value, got_rest, got_same, lost_never, onward_got, onward_sound, Reads, Reads-then}

-- Every element is a byte. (Past the end `get_or` finds 0.)
abbrev pub Bytes : List ℕ → Type 0
Bytes l = (i : ℕ) → get_or l i 0 < 256

-- One more byte.
pub bytes_cons : (b : ℕ) (bs : List ℕ) → b < 256 → Bytes bs → Bytes (b ∷ bs)
bytes_cons b bs h g zero = h
bytes_cons b bs h g (suc i) = g i

-- ---- one digit

-- A value below ten.
pub digit_low : (v : ℕ) → v < 10 → hex_digit v ≡ 48 + v
unfolding hex_digit
digit_low v h = simp (lt-ltb v 10 h, hex_digit)

-- A value from ten on.
pub digit_high : (v : ℕ) → 10 ≤ v → hex_digit v ≡ 97 + (v - 10)
unfolding hex_digit
digit_high v h = simp (le-ltb v 10 h, hex_digit)

-- Nothing is no digit.
pub nibble_end : nibble [] ≡ lost
unfolding nibble
nibble_end = refl

module _ (b : ℕ) (bs : List ℕ) where
  -- A digit 0 to 9.
  pub nibble_digit : is_digit b ≡ true → nibble (b ∷ bs) ≡ got (b - 48) bs
  unfolding nibble
  nibble_digit e = simp (e, nibble)

  -- A letter a to f.
  pub nibble_letter : is_digit b ≡ false → between 97 102 b ≡ true → nibble (b ∷ bs) ≡ got (10 + (b - 97)) bs
  unfolding nibble
  nibble_letter e f = simp (e, f, nibble)

  -- Any other byte.
  pub nibble_other : is_digit b ≡ false → between 97 102 b ≡ false → nibble (b ∷ bs) ≡ lost
  unfolding nibble
  nibble_other e f = simp (e, f, nibble)

-- What was written is read back.
pub nibble_written : (v : ℕ) → v < 16 → Reads nibble (hex_digit v ∷ []) v
nibble_written v h rest = go (ltb v 10) refl
  where
    go : (t : Bool) → ltb v 10 ≡ t → nibble (hex_digit v ∷ rest) ≡ got v rest
    go true e =
        let p : v < 10 = ltb-true v 10 e in
        rw (digit_low v p)
        (nibble_digit (48 + v) rest (between_in 48 57 (48 + v) (omega arith) (omega arith)) ∙ ap (λ (n : ℕ). got n rest) (omega arith))
    go false e =
        let p : 10 ≤ v = ltb-false v 10 e in
        rw (digit_high v p)
        (nibble_letter (97 + (v - 10)) rest (between_above 48 57 (97 + (v - 10)) (omega arith)) (between_in 97 102 (97 + (v - 10)) (omega arith) (omega arith))
        ∙ ap (λ (n : ℕ). got n rest) (omega arith))

-- What is read is the one digit of its value, which is below 16.
pub nibble_sound : (s : List ℕ) {v : ℕ} {rest : List ℕ} → nibble s ≡ got v rest → (s ≡ hex_digit v ∷ rest) × (v < 16)
nibble_sound [] e = absurd (lost_never (sym nibble_end ∙ e))
nibble_sound (b ∷ bs) {v} {rest} e = go (is_digit b) refl (between 97 102 b) refl
  where
    one : (w : ℕ) → got w bs ≡ got v rest → b ≡ hex_digit w → w < 16 → (b ∷ bs ≡ hex_digit v ∷ rest) × (v < 16)
    one w f d l =
        (ap₂ (λ (c : ℕ) (r : List ℕ). c ∷ r) (d ∙ ap hex_digit (got_value f)) (got_rest f), omega (arith, got_value f))

    go : (t : Bool) → is_digit b ≡ t → (u : Bool) → between 97 102 b ≡ u → (b ∷ bs ≡ hex_digit v ∷ rest) × (v < 16)
    go true p u q =
        let w : (48 ≤ b) × (b ≤ 57) = between_true 48 57 b p in
        one (b - 48) (sym (nibble_digit b bs p) ∙ e) (sym (digit_low (b - 48) (omega arith) ∙ omega arith)) (omega arith)
    go false p true q =
        let w : (97 ≤ b) × (b ≤ 102) = between_true 97 102 b q in
        one (10 + (b - 97)) (sym (nibble_letter b bs p q) ∙ e) (sym (digit_high (10 + (b - 97)) (omega arith) ∙ omega arith)) (omega arith)
    go false p false q = absurd (lost_never (sym (nibble_other b bs p q) ∙ e))

-- ---- one byte

-- What was written is read back.
pub hex_byte_written : (b : ℕ) → b < 256 → Reads hex_byte (hex_digit (b / 16) ∷ hex_digit (b % 16) ∷ []) b
unfolding hex_byte
hex_byte_written b h =
    Reads-then nibble (λ v. ◌>>=◌ nibble (λ w. pure (v * 16 + w))) (hex_digit (b / 16) ∷ []) (hex_digit (b % 16) ∷ []) (nibble_written (b / 16) (omega arith))
    (Reads-then nibble (λ w. pure (b / 16 * 16 + w)) (hex_digit (b % 16) ∷ []) [] (nibble_written (b % 16) (omega arith)) (λ rest. ap (λ (n : ℕ). got n rest) (omega arith)))

-- What is read is the two digits of its value, which is below 256.
pub hex_byte_sound : (s : List ℕ) {b : ℕ} {rest : List ℕ} → hex_byte s ≡ got b rest → (s ≡ hex_digit (b / 16) ∷ hex_digit (b % 16) ∷ rest) × (b < 256)
unfolding hex_byte
hex_byte_sound s {b} {rest} e =
    let f = onward_sound e in
    let g = onward_sound f.next in
    let high = nibble_sound s f.first in
    let low = nibble_sound f.left g.first in
    let v = got_value g.next in
    let h : f.value ≡ b / 16 = omega arith in
    let l : g.value ≡ b % 16 = omega arith in
    (high.0 ∙ ap₂ (λ (c : ℕ) (r : List ℕ). hex_digit c ∷ r) h (low.0 ∙ ap₂ (λ (c : ℕ) (r : List ℕ). hex_digit c ∷ r) l (got_rest g.next)), omega arith)

-- ---- bytes

-- What was written is read back.
pub hex_written : (bs : List ℕ) → Bytes bs → Reads (hex_bytes (length bs)) (hex bs) bs
unfolding hex_bytes hex
hex_written [] h = λ rest. refl
hex_written (b ∷ bs) h =
    Reads-then hex_byte (λ v. ◌>>=◌ (hex_bytes (length bs)) (λ w. pure (v ∷ w))) (hex_digit (b / 16) ∷ hex_digit (b % 16) ∷ []) (hex bs) (hex_byte_written b (h 0))
    (λ rest. onward_got (λ w. pure (b ∷ w)) (hex_written bs (λ i. h (suc i)) rest))

-- What is read: n bytes, whose digits stand there.
pub record IsHex (n : ℕ) (s bs rest : List ℕ) : Type 0 where
  pub split : s ≡ hex bs ++ rest
  pub count : length bs ≡ n
  pub bytes : Bytes bs

-- One byte, then others.
isHex-cons
    : {n b : ℕ} {s q bs rest : List ℕ}
    → (s ≡ hex_digit (b / 16) ∷ hex_digit (b % 16) ∷ q) × (b < 256)
    → IsHex n q bs rest
    → IsHex (suc n) s (b ∷ bs) rest
unfolding hex
isHex-cons {b = b} {bs = bs} f h =
    record {
      split = f.0 ∙ ap (λ (r : List ℕ). hex_digit (b / 16) ∷ hex_digit (b % 16) ∷ r) h.split;
      count = ap suc h.count;
      bytes = bytes_cons b bs f.1 h.bytes;
    }

-- What is read is the one text of those bytes.
pub hex_sound : (n : ℕ) (s : List ℕ) {bs rest : List ℕ} → hex_bytes n s ≡ got bs rest → IsHex n s bs rest
unfolding hex_bytes hex
hex_sound zero s e = got_same (λ l r. IsHex zero s l r) e (record { split = refl; count = refl; bytes = λ i. omega arith })
hex_sound (suc n) s e =
    let f = onward_sound e in
    let g = onward_sound f.next in
    got_same (λ l r. IsHex (suc n) s l r) g.next
    (isHex-cons (hex_byte_sound s f.first) (hex_sound n f.left g.first))

-- Two digits for each byte.
pub hex_length : (bs : List ℕ) → length (hex bs) ≡ 2 * length bs
unfolding hex
hex_length [] = refl
hex_length (b ∷ bs) = omega (arith, hex_length bs)
