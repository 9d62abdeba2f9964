-- Digits that stand in a text: bytes are read exactly where all of their digits are digits, and the numbers that the code takes from the text are those
-- of the bytes' numbers in digits. So are a command's tested, and made words. Assumes nothing.
use Prim.Native.Nat.{ℕ, zero, suc, ◌+◌, ◌*◌, ◌/◌, ◌%◌, ◌^◌, ◌≤◌, ◌<◌}
use native.Mathlib.Omega.{arith}
use native.Mathlib.Nat.{add-zero}
use mathlib.Core.Path.{◌≡◌, refl, sym, ap, ◌∙◌}
use mathlib.Core.Bool.{Bool, true, false, ◌&&◌}
use mathlib.Core.List.{List, [], ◌∷◌, ◌++◌}
use lib.ListN.{length, take, drop, length-append, length-drop}
use lib.Seq.{take_at, take-nil, drop_at, drop-nil, drop-drop}
use Rattle.kinds.specs.Sizes.{between}
use Rattle.kinds.proofs.BoolLaws.{not_both}
use Rattle.text.specs.Reader.{Got, got, lost}
use Rattle.text.specs.Decimal.{is_digit}
use Rattle.text.specs.Hex.{hex_digit, hex, nibble, hex_byte, hex_bytes}
use Rattle.text.proofs.HexLaws.{nibble_digit, nibble_letter, hex_sound, hex_length}
use Rattle.text.proofs.ReaderLaws.{onward_got}
use Rattle.command.specs.Words.{word, value, part, word_at}
use Rattle.command.specs.Command.{legal_command, command_of}
use Rattle.command.proofs.Tests.{by_test, both}
use Rattle.command.proofs.WordsLaws.{Bytes, word_at_part, word_word_at, word_at_below, part_then, part_length}
use Rattle.rows.proofs.PartLaws.{part_split}
use Rattle.rows.specs.Words.{words_at}
use Rattle.digits.specs.Digits.{is_hex_digit, all_digits, in_digits, legal_digits}
use Rattle.digits.specs.Found.{IsWordOf, FoundWords}
use Rattle.digits.specs.Legal.{Tells}
use Rattle.digits.proofs.LaneLaws.{every, every_at}
use Rattle.digits.proofs.MarkLaws.{digits_append}

-- ---- bytes are read where their digits stand

-- The digit of a value is one.
digit_is : (v : ℕ) → v < 16 → is_hex_digit (hex_digit v) ≡ true
unfolding every is_hex_digit hex_digit between
digit_is v l = every_at (λ k. is_hex_digit (hex_digit k)) 16 refl v l

-- The digits of bytes are digits.
hex_digits : (bs : List ℕ) → Bytes bs → all_digits (hex bs) ≡ true
unfolding hex all_digits
hex_digits [] h = refl
hex_digits (b ∷ bs) h =
    let low : b < 256 = h 0 in
    rw (digit_is (b / 16) (omega arith), digit_is (b % 16) (omega arith)) (hex_digits bs (λ i. h (suc i)))

-- What a reader finds, whatever it is.
abbrev Finds : {A : Type 0} → Got A → List ℕ → Type 0
Finds {A} g rest = (a : A) × (g ≡ got a rest)

-- One digit is read,
digit_read : (b : ℕ) (bs : List ℕ) → is_hex_digit b ≡ true → Finds (nibble (b ∷ bs)) bs
unfolding is_hex_digit
digit_read b bs h =
    by_test (is_digit b) (λ d. (_, nibble_digit b bs d))
    (λ d.
    let letter : between 97 102 b ≡ true = rw d at h in
    (_, nibble_letter b bs d letter))

-- two are,
byte_read : (b c : ℕ) (bs : List ℕ) → is_hex_digit b ≡ true → is_hex_digit c ≡ true → Finds (hex_byte (b ∷ c ∷ bs)) bs
unfolding hex_byte
byte_read b c bs h g =
    let high = digit_read b (c ∷ bs) h in
    let low = digit_read c bs g in
    (_, onward_got _ high.1 ∙ onward_got _ low.1)

-- and so are all.
digits_read : (n : ℕ) (cs rest : List ℕ) → length cs ≡ n * 2 → all_digits cs ≡ true → Finds (hex_bytes n (cs ++ rest)) rest
unfolding hex_bytes all_digits
digits_read zero [] rest e h = ([], refl)
digits_read zero (c ∷ cs) rest e h = absurd (omega arith)
digits_read (suc n) [] rest e h = absurd (omega arith)
digits_read (suc n) (b ∷ []) rest e h = absurd (omega arith)
digits_read (suc n) (b ∷ c ∷ cs) rest e h =
    let first = both (is_hex_digit b) (is_hex_digit c && all_digits cs) h in
    let second = both (is_hex_digit c) (all_digits cs) first.1 in
    let byte = byte_read b c (cs ++ rest) first.0 second.0 in
    let others = digits_read n cs rest (omega arith) second.1 in
    (_, onward_got _ byte.1 ∙ onward_got _ others.1)

-- ---- a command's digits in a text

-- The digits of these 16 bytes stand in s from a place on.
pub record Stand (s : List ℕ) (at : ℕ) : Type 0 where
  pub room : at + 32 ≤ length s
  pub bytes : List ℕ
  pub count : length bytes ≡ 16
  pub small : Bytes bytes
  pub text : part at 32 s ≡ hex bytes
  pub read : hex_bytes 16 (drop at s) ≡ got bytes (drop (at + 32) s)

module _ (s : List ℕ) (at : ℕ) where
  -- Bytes that were read stand there.
  pub found_stand : (bs rest : List ℕ) → hex_bytes 16 (drop at s) ≡ got bs rest → Stand s at
  unfolding part
  found_stand bs rest e =
      let f = hex_sound 16 (drop at s) e in
      let long : length (hex bs) ≡ 32 = omega (arith, hex_length bs, f.count) in
      let rest_is : drop (at + 32) s ≡ rest = sym (drop-drop 32 at s) ∙ ap (drop 32) f.split ∙ drop_at (hex bs) rest 32 long in
      record {
        room = omega (arith, ap length f.split, length-drop at s, length-append (hex bs) rest, long);
        bytes = bs;
        count = f.count;
        small = f.bytes;
        text = ap (take 32) f.split ∙ take_at (hex bs) rest 32 long;
        read = rw rest_is e;
      }

  -- What can be read stands there.
  pub read_stand : (hex_bytes 16 (drop at s) ≡ lost → ⊥) → Stand s at
  read_stand h = go (hex_bytes 16 (drop at s)) refl
    where
      go : (g : Got (List ℕ)) → hex_bytes 16 (drop at s) ≡ g → Stand s at
      go (got bs rest) e = found_stand bs rest e
      go lost e = absurd (h e)

  -- Digits stand there,
  digits_stand : at + 32 ≤ length s → all_digits (part at 32 s) ≡ true → Stand s at
  digits_stand room h =
      let f = digits_read 16 (part at 32 s) (drop (at + 32) s) (part_length at 32 s room) h in
      found_stand f.0 (drop (at + 32) s) (rw part_then at f.1)

  -- and where not all are digits, nothing is read.
  digits_lost : all_digits (part at 32 s) ≡ false → hex_bytes 16 (drop at s) ≡ lost
  digits_lost h = go (hex_bytes 16 (drop at s)) refl
    where
      go : (g : Got (List ℕ)) → hex_bytes 16 (drop at s) ≡ g → hex_bytes 16 (drop at s) ≡ lost
      go lost e = e
      go (got bs rest) e =
          let f = found_stand bs rest e in
          absurd (not_both _ (rw f.text (hex_digits f.bytes f.small)) h)

-- ---- numbers in the text

-- Behind the digits of k bytes stand those of the others,
hex_drop : (k : ℕ) (bs : List ℕ) → drop (k * 2) (hex bs) ≡ hex (drop k bs)
unfolding hex
hex_drop zero bs = refl
hex_drop (suc k) [] = drop-nil (suc k * 2)
hex_drop (suc k) (b ∷ bs) =
    let two : suc k * 2 ≡ suc (suc (k * 2)) = omega arith in
    rw two (hex_drop k bs)

-- the first digits are those of the first bytes,
hex_take : (n : ℕ) (bs : List ℕ) → take (n * 2) (hex bs) ≡ hex (take n bs)
unfolding hex
hex_take zero bs = refl
hex_take (suc n) [] = take-nil (suc n * 2)
hex_take (suc n) (b ∷ bs) =
    let two : suc n * 2 ≡ suc (suc (n * 2)) = omega arith in
    rw two (ap (λ (l : List ℕ). hex_digit (b / 16) ∷ hex_digit (b % 16) ∷ l) (hex_take n bs))

-- and so are those between: the number that they make is one of bytes in digits.
hex_number : (k n : ℕ) (bs : List ℕ) → word_at (k * 2) (n * 2) (hex bs) ≡ value 0 (hex (part k n bs))
unfolding word_at part
hex_number k n bs = rw hex_drop (ap (value 0) (hex_take n (drop k bs)))

module _ (s : List ℕ) (at : ℕ) (f : Stand s at) where
  -- The digits of n bytes, taken for one number.
  in_text : (k n : ℕ) → k + n ≤ 16 → word_at (at + k * 2) (n * 2) s ≡ in_digits n (word_at k n f.bytes)
  unfolding in_digits
  in_text k n h =
      let here : word_at (k * 2) (n * 2) (part at 32 s) ≡ word_at (at + k * 2) (n * 2) s = word_at_part at 32 (k * 2) (n * 2) s (omega arith) in
      let digits : word_at (k * 2) (n * 2) (hex f.bytes) ≡ value 0 (hex (part k n f.bytes)) = hex_number k n f.bytes in
      let bytes : word n (word_at k n f.bytes) ≡ part k n f.bytes = word_word_at k n f.bytes (omega (arith, f.count)) f.small in
      sym here ∙ ap (word_at (k * 2) (n * 2)) f.text ∙ digits ∙ ap (λ (l : List ℕ). value 0 (hex l)) (sym bytes)

  -- Such a number fits.
  small_below : (k n : ℕ) → k + n ≤ 16 → word_at k n f.bytes < 256 ^ n
  small_below k n h = word_at_below k n f.bytes (omega (arith, f.count)) f.small

-- ---- tested

-- Where no bytes are read, no legal command's digits stand.
pub legal_lost_lem : (s : List ℕ) → hex_bytes 16 s ≡ lost → legal_digits s ≡ false
unfolding legal_digits
legal_lost_lem s e = simp (e, legal_digits)

-- Where bytes are read, their command decides.
pub legal_got : (s : List ℕ) {bs rest : List ℕ} → hex_bytes 16 s ≡ got bs rest → legal_digits s ≡ legal_command (command_of bs)
unfolding legal_digits
legal_got s e = simp (e, legal_digits)

module _ (s : List ℕ) (at : ℕ) (room : at + 32 ≤ length s) (bytes : Bytes s) where
  -- The 32 bytes are digits where each eight of them are.
  abbrev eights : Bool
  eights =
      all_digits (word 8 (word_at at 8 s)) && all_digits (word 8 (word_at (at + 8) 8 s)) && all_digits (word 8 (word_at (at + 16) 8 s))
      && all_digits (word 8 (word_at (at + 24) 8 s))

  eights_all : all_digits (part at 32 s) ≡ eights
  eights_all =
      rw (
        word_word_at at 8 s (omega arith) bytes,
        word_word_at (at + 8) 8 s (omega arith) bytes,
        word_word_at (at + 16) 8 s (omega arith) bytes,
        word_word_at (at + 24) 8 s (omega arith) bytes,
        part_split s at 24 8,
        part_split s at 16 8,
        part_split s at 8 8,
        digits_append,
        digits_append,
        digits_append,
      )

  module _ (motor kind duration a b : ℕ) (r : Bool) (tells : Tells motor kind duration a b r)
      (em : motor ≡ word_at at 4 s) (ek : kind ≡ word_at (at + 4) 4 s)
      (ed : duration ≡ word_at (at + 8) 8 s) (ea : a ≡ word_at (at + 16) 8 s) (eb : b ≡ word_at (at + 24) 8 s) where
    -- Where the digits of bytes stand, what is told is told of the command of these.
    told_stand : (f : Stand s at) → r ≡ legal_command (command_of f.bytes)
    unfolding command_of
    told_stand f =
        let t = in_text s at f in
        let z = small_below s at f in
        let first : word_at at 4 s ≡ in_digits 2 (word_at 0 2 f.bytes) = rw add-zero at (t 0 2 (omega arith)) in
        tells _ _ _ _ _ (z 0 2 (omega arith)) (z 2 2 (omega arith)) (z 4 4 (omega arith)) (z 8 4 (omega arith)) (z 12 4 (omega arith))
        (em ∙ first) (ek ∙ t 2 2 (omega arith)) (ed ∙ t 4 4 (omega arith)) (ea ∙ t 8 4 (omega arith)) (eb ∙ t 12 4 (omega arith))

    -- All are digits, and a legal command's.
    told : (eights && r) ≡ legal_digits (drop at s)
    told =
        by_test (all_digits (part at 32 s))
        (λ t.
        let f = digits_stand s at room t in
        rw (← eights_all, t) (told_stand f ∙ sym (legal_got (drop at s) f.read)))
        (λ t. rw (← eights_all, t) (sym (legal_lost_lem (drop at s) (digits_lost s at t))))

    -- The same of what the code calls each eight.
    pub told_eights : {what : ℕ} {d1 d2 d3 d4 : Bool} → what ≡ word_at at 8 s → d1 ≡ all_digits (word 8 what) → d2 ≡ all_digits (word 8 duration) →
        d3 ≡ all_digits (word 8 a) → d4 ≡ all_digits (word 8 b) → (d1 && d2 && d3 && d4 && r) ≡ legal_digits (drop at s)
    told_eights ew e1 e2 e3 e4 = rw (e1, e2, e3, e4, ew, ed, ea, eb) told

-- ---- made words

module _ (s : List ℕ) (at : ℕ) (f : Stand s at) where
  -- The word of the eight digits behind those of k bytes.
  word_is : (k x r : ℕ) → k + 4 ≤ 16 → x ≡ word_at (at + k * 2) 8 s → IsWordOf x r → r ≡ word_at k 4 f.bytes
  word_is k x r h e is = is _ (small_below s at f k 4 h) (e ∙ in_text s at f k 4 h)

  -- Four such words are those of the bytes.
  pub words_found : {x y z w what duration a b : ℕ} →
      x ≡ word_at at 8 s → IsWordOf x what →
      y ≡ word_at (at + 8) 8 s → IsWordOf y duration →
      z ≡ word_at (at + 16) 8 s → IsWordOf z a →
      w ≡ word_at (at + 24) 8 s → IsWordOf w b →
      FoundWords s at (record { what = what; duration = duration; a = a; b = b })
  unfolding words_at
  words_found {x} {y} {z} {w} {what} {duration} {a} {b} ex is-what ey is-duration ez is-a ew is_b =
      let first : x ≡ word_at (at + 0) 8 s = rw add-zero ex in
      let e1 : what ≡ word_at 0 4 f.bytes = word_is 0 x what (omega arith) first is-what in
      let e2 : duration ≡ word_at 4 4 f.bytes = word_is 4 y duration (omega arith) ey is-duration in
      let e3 : a ≡ word_at 8 4 f.bytes = word_is 8 z a (omega arith) ez is-a in
      let e4 : b ≡ word_at 12 4 f.bytes = word_is 12 w b (omega arith) ew is_b in
      record {
        bytes = f.bytes;
        found = record { inside = f.room; read = f.read };
        words_are = λ i. record { what = e1 i; duration = e2 i; a = e3 i; b = e4 i };
      }
