-- Laws of numbers as bytes: a word's bytes give the number back, and bytes below 256 give themselves back, in any count of bytes; and
-- of 32 bits as a signed number, the same both ways, in these definitions and in those of the code's casts. Assumes nothing.
use Prim.Native.Nat.{ℕ, zero, suc, ◌+◌, ◌-◌, ◌*◌, ◌/◌, ◌%◌, ◌^◌, ◌≤◌, ◌<◌}
use native.Mathlib.Omega.{arith}
use native.Mathlib.Nat.{pow-suc, zero-add, add-suc, div-div-eq-div-mul, add-zero, div-add-mod', div-lt_iff_lt-mul, mul-add-div_right, mul-add-mod_self_right, mod-lt, mul-le-mul_right, mul_assoc, pow-succ', lt_of_lt_of_le}
use mathlib.Core.Path.{◌≡◌, refl, sym, ◌∙◌, ap}
use mathlib.Core.List.{List, [], ◌∷◌, ◌++◌, append_assoc, append-nil}
use borrow.Author.Tests.{lt-ltb, le-ltb, ltb-true, ltb-false}
use lib.Dec.{ltb}
use lib.IntN.{ℤ, pos, negsuc}
use lib.Signed.{mag}
use lib.ListN.{length, take, drop, get_or, set, length-append, length-take, length-drop, take-append-drop, get_or-eq_default}
use lib.Seq.{sets, take-suc, get_or-take, get_or-drop, take_at, drop_at, drop-drop, take-take, take_all}
use mir.Syntax.{w32}
use mir.Val.{SFits, of_z, to_z}
use mir.Facts.{to_z-of_z}
use Rattle.command.proofs.Tests.{by_test}
use Rattle.command.specs.Words.{word, value, part, word_at, signed, unsigned}

-- Every element is a byte. (Past the end `get_or` is 0.)
abbrev pub Bytes : List ℕ → Type 0
Bytes l = (i : ℕ) → get_or l i 0 < 256

pub append_bytes : (xs ys : List ℕ) → Bytes xs → Bytes ys → Bytes (xs ++ ys)
append_bytes [] ys hx hy i = hy i
append_bytes (x ∷ xs) ys hx hy zero = hx zero
append_bytes (x ∷ xs) ys hx hy (suc i) = append_bytes xs ys (λ j. hx (suc j)) hy i

one_byte : (b : ℕ) → b < 256 → Bytes (b ∷ [])
one_byte b h zero = h
one_byte b h (suc i) = omega arith

-- ---- bytes of a number, number of bytes

-- A word of w bytes has w bytes.
pub word_length : (w x : ℕ) → length (word w x) ≡ w
unfolding word
word_length zero x = refl
word_length (suc w) x = simp (length-append, word_length w (x / 256)) (omega arith)

pub value_append : (v : ℕ) (xs ys : List ℕ) → value v (xs ++ ys) ≡ value (value v xs) ys
unfolding value
value_append v [] ys = refl
value_append v (x ∷ xs) ys = value_append (v * 256 + x) xs ys

-- A number that fits w bytes is the value of its w bytes.
pub word_value : (w x : ℕ) → x < 256 ^ w → value 0 (word w x) ≡ x
unfolding word value
word_value zero x h = omega arith
word_value (suc w) x h =
    let high : x / 256 < 256 ^ w = (div-lt_iff_lt-mul {k = 256} (omega arith)).1 (rw pow-suc at h) in
    rw (value_append, word_value w (x / 256) high) (div-add-mod' x 256)

value_word_from : (w v : ℕ) (bs : List ℕ) → Bytes bs → word (w + length bs) (value v bs) ≡ word w v ++ bs
unfolding word value
value_word_from w v [] h = simp (add-zero, append-nil)
value_word_from w v (b ∷ bs) h =
    let low : b < 256 = h 0 in
    let e : (v * 256 + b) / 256 ≡ v = omega arith in
    let f : (v * 256 + b) % 256 ≡ b = omega arith in
    let step : w + suc (length bs) ≡ suc w + length bs = omega arith in
    rw (step, value_word_from (suc w) (v * 256 + b) bs (λ i. h (suc i)), e, f) (append_assoc (word w v) (b ∷ []) bs)

-- Bytes are the word of their value.
pub value_word : (bs : List ℕ) → Bytes bs → word (length bs) (value 0 bs) ≡ bs
unfolding word
value_word bs h = rw zero-add at (value_word_from 0 0 bs h)

value_below_from : (v : ℕ) (bs : List ℕ) → Bytes bs → value v bs < suc v * 256 ^ length bs
unfolding value
value_below_from v [] h = omega arith
value_below_from v (b ∷ bs) h =
    let low : b < 256 = h 0 in
    let one_more : suc (v * 256 + b) ≤ suc v * 256 = omega arith in
    let e : suc v * 256 ^ suc (length bs) ≡ suc v * 256 * 256 ^ length bs = rw pow-succ' (sym (mul_assoc (suc v) 256 (256 ^ length bs))) in
    rw e (lt_of_lt_of_le (value_below_from (v * 256 + b) bs (λ i. h (suc i))) (mul-le-mul_right (256 ^ length bs) one_more))

-- The value of n bytes is below 256 ^ n.
pub value_below : (bs : List ℕ) → Bytes bs → value 0 bs < 256 ^ length bs
value_below bs h = omega (arith, value_below_from 0 bs h)

-- ---- words joined

-- Two words side by side are one word.
pub word_join : (v w x y : ℕ) → y < 256 ^ w → word (v + w) (x * 256 ^ w + y) ≡ word v x ++ word w y
unfolding word
word_join v zero x y h =
    let e : x * 1 + y ≡ x = omega arith in
    rw (e, add-zero, append-nil)
word_join v (suc w) x y h =
    let high : y / 256 < 256 ^ w = (div-lt_iff_lt-mul {k = 256} (omega arith)).1 (rw pow-suc at h) in
    let p : x * 256 ^ suc w + y ≡ (x * 256 ^ w) * 256 + y = ap (λ (k : ℕ). k + y) (rw pow-suc (sym (mul_assoc x (256 ^ w) 256))) in
    let q : ((x * 256 ^ w) * 256 + y) / 256 ≡ x * 256 ^ w + y / 256 = mul-add-div_right {m = 256} (omega arith) (x * 256 ^ w) y in
    let r : ((x * 256 ^ w) * 256 + y) % 256 ≡ y % 256 = mul-add-mod_self_right (x * 256 ^ w) 256 y in
    rw (p, add-suc, q, r, word_join v w x (y / 256) high) (append_assoc (word v x) (word w (y / 256)) (y % 256 ∷ []))

-- The four bytes of a number, as code divides it.
pub word_four : (x : ℕ) → word 4 x ≡ x / 16_777_216 % 256 ∷ x / 65_536 % 256 ∷ x / 256 % 256 ∷ x % 256 ∷ []
unfolding word
word_four x = simp div-div-eq-div-mul

-- Every byte of a word is one.
pub word_bytes : (w x : ℕ) → Bytes (word w x)
unfolding word
word_bytes zero x i = omega arith
word_bytes (suc w) x i =
    append_bytes (word w (x / 256)) (x % 256 ∷ []) (word_bytes w (x / 256)) (one_byte (x % 256) (mod-lt x (omega arith))) i

pub word_then_bytes : (w x : ℕ) (ys : List ℕ) → Bytes ys → Bytes (word w x ++ ys)
word_then_bytes w x ys h = append_bytes (word w x) ys (word_bytes w x) h

-- ---- a number at a place

word_at_none : (at : ℕ) (l : List ℕ) → word_at at 0 l ≡ 0
unfolding word_at part value
word_at_none at l = refl

-- One byte more of a number: what code that joins bytes meets.
pub word_at_suc : (at w : ℕ) (l : List ℕ) → at + w < length l → word_at at (suc w) l ≡ word_at at w l * 256 + get_or l (at + w) 0
unfolding word_at part value
word_at_suc at w l h =
    let room : w < length (drop at l) = omega (arith, length-drop at l) in
    rw (take-suc (drop at l) w 0 room, value_append, get_or-drop)

-- A number of two bytes, as code joins them.
pub word_at_two : (at : ℕ) (l : List ℕ) → at + 2 ≤ length l → word_at at 2 l ≡ get_or l at 0 * 256 + get_or l (at + 1) 0
word_at_two at l h =
    let none : word_at at 0 l ≡ 0 = word_at_none at l in
    let first : word_at at 1 l ≡ word_at at 0 l * 256 + get_or l at 0 = rw add-zero at (word_at_suc at 0 l (omega arith)) in
    let second : word_at at 2 l ≡ word_at at 1 l * 256 + get_or l (at + 1) 0 = word_at_suc at 1 l (omega arith) in
    omega arith

-- A number of four bytes, as code joins them.
pub word_at_four : (at : ℕ) (l : List ℕ) → at + 4 ≤ length l →
    word_at at 4 l ≡ get_or l at 0 * 16_777_216 + get_or l (at + 1) 0 * 65_536 + get_or l (at + 2) 0 * 256 + get_or l (at + 3) 0
word_at_four at l h =
    let second = word_at_two at l (omega arith) in
    let third : word_at at 3 l ≡ word_at at 2 l * 256 + get_or l (at + 2) 0 = word_at_suc at 2 l (omega arith) in
    let fourth : word_at at 4 l ≡ word_at at 3 l * 256 + get_or l (at + 3) 0 = word_at_suc at 3 l (omega arith) in
    omega arith

-- A number is made of its first bytes and of those behind them.
pub word_at_add : (at v w : ℕ) (l : List ℕ) → at + (v + w) ≤ length l → word_at at (v + w) l ≡ word_at at v l * 256 ^ w + word_at (at + v) w l
word_at_add at v zero l h =
    let none : word_at (at + v) 0 l ≡ 0 = word_at_none (at + v) l in
    rw (add-zero, none) (omega arith)
word_at_add at v (suc w) l h =
    let here : at + (v + w) < length l = omega arith in
    let more = word_at_suc at (v + w) l here in
    let behind : word_at (at + v) (suc w) l ≡ word_at (at + v) w l * 256 + get_or l (at + v + w) 0 = word_at_suc (at + v) w l (omega arith) in
    let less = word_at_add at v w l (omega arith) in
    let same : at + (v + w) ≡ at + v + w = omega arith in
    rw (add-suc, more, behind, less, same, pow-suc, ← mul_assoc) (omega arith)

-- A number of four bytes is made of two of two bytes.
pub word_at_halves : (at : ℕ) (l : List ℕ) → at + 4 ≤ length l → word_at at 4 l ≡ word_at at 2 l * 65_536 + word_at (at + 2) 2 l
word_at_halves at l h = word_at_add at 2 2 l h

-- The first word of a list.
pub word_at_word : (w x : ℕ) (rest : List ℕ) → x < 256 ^ w → word_at 0 w (word w x ++ rest) ≡ x
unfolding word_at part
word_at_word w x rest h = rw (take_at (word w x) rest w (word_length w x)) (word_value w x h)

-- Behind a word of v bytes the places count from its end.
pub word_at_past : (v y at w : ℕ) (rest : List ℕ) → word_at (v + at) w (word v y ++ rest) ≡ word_at at w rest
unfolding word_at part
word_at_past v y at w rest = rw (← drop-drop at v, drop_at (word v y) rest v (word_length v y))

module _ (at w : ℕ) (l : List ℕ) (fits : at + w ≤ length l) where
  pub part_length : length (part at w l) ≡ w
  unfolding part
  part_length = simp (length-take, length-drop) (omega arith)

  -- The bytes of a part are those of the list.
  pub part_bytes : Bytes l → Bytes (part at w l)
  unfolding part
  part_bytes h i =
      by_test (ltb i w) (λ inside. rw (get_or-take w (drop at l) i 0 (ltb-true _ _ inside), get_or-drop) (h (at + i)))
      (λ past.
      let out : length (part at w l) ≤ i = omega (arith, part_length, ltb-false i w past) in
      rw (get_or-eq_default (part at w l) 0 out) (omega arith))

  -- The word of the number at a place is the bytes there.
  pub word_word_at : Bytes l → word w (word_at at w l) ≡ part at w l
  unfolding word_at
  word_word_at h = rw part_length at (value_word (part at w l) (part_bytes h))

  -- The number in w bytes fits them.
  pub word_at_below : Bytes l → word_at at w l < 256 ^ w
  unfolding word_at
  word_at_below h = rw part_length at (value_below (part at w l) (part_bytes h))

take_drop_take : (i w n : ℕ) (l : List ℕ) → i + w ≤ n → take w (drop i (take n l)) ≡ take w (drop i l)
take_drop_take zero w n l h = take-take w n l (omega arith)
take_drop_take (suc i) w zero l h = absurd (omega arith)
take_drop_take (suc i) w (suc n) [] h = refl
take_drop_take (suc i) w (suc n) (x ∷ l) h = take_drop_take i w n l (omega arith)

-- A number inside a part.
pub word_at_part : (at n i w : ℕ) (l : List ℕ) → i + w ≤ n → word_at i w (part at n l) ≡ word_at (at + i) w l
unfolding word_at part
word_at_part at n i w l h = rw (take_drop_take i w n (drop at l) h, drop-drop)

-- A part, and what follows it.
pub part_then : (at w : ℕ) (l : List ℕ) → part at w l ++ drop (at + w) l ≡ drop at l
unfolding part
part_then at w l = rw (← drop-drop w at) (take-append-drop w (drop at l))

-- The last part of a list.
pub part_last : (at w : ℕ) (l : List ℕ) → length l ≤ at + w → part at w l ≡ drop at l
unfolding part
part_last at w l h = take_all w (drop at l) (rw length-drop (omega arith))

-- A write just behind another is one write.
pub sets_append : (l : List ℕ) (i j : ℕ) (xs ys : List ℕ) → i + length xs ≡ j → sets (sets l i xs) j ys ≡ sets l i (xs ++ ys)
sets_append l i j [] ys h =
    let e : j ≡ i = omega arith in
    ap (λ (k : ℕ). sets l k ys) e
sets_append l i j (x ∷ xs) ys h = sets_append (set l i x) (suc i) j xs ys (omega arith)

-- A word, and a write just behind it.
pub word_then : (l : List ℕ) (i j w x : ℕ) (ys : List ℕ) → i + w ≡ j → sets (sets l i (word w x)) j ys ≡ sets l i (word w x ++ ys)
word_then l i j w x ys h = sets_append l i j (word w x) ys (rw word_length h)

-- ---- 32 bits as a signed number

pub signed_low : (x : ℕ) → x < 2_147_483_648 → signed x ≡ pos x
unfolding signed
signed_low x h = rw (lt-ltb x 2_147_483_648 h, signed)

pub signed_high : (x : ℕ) → 2_147_483_648 ≤ x → signed x ≡ negsuc (4_294_967_295 - x)
unfolding signed
signed_high x h = rw (le-ltb x 2_147_483_648 h, signed)

-- A signed number of 32 bits is that of its bits.
pub signed_unsigned : (d : ℤ) → mag d < 2_147_483_648 → signed (unsigned d) ≡ d
unfolding unsigned
signed_unsigned (pos n) h = signed_low n h
signed_unsigned (negsuc n) h =
    let back : 4_294_967_295 - (4_294_967_295 - n) ≡ n = omega arith in
    rw (signed_high (4_294_967_295 - n) (omega arith), back)

-- 32 bits are those of the signed number that they stand for.
pub unsigned_signed : (x : ℕ) → x ≤ 4_294_967_295 → unsigned (signed x) ≡ x
unfolding unsigned
unsigned_signed x h =
    by_test (ltb x 2_147_483_648) (λ low. rw (signed_low x (ltb-true _ _ low)))
    (λ high.
    let h' : 2_147_483_648 ≤ x = ltb-false _ _ high in
    rw (signed_high x h') (omega arith))

-- The code's casts are these two.
pub to_z_signed : (x : ℕ) → to_z w32 x ≡ signed x
unfolding signed
to_z_signed x =
    by_test (ltb x 2_147_483_648) (λ low. rw low (sym (signed_low x (ltb-true _ _ low))))
    (λ high.
    let e : 4_294_967_296 - suc x ≡ 4_294_967_295 - x = omega arith in
    rw high (ap negsuc e ∙ sym (signed_high x (ltb-false _ _ high))))

-- A number is what the bits that the code casts it to stand for.
pub signed_cast : (d : ℤ) (x : ℕ) → SFits w32 d → x ≡ of_z w32 (to_z w32 (of_z w32 d)) → signed x ≡ d
signed_cast d x fits e =
    let back : to_z w32 (of_z w32 d) ≡ d = to_z-of_z fits in
    ap signed e ∙ sym (to_z_signed (of_z w32 (to_z w32 (of_z w32 d)))) ∙ ap (λ (z : ℤ). to_z w32 (of_z w32 z)) back ∙ back
