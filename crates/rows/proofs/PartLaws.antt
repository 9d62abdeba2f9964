-- Parts of a list and the numbers in them: at the front, past a first part, and back from the numbers to the bytes. Assumes nothing.
use Prim.Native.Nat.{ℕ, suc, ◌+◌, ◌≤◌, ◌<◌}
use native.Mathlib.Omega.{arith}
use native.Mathlib.Nat.{zero-add}
use native.Mathlib.Numerals.{towards_suc}
use mathlib.Core.Path.{◌≡◌, ◌∙◌, ap}
use mathlib.Core.List.{List, [], ◌∷◌, ◌++◌}
use Rattle.std.proofs.lemmas.List.{drop-append-le, take-append-le}
use lib.ListN.{length, take, drop, get_or, length-drop}
use lib.Seq.{take_at, drop-cons, drop-append-add, drop-drop, take-add, get_or-drop}
use Rattle.command.specs.Words.{value, part, word_at}
use Rattle.command.proofs.WordsLaws.{Bytes}

-- ---- what stands in front

-- A first part, read whole.
pub part_front : (xs ys : List ℕ) (w : ℕ) → length xs ≡ w → part 0 w (xs ++ ys) ≡ xs
unfolding part
part_front xs ys w e = take_at xs ys w e

-- A part past a first part.
pub part_behind : (k at w : ℕ) (xs ys : List ℕ) → length xs ≡ k → part (k + at) w (xs ++ ys) ≡ part at w ys
unfolding part
part_behind k at w xs ys e = rw (← e, drop-append-add xs ys at)

-- A number past a first part.
pub word_at_behind : (k at w : ℕ) (xs ys : List ℕ) → length xs ≡ k → word_at (k + at) w (xs ++ ys) ≡ word_at at w ys
unfolding word_at
word_at_behind k at w xs ys e = rw (part_behind k at w xs ys e)

-- A part within a first part.
pub part_within : (at w : ℕ) (xs ys : List ℕ) → at + w ≤ length xs → part at w (xs ++ ys) ≡ part at w xs
unfolding part
part_within at w xs ys h =
    let room : w ≤ length (drop at xs) = omega (arith, length-drop at xs) in
    rw (drop-append-le at xs ys (omega arith)) (take-append-le w (drop at xs) ys room)

-- A number within a first part.
pub word_at_within : (at w : ℕ) (xs ys : List ℕ) → at + w ≤ length xs → word_at at w (xs ++ ys) ≡ word_at at w xs
unfolding word_at
word_at_within at w xs ys h = rw (part_within at w xs ys h)

-- What stands past a first part.
pub drop_behind : (k at : ℕ) (xs ys : List ℕ) → length xs ≡ k → drop (k + at) (xs ++ ys) ≡ drop at ys
drop_behind k at xs ys e = rw (← e, drop-append-add xs ys at)

-- ---- bytes

-- What is left of bytes past a place is bytes.
pub drop_bytes : (k : ℕ) (l : List ℕ) → Bytes l → Bytes (drop k l)
drop_bytes k l o i = rw (get_or-drop k l i 0) (o (k + i))

-- A part in two.
pub part_split : (l : List ℕ) (at m n : ℕ) → part at (m + n) l ≡ part at m l ++ part (at + m) n l
unfolding part
part_split l at m n = take-add m n (drop at l) ∙ ap (λ (r : List ℕ). take m (drop at l) ++ take n r) (drop-drop m at l)

-- A single byte is its own number.
pub word_at_byte : (l : List ℕ) (at : ℕ) → at < length l → word_at at 1 l ≡ get_or l at 0
unfolding word_at part value
word_at_byte l at h = rw (drop-cons l at 0 h) (zero-add (get_or l at 0))

-- A part of one byte.
pub byte_part : (l : List ℕ) (at : ℕ) → at < length l → part at 1 l ≡ word_at at 1 l ∷ []
unfolding part
byte_part l at h = rw (word_at_byte l at h, drop-cons l at 0 h)

-- A number in what is left past a place.
pub word_at_drop : (at w k : ℕ) (l : List ℕ) → word_at at w (drop k l) ≡ word_at (k + at) w l
unfolding word_at part
word_at_drop at w k l = rw (drop-drop at k l)

-- A part of what is left past a place.
pub part_drop : (at w k : ℕ) (l : List ℕ) → part at w (drop k l) ≡ part (k + at) w l
unfolding part
part_drop at w k l = rw (drop-drop at k l)

-- ---- a part for each of the seven hubs

-- Seven bytes, as code reads them.
pub part_seven : (l : List ℕ) (at : ℕ) →
    at + 7 ≤ length l →
    part at 7 l
    ≡ get_or l at 0 ∷ get_or l (at + 1) 0 ∷ get_or l (at + 2) 0 ∷ get_or l (at + 3) 0 ∷ get_or l (at + 4) 0 ∷ get_or l (at + 5) 0 ∷ get_or l (at + 6) 0 ∷ []
unfolding part
part_seven l at h =
    simp towards_suc
    (rw (
      drop-cons l at 0 (omega arith),
      drop-cons l (suc at) 0 (omega arith),
      drop-cons l (suc (suc at)) 0 (omega arith),
      drop-cons l (suc (suc (suc at))) 0 (omega arith),
      drop-cons l (suc (suc (suc (suc at)))) 0 (omega arith),
      drop-cons l (suc (suc (suc (suc (suc at))))) 0 (omega arith),
      drop-cons l (suc (suc (suc (suc (suc (suc at)))))) 0 (omega arith),
    ))
