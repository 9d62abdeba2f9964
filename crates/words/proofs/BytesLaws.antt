-- The library's numbers of bytes and bytes of numbers, both big-endian, are those of `command`; and a part that is replaced is a write. Assumes nothing.
use Prim.Native.Nat.{ℕ, ◌+◌, ◌-◌, ◌*◌, ◌≤◌}
use native.Mathlib.Omega.{arith}
use mathlib.Core.Path.{◌≡◌, sym, ◌∙◌}
use mathlib.Core.List.{List, [], ◌∷◌, append_assoc}
use lib.ListN.{length, take, drop}
use lib.Seq.{sets, sets-eq, drop-drop}
use borrow.Rule.Slice.PartMut.{put_mid}
use mir.Syntax.{w16, w32, w64}
use Rattle.std.specs.Int.{from_be_bytes, to_be_bytes}
use Rattle.command.specs.Words.{word, value, part, word_at}
use Rattle.command.proofs.WordsLaws.{word_length, word_four, part_length}

-- ---- numbers of bytes

value_2 : (bs : List ℕ) → length bs ≡ 2 → from_be_bytes w16 bs ≡ value 0 bs
unfolding value
value_2 (a ∷ b ∷ []) h = omega arith
value_2 [] h = absurd (omega arith)
value_2 (a ∷ []) h = absurd (omega arith)
value_2 (a ∷ b ∷ c ∷ bs) h = absurd (omega arith)

-- Behind a value so far.
value_4 : (v : ℕ) (bs : List ℕ) → length bs ≡ 4 → v * 4_294_967_296 + from_be_bytes w32 bs ≡ value v bs
unfolding value
value_4 v (a ∷ b ∷ c ∷ d ∷ []) h = omega arith
value_4 v [] h = absurd (omega arith)
value_4 v (a ∷ []) h = absurd (omega arith)
value_4 v (a ∷ b ∷ []) h = absurd (omega arith)
value_4 v (a ∷ b ∷ c ∷ []) h = absurd (omega arith)
value_4 v (a ∷ b ∷ c ∷ d ∷ e ∷ bs) h = absurd (omega arith)

value_8 : (bs : List ℕ) → length bs ≡ 8 → from_be_bytes w64 bs ≡ value 0 bs
unfolding value
value_8 (a ∷ b ∷ c ∷ d ∷ bs) h = omega (arith, value_4 (value 0 (a ∷ b ∷ c ∷ d ∷ [])) bs (omega arith))
value_8 [] h = absurd (omega arith)
value_8 (a ∷ []) h = absurd (omega arith)
value_8 (a ∷ b ∷ []) h = absurd (omega arith)
value_8 (a ∷ b ∷ c ∷ []) h = absurd (omega arith)

-- A number of two bytes.
pub word_2 : (at : ℕ) (l : List ℕ) {bs : List ℕ} → at + 2 ≤ length l → bs ≡ part at 2 l → from_be_bytes w16 bs ≡ word_at at 2 l
unfolding word_at
word_2 at l h e = rw e (value_2 (part at 2 l) (part_length at 2 l h))

-- A number of four.
pub word_4 : (at : ℕ) (l : List ℕ) {bs : List ℕ} → at + 4 ≤ length l → bs ≡ part at 4 l → from_be_bytes w32 bs ≡ word_at at 4 l
unfolding word_at
word_4 at l h e = rw (e, ← value_4 0 (part at 4 l) (part_length at 4 l h)) (omega arith)

-- A number of eight.
pub word_8 : (at : ℕ) (l : List ℕ) {bs : List ℕ} → at + 8 ≤ length l → bs ≡ part at 8 l → from_be_bytes w64 bs ≡ word_at at 8 l
unfolding word_at
word_8 at l h e = rw e (value_8 (part at 8 l) (part_length at 8 l h))

-- ---- bytes of a number

-- The bytes of a number in the place of four.
pub word_put : (at x : ℕ) (l : List ℕ) (bs : List ℕ) → at + 4 ≤ length l → bs ≡ to_be_bytes w32 x → put_mid at (at + 4 - at) l bs ≡ sets l at (word 4 x)
word_put at x l bs h e =
    let four : at + 4 - at ≡ 4 = omega arith in
    let same : bs ≡ word 4 x = e ∙ sym (word_four x) in
    let room : at + length (word 4 x) ≤ length l = omega (arith, word_length 4 x, h) in
    rw (same, sets-eq (word 4 x) l at room, word_length 4 x, four, drop-drop 4 at l) (sym (append_assoc (take at l) (word 4 x) (drop (at + 4) l)))
