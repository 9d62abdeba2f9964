-- Laws of commands and rows by their words. Assumes nothing.
use Prim.Native.Nat.{ℕ, suc, ◌+◌, ◌-◌, ◌*◌, ◌/◌, ◌%◌, ◌≤◌, ◌<◌}
use native.Mathlib.Omega.{arith}
use native.Mathlib.Nat.{div-add-mod'}
use mathlib.Core.Path.{◌≡◌, sym, ◌∙◌, ap}
use mathlib.Core.List.{List, ◌++◌, append_assoc}
use lib.ListN.{length}
use lib.Seq.{sets}
use Rattle.kinds.specs.Sizes.{row_size}
use Rattle.command.specs.Words.{word, word_at, part}
use Rattle.command.specs.Command.{command_size, command_bytes, command_of}
use Rattle.command.specs.Answers.{of_words}
use Rattle.command.proofs.WordsLaws.{Bytes, word_join, word_then, word_at_part, part_length, part_bytes, word_at_below, unsigned_signed}
use Rattle.command.proofs.AnswersLaws.{of_words_of}
use Rattle.rows.specs.Rows.{row}
use Rattle.rows.specs.declared.Words.{Words}
use Rattle.rows.specs.Words.{command_in, words_at, words_bytes, row_words, renumbered}

-- The command that 16 bytes hold, by their words.
pub command_in_at : (at : ℕ) (l : List ℕ) → Bytes l → at + 16 ≤ length l → command_in (words_at at l) ≡ command_of (part at command_size l)
unfolding words_at
command_in_at at l o h =
    let p = part at command_size l in
    let in_part : (i : ℕ) → i + 4 ≤ 16 → word_at i 4 p ≡ word_at (at + i) 4 l = λ i f. word_at_part at 16 i 4 l f in
    let first : word_at 0 4 p ≡ word_at at 4 l = rw native.Mathlib.Nat.add-zero at (in_part 0 (omega arith)) in
    rw (← first, ← in_part 4 (omega arith), ← in_part 8 (omega arith), ← in_part 12 (omega arith))
    (of_words_of p (part_length at command_size l h) (part_bytes at command_size l h o))

-- The bytes of a command, by words of 32 bits.
pub command_words : (c : Words) → c.duration ≤ 4_294_967_295 → command_bytes (command_in c) ≡ words_bytes c
unfolding words_bytes command_bytes of_words
command_words c h =
    let w = c.what in
    let halves : word 2 (w / 65_536) ++ word 2 (w % 65_536) ≡ word 4 w =
    sym (word_join 2 2 (w / 65_536) (w % 65_536) (omega arith)) ∙ ap (word 4) (div-add-mod' w 65_536) in
    rw (unsigned_signed c.duration h, ← append_assoc (word 2 (w / 65_536)) (word 2 (w % 65_536)), halves)

-- The bytes of a row, by words of 32 bits.
pub row_words_lem : (n : ℕ) (c : Words) → c.duration ≤ 4_294_967_295 → row n (command_in c) ≡ row_words n c
unfolding row row_words
row_words_lem n c h = rw (command_words c h)

-- The words that stand in bytes have small numbers.
pub duration_below : (at : ℕ) (l : List ℕ) → Bytes l → at + 16 ≤ length l → (words_at at l).duration ≤ 4_294_967_295
unfolding words_at
duration_below at l o h = omega (arith, word_at_below (at + 4) 4 l (omega arith) o)

-- Four words written one after another are a command's bytes.
pub words_written :
    (c : Words) (at : ℕ) (l : List ℕ) {l1 l2 l3 l4 : List ℕ} → l1 ≡ sets l at (word 4 c.what) → l2 ≡ sets l1 (at + 4) (word 4 c.duration)
    → l3 ≡ sets l2 (at + 8) (word 4 c.a) → l4 ≡ sets l3 (at + 12) (word 4 c.b) → l4 ≡ sets l at (words_bytes c)
unfolding words_bytes
words_written c at l e1 e2 e3 e4 =
    rw (e4, e3, e2, e1)
    (rw (word_then _ (at + 8) (at + 12) 4 c.a (word 4 c.b) (omega arith), word_then _ (at + 4) (at + 8) 4 c.duration _ (omega arith), word_then l at (at + 4) 4 c.what _ (omega arith)))

-- A number and a command behind it are a row.
pub row_written :
    (n : ℕ) (c : Words) (at : ℕ) (l : List ℕ) {m : ℕ} {l1 l2 : List ℕ} → m ≡ n → l1 ≡ sets l at (word 4 m) → l2 ≡ sets l1 (at + 4) (words_bytes c)
    → l2 ≡ sets l at (row_words n c)
unfolding row_words
row_written n c at l e e1 e2 = rw (e2, e1, e) (word_then l at (at + 4) 4 n (words_bytes c) (omega arith))

-- ---- rows that take another number

-- The i-th of n rows has its number; one less is left.
pub renumbered_next :
    (l : List ℕ) (from i n t : ℕ) {m : ℕ} {l' : List ℕ} → i < n → m ≡ t → l' ≡ sets l (from + i * row_size) (word 4 m)
    → renumbered l (from + i * row_size) (n - i) t ≡ renumbered l' (from + (i + 1) * row_size) (n - (i + 1)) t
unfolding renumbered
renumbered_next l from i n t h em e =
    let more : n - i ≡ suc (n - (i + 1)) = omega arith in
    let next : from + (i + 1) * row_size ≡ from + i * row_size + row_size = omega arith in
    rw (e, em, more, next)

-- None is left.
pub renumbered_none : (l : List ℕ) (at i n t : ℕ) → n ≤ i → renumbered l at (n - i) t ≡ l
unfolding renumbered
renumbered_none l at i n t h =
    let none : n - i ≡ 0 = omega arith in
    rw none
