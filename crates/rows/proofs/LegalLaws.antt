-- Laws of legal rows: rows tested one by one, as the code's loop does it; and legal entries are legal rows that rise. Assumes nothing.
use Prim.Native.Nat.{ℕ, zero, suc, ◌+◌, ◌-◌, ◌*◌, ◌/◌, ◌≤◌, ◌<◌}
use native.Mathlib.Omega.{arith}
use mathlib.Core.Path.{◌≡◌, refl, sym, ◌∙◌, ap}
use mathlib.Core.Bool.{Bool, true, false, cond, ◌&&◌, and_assoc}
use mathlib.Core.List.{List, [], ◌∷◌, ◌++◌, map}
use lib.Dec.{leb}
use Rattle.std.proofs.lemmas.List.{drop-append-le}
use lib.ListN.{length, take, drop, length-append, length-drop, take-append-drop}
use lib.Seq.{length-take-le, drop_at}
use Rattle.kinds.specs.Sizes.{between, row_size}
use Rattle.command.specs.Words.{part, word_at}
use Rattle.command.specs.Command.{command_size, legal_command, command_of}
use Rattle.command.specs.Entry.{Entry, legal_entries}
use Rattle.rows.specs.Rows.{Row, row_of, entry_row, entry_of, rows_in, legal_rows}
use Rattle.kinds.proofs.BoolLaws.{and_fails}
use Rattle.rows.proofs.PartLaws.{part_within, word_at_within}
use Rattle.rows.proofs.RowLaws.{rows_in_map}

-- ---- rows, one by one

-- The rows of a first part that has them all.
rows_within : (n : ℕ) (xs ys : List ℕ) → n * row_size ≤ length xs → rows_in row_of n (xs ++ ys) ≡ rows_in row_of n xs
unfolding rows_in
rows_within zero xs ys h = refl
rows_within (suc n) xs ys h =
    let rest : n * row_size ≤ length (drop row_size xs) = omega (arith, length-drop row_size xs) in
    rw (word_at_within 0 4 xs ys (omega arith), part_within 4 command_size xs ys (omega arith), drop-append-le row_size xs ys (omega arith), rows_within n (drop row_size xs) ys rest)

-- The whole rows of bytes.
abbrev pub whole_rows : List ℕ → List Row
whole_rows l = rows_in row_of (length l / row_size) l

-- So many rows from a place on are the whole rows of their bytes.
pub rows_whole : (from n : ℕ) (l : List ℕ) → from + n * row_size ≤ length l →
    rows_in row_of n (drop from l) ≡ whole_rows (take (from + n * row_size - from) (drop from l))
rows_whole from n l h =
    let size = n * row_size in
    let rest = drop from l in
    let room : size ≤ length rest = omega (arith, length-drop from l) in
    let there : length (take size rest) ≡ size = length-take-le size rest room in
    let all : from + size - from ≡ size = omega arith in
    let many : length (take size rest) / row_size ≡ n = omega (arith, there) in
    rw (all, many, ← rows_within n (take size rest) (drop size rest) (omega (arith, there)), take-append-drop size rest)

-- A row and what is behind it: the row's number t, and whether its command is legal.
module _ (row rest : List ℕ) (t : ℕ) (k : Bool) (full : length row ≡ row_size) (number : t ≡ word_at 0 4 row)
    (command : k ≡ legal_command (command_of (part 4 command_size row))) (rising : Bool) (low high : ℕ) where
  row_step :
      legal_rows rising low high (whole_rows (row ++ rest))
      ≡ (((leb low t && leb t high) && k) && legal_rows rising (cond rising t low) high (whole_rows rest))
  unfolding legal_rows rows_in between
  row_step =
      let more : length (row ++ rest) / row_size ≡ suc (length rest / row_size) = omega (arith, length-append row rest) in
      rw (more, word_at_within 0 4 row rest (omega arith), part_within 4 command_size row rest (omega arith), drop_at row rest row_size full, ← number, ← command)
      (sym (and_assoc (leb low t && leb t high) k _))

  -- A row that is not legal.
  pub row_stops : (l : List ℕ) → l ≡ row ++ rest → ((leb low t && leb t high) && k) ≡ false → legal_rows rising low high (whole_rows l) ≡ false
  row_stops l e h = rw e (row_step ∙ and_fails _ h)

  -- A legal row: the rest decides, from the least number behind it on.
  pub row_goes : (l : List ℕ) (least : ℕ) → l ≡ row ++ rest → least ≡ cond rising t low → ((leb low t && leb t high) && k) ≡ true →
      legal_rows rising low high (whole_rows l) ≡ legal_rows rising least high (whole_rows rest)
  row_goes l least e el h = rw (e, el) (row_step ∙ rw h)

-- No row is left.
pub rows_end : (rising : Bool) (low high : ℕ) (l : List ℕ) → length l < row_size → legal_rows rising low high (whole_rows l) ≡ true
unfolding legal_rows rows_in
rows_end rising low high l h =
    let none : length l / row_size ≡ 0 = omega arith in
    rw none

-- ---- entries

-- Entries are legal exactly if their rows are, and rise.
entries_rows : (low high : ℕ) (es : List Entry) → legal_rows true low high (map entry_row es) ≡ legal_entries low high es
unfolding legal_rows legal_entries
entries_rows low high [] = refl
entries_rows low high (e ∷ es) = rw (entries_rows e.term high es)

-- So are the entries that bytes hold.
pub entries_held : (low high n : ℕ) (l : List ℕ) → legal_rows true low high (rows_in row_of n l) ≡ legal_entries low high (rows_in entry_of n l)
entries_held low high n l =
    ap (legal_rows true low high) (sym (rows_in_map entry_of entry_row n l)) ∙ entries_rows low high (rows_in entry_of n l)
