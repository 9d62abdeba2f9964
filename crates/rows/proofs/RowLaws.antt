-- Laws of rows: their bytes, rows that are read back and written, entries as rows. Assumes nothing.
use Prim.Native.Nat.{ℕ, zero, suc, ◌+◌, ◌-◌, ◌*◌, ◌≤◌}
use native.Mathlib.Omega.{arith}
use mathlib.Core.Path.{◌≡◌, refl, ap}
use mathlib.Core.Bool.{Bool, true, ◌&&◌}
use mathlib.Core.List.{List, [], ◌∷◌, ◌++◌, map, append_assoc, append-nil}
use borrow.Author.Tests.{leb-true, le-leb}
use lib.Dec.{leb}
use lib.ListN.{length, take, drop, length-append, length-drop}
use lib.Seq.{take-add, drop-drop}
use Rattle.kinds.specs.Hubs.{all}
use Rattle.kinds.specs.Sizes.{between, term_most, row_size}
use Rattle.command.specs.Words.{word, part, word_at}
use Rattle.command.specs.Command.{Command, command_size, legal_command, command_bytes, command_of}
use Rattle.command.specs.Entry.{Entry, legal_entries}
use Rattle.command.proofs.WordsLaws.{Bytes, word_length, word_at_word, word_word_at, part_length, part_bytes}
use Rattle.command.proofs.CommandLaws.{command_bytes_length, command_of_bytes, command_bytes_of, legal_ranged}
use Rattle.rows.specs.Rows.{Row, row_of, entry_row, entry_of, bytes_of, row, row_bytes, rows_in}
use Rattle.kinds.proofs.BoolLaws.{and_first, and_second, and_both}
use Rattle.rows.proofs.ListLaws.{bytes_of_length}
use Rattle.rows.proofs.PartLaws.{part_front, part_behind, part_split, drop_behind, drop_bytes}

-- ---- rows

-- A row has 20 bytes.
pub row_bytes_length : (r : Row) → length (row_bytes r) ≡ row_size
unfolding row
row_bytes_length r = simp (length-append, word_length, command_bytes_length)

-- Rows have 20 bytes each.
pub rows_length : (rs : List Row) → length (bytes_of row_bytes rs) ≡ length rs * row_size
rows_length rs = bytes_of_length row_bytes row_size row_bytes_length rs

-- A row that its bytes hold: a number of four bytes, and a legal command.
unfoldable pub row_fits : Row → Bool
row_fits r = leb r.number term_most && legal_command r.command

-- The command's bytes of a row, whatever stands behind it.
pub row_part_command : (r : Row) (rest : List ℕ) → part 4 command_size (row_bytes r ++ rest) ≡ command_bytes r.command
unfolding row
row_part_command r rest =
    rw (
      append_assoc (word 4 r.number) (command_bytes r.command) rest,
      part_behind 4 0 command_size (word 4 r.number) (command_bytes r.command ++ rest) (word_length 4 r.number),
    )
    (part_front (command_bytes r.command) rest command_size (command_bytes_length r.command))

module _ (r : Row) (rest : List ℕ) (f : row_fits r ≡ true) where
  -- A row that fits gives back its number.
  pub row_number : word_at 0 4 (row_bytes r ++ rest) ≡ r.number
  unfolding row row_fits
  row_number =
      let fits = leb-true r.number term_most (and_first (leb r.number term_most) (legal_command r.command) f) in
      rw (append_assoc (word 4 r.number) (command_bytes r.command) rest)
      (word_at_word 4 r.number (command_bytes r.command ++ rest) (omega arith))

  row_command : command_of (part 4 command_size (row_bytes r ++ rest)) ≡ r.command
  unfolding row_fits
  row_command =
      let legal = and_second (leb r.number term_most) (legal_command r.command) f in
      rw (row_part_command r rest) (rw append-nil at (command_of_bytes r.command [] (legal_ranged r.command legal)))

module _ {A : Type 0} (make : ℕ → Command → A) where
  -- As many members as rows.
  pub rows_in_length : (n : ℕ) (l : List ℕ) → length (rows_in make n l) ≡ n
  unfolding rows_in
  rows_in_length zero l = refl
  rows_in_length (suc n) l = ap suc (rows_in_length n (drop row_size l))

  -- Members made of rows' members.
  pub rows_in_map : {B : Type 0} (f : A → B) (n : ℕ) (l : List ℕ) → map f (rows_in make n l) ≡ rows_in (λ x c. f (make x c)) n l
  unfolding rows_in
  rows_in_map f zero l = refl
  rows_in_map f (suc n) l = rw (rows_in_map f n (drop row_size l))

  -- What the rows after the first p make.
  pub rows_in_drop : (p n : ℕ) (l : List ℕ) → drop p (rows_in make n l) ≡ rows_in make (n - p) (drop (p * row_size) l)
  unfolding rows_in
  rows_in_drop zero n l =
      let e : n - 0 ≡ n = omega arith in
      rw e
  rows_in_drop (suc p) zero l =
      let e : 0 - suc p ≡ 0 = omega arith in
      rw e
  rows_in_drop (suc p) (suc n) l =
      let e : suc n - suc p ≡ n - p = omega arith in
      let f : suc p * row_size ≡ row_size + p * row_size = omega arith in
      rw (e, f, ← drop-drop (p * row_size) row_size l) (rows_in_drop p n (drop row_size l))

  -- Rows are read back from their bytes, whatever stands behind them.
  pub rows_in_bytes : (rs : List Row) (rest : List ℕ) →
      all row_fits rs ≡ true →
      rows_in make (length rs) (bytes_of row_bytes rs ++ rest) ≡ map (λ r. make r.number r.command) rs
  unfolding rows_in bytes_of all
  rows_in_bytes [] rest f = refl
  rows_in_bytes (r ∷ rs) rest f =
      let more : List ℕ = bytes_of row_bytes rs ++ rest in
      let fits = and_first (row_fits r) (all row_fits rs) f in
      let next = rows_in_bytes rs rest (and_second (row_fits r) (all row_fits rs) f) in
      rw (
        append_assoc (row_bytes r) (bytes_of row_bytes rs) rest,
        row_number r more fits,
        row_command r more fits,
        drop_behind row_size 0 (row_bytes r) more (row_bytes_length r),
        next,
      )

row_part : (l : List ℕ) → Bytes l → row_size ≤ length l → row_bytes (row_of (word_at 0 4 l) (command_of (part 4 command_size l))) ≡ part 0 row_size l
unfolding row
row_part l o h =
    rw (
      part_split l 0 4 command_size,
      word_word_at 0 4 l (omega arith) o,
      command_bytes_of (part 4 command_size l) (part_length 4 command_size l (omega arith)) (part_bytes 4 command_size l (omega arith) o),
    )

-- The rows that bytes hold have those bytes.
pub bytes_rows_in : (n : ℕ) (l : List ℕ) → Bytes l → n * row_size ≤ length l → bytes_of row_bytes (rows_in row_of n l) ≡ take (n * row_size) l
unfolding rows_in bytes_of part
bytes_rows_in zero l o h = refl
bytes_rows_in (suc n) l o h =
    let e : suc n * row_size ≡ row_size + n * row_size = omega arith in
    let d = length-drop row_size l in
    rw (e, take-add row_size (n * row_size) l, row_part l o (omega arith), bytes_rows_in n (drop row_size l) (drop_bytes row_size l o) (omega arith))

-- ---- entries as rows

-- Entries are made again of their rows.
pub entries_back : (es : List Entry) → map (λ r. entry_of r.number r.command) (map entry_row es) ≡ es
entries_back [] = refl
entries_back (e ∷ es) = rw (entries_back es)

-- Legal entries fit their rows.
pub entries_fit : (low high : ℕ) (es : List Entry) → legal_entries low high es ≡ true → high ≤ term_most → all row_fits (map entry_row es) ≡ true
unfolding legal_entries all row_fits between
entries_fit low high [] h m = refl
entries_fit low high (e ∷ es) h m =
    let t = e.term in
    let own = leb low t && leb t high in
    let rest = legal_command e.command && legal_entries t high es in
    let below = leb-true t high (and_second (leb low t) (leb t high) (and_first own rest h)) in
    let later = and_second own rest h in
    and_both
    (and_both (le-leb t term_most (omega arith)) (and_first (legal_command e.command) (legal_entries t high es) later))
    (entries_fit t high es (and_second (legal_command e.command) (legal_entries t high es) later) m)
