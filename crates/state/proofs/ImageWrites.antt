-- What writes make of an image: another head, rows from a place on, zeros from a place on, a row's number; and a restart, from whatever
-- stands in the lost parts. The head apart, the table as one list of rows. Assumes nothing.
use Prim.Native.Nat.{ℕ, ◌+◌, ◌-◌, ◌*◌, ◌≤◌, ◌<◌}
use native.Mathlib.Omega.{arith}
use mathlib.Core.Path.{◌≡◌, refl, sym, ◌∙◌, ap}
use mathlib.Core.Bool.{true}
use mathlib.Core.List.{List, [], ◌++◌, map, append_assoc, append-nil}
use mathlib.Core.Option.{some}
use lib.ListN.{length, take, drop, get_or, replicate, length-append, length-drop, length-map, length-replicate, take-append-drop}
use lib.Seq.{sets, length-take-le}
use Rattle.kinds.specs.Sizes.{limit, row_size}
use Rattle.command.specs.Words.{word, word_at}
use Rattle.command.specs.Command.{command_bytes}
use Rattle.command.proofs.WordsLaws.{Bytes, word_length}
use Rattle.state.specs.State.{Kept, follower, State}
use Rattle.state.specs.Legal.{legal_kept}
use Rattle.rows.specs.Rows.{bytes_of, row, entry_of, Row, row_bytes, entry_row, row_of}
use Rattle.state.specs.Image.{head_size, state_size, voters_of, gathered_of, confirmed_of, image, kept_in, read_kept}
use Rattle.state.specs.Head.{bytes_of_head, head_of}
use Rattle.state.specs.Table.{rows_of, table}
use Rattle.rows.proofs.ListLaws.{sets_skip, sets_front, sets_last}
use Rattle.rows.proofs.PartLaws.{drop_bytes}
use Rattle.state.proofs.HeadLaws.{bytes_of_head_length}
use Rattle.rows.proofs.RowLaws.{rows_length, row_bytes_length, rows_in_length, rows_in_map, bytes_rows_in}
use Rattle.state.proofs.TableLaws.{table_length, table_put, table_clear, table_row}
use Rattle.state.proofs.LegalLaws.{Held, legal_kept_is}
use Rattle.state.proofs.ImageLaws.{image_is, read_kept_sound}

-- ---- the number of a row

-- A number written over a row's makes a row of that number and the same command.
pub row_renumbered : (r : Row) (n : ℕ) (rest : List ℕ) → sets (row_bytes r ++ rest) 0 (word 4 n) ≡ row_bytes (row_of n r.command) ++ rest
unfolding row
row_renumbered r n rest =
    rw (append_assoc (word 4 r.number) (command_bytes r.command) rest, append_assoc (word 4 n) (command_bytes r.command) rest)
    (sets_front (word 4 r.number) (command_bytes r.command ++ rest) (word 4 n) (word_length 4 r.number ∙ sym (word_length 4 n)))

-- So in a table: the number alone is written, and the whole row is what it makes.
pub table_renumbered : (rs : List Row) (i : ℕ) (d : Row) (n : ℕ) →
    i < length rs →
    length rs ≤ limit →
    sets (table rs) (i * row_size) (word 4 n) ≡ sets (table rs) (i * row_size) (row_bytes (row_of n (get_or rs i d).command))
table_renumbered rs i d n h room =
    let at = i * row_size in
    let r = get_or rs i d in
    let before = take at (table rs) in
    let after : List ℕ = drop ((i + 1) * row_size) (table rs) in
    let t = table_length rs room in
    let long : length before ≡ at = length-take-le at (table rs) (omega arith) in
    let rl = row_bytes_length r in
    let nl = row_bytes_length (row_of n r.command) in
    let wl = word_length 4 n in
    let whole : table rs ≡ before ++ (row_bytes r ++ after) = rw (← table_row rs i d h, take-append-drop at (table rs)) in
    let l = length-append (row_bytes r) after in
    rw (
      whole,
      sets_skip before (row_bytes r ++ after) (word 4 n) 0 at (omega arith) (omega arith),
      sets_skip before (row_bytes r ++ after) (row_bytes (row_of n r.command)) 0 at (omega arith) (omega arith),
      row_renumbered r n after,
      sets_front (row_bytes r) after (row_bytes (row_of n r.command)) (omega arith),
    )

-- ---- from one state's image to another's

module _ (s t : State) (h : Held s) (g : Held t) where
  head_was : length (bytes_of_head (head_of s.kept s.lost)) ≡ head_size
  head_was = bytes_of_head_length (head_of s.kept s.lost) h.head.voters h.head.confirmed

  head_is : length (bytes_of_head (head_of t.kept t.lost)) ≡ head_size
  head_is = bytes_of_head_length (head_of t.kept t.lost) g.head.voters g.head.confirmed

  -- A write into the table, then another head: the image of a state whose table is what the write made.
  pub image_written : (at : ℕ) (v : List ℕ) →
      at + length v ≤ limit * row_size →
      sets (table (rows_of s)) at v ≡ table (rows_of t) →
      sets (sets (image s) (head_size + at) v) 0 (bytes_of_head (head_of t.kept t.lost)) ≡ image t
  image_written at v fits e =
      let was = bytes_of_head (head_of s.kept s.lost) in
      let will = bytes_of_head (head_of t.kept t.lost) in
      let l = table_length (rows_of s) h.room in
      let p = head_was in
      let q = head_is in
      rw (image_is s, image_is t, sets_skip was (table (rows_of s)) v at (head_size + at) (omega arith) (omega arith), e)
      (sets_front was (table (rows_of t)) will (p ∙ sym q))

  -- Only the head changes.
  pub image_headed : rows_of t ≡ rows_of s → sets (image s) 0 (bytes_of_head (head_of t.kept t.lost)) ≡ image t
  image_headed e = image_written 0 [] (omega arith) (ap table (sym e))

  -- Rows are written from row i on: entries join the log, or take the place of others.
  pub image_put : (i : ℕ) (new : List Row) →
      i ≤ length (rows_of s) →
      i + length new ≤ limit →
      rows_of t ≡ take i (rows_of s) ++ (new ++ drop (i + length new) (rows_of s)) →
      sets (sets (image s) (head_size + i * row_size) (bytes_of row_bytes new)) 0 (bytes_of_head (head_of t.kept t.lost)) ≡ image t
  image_put i new inside fits e =
      image_written (i * row_size) (bytes_of row_bytes new) (omega (arith, rows_length new))
      (table_put (rows_of s) i inside h.room new fits ∙ ap table (sym e))

  -- The rows from row i on are cleared.
  pub image_clear : (i k : ℕ) →
      i ≤ length (rows_of s) →
      length (rows_of s) ≤ i + k →
      i + k ≤ limit →
      rows_of t ≡ take i (rows_of s) →
      sets (sets (image s) (head_size + i * row_size) (replicate (k * row_size) 0)) 0 (bytes_of_head (head_of t.kept t.lost)) ≡ image t
  image_clear i k inside all fits e =
      image_written (i * row_size) (replicate (k * row_size) 0) (omega (arith, length-replicate {A = ℕ} (k * row_size) 0))
      (table_clear (rows_of s) i inside h.room k all fits ∙ ap table (sym e))

-- ---- a restart

-- The rows of the log that bytes hold are those bytes.
log_bytes : (l : List ℕ) →
    Bytes l →
    head_size + word_at 12 4 l * row_size ≤ length l →
    bytes_of row_bytes (map entry_row (kept_in l).log) ≡ take (length (kept_in l).log * row_size) (drop head_size l)
unfolding kept_in
log_bytes l o h =
    let n = word_at 12 4 l in
    let d = length-drop head_size l in
    rw (rows_in_map entry_of entry_row n (drop head_size l), rows_in_length entry_of n (drop head_size l))
    (bytes_rows_in n (drop head_size l) (drop_bytes head_size l o) (omega arith))

module _ (l : List ℕ) (o : Bytes l) (k : Kept) (e : read_kept l ≡ some k) where
  sound : (k ≡ kept_in l) × (legal_kept k ≡ true) × (length l ≡ state_size)
  sound = read_kept_sound l k e

  count_is : length k.log ≡ word_at 12 4 l
  unfolding kept_in
  count_is = ap (λ (x : Kept). length x.log) sound.0 ∙ rows_in_length entry_of (word_at 12 4 l) (drop head_size l)

  log_is : head_size + length k.log * row_size ≤ length l →
      bytes_of row_bytes (map entry_row k.log) ≡ take (length k.log * row_size) (drop head_size l)
  log_is h =
      let c = count_is in
      rw sound.0 (log_bytes l o (omega arith))

  -- Zeros behind the log, and a follower's head: the image of the follower with the kept parts that bytes hold.
  pub kept_cleared :
      sets (sets l (head_size + length k.log * row_size) (replicate ((limit - length k.log) * row_size) 0)) 0 (bytes_of_head (head_of k follower))
      ≡ image (record { kept = k; lost = follower })
  unfolding state_size rows_of gathered_of table head_of voters_of confirmed_of
  kept_cleared =
      let n = length k.log in
      let within = (legal_kept_is k sound.1).within in
      let long = sound.2 in
      let zeros : List ℕ = replicate ((limit - n) * row_size) 0 in
      let zl = length-replicate {A = ℕ} ((limit - n) * row_size) 0 in
      let head = take head_size l in
      let log = take (n * row_size) (drop head_size l) in
      let hl : length head ≡ head_size = length-take-le head_size l (omega arith) in
      let first : sets l (head_size + n * row_size) zeros ≡ head ++ (log ++ zeros) = sets_last l zeros head_size (n * row_size) (omega arith) in
      let new = bytes_of_head_length (head_of k follower) refl refl in
      rw (
        first,
        image_is (record { kept = k; lost = follower }),
        sets_front head (log ++ zeros) (bytes_of_head (head_of k follower)) (hl ∙ sym new),
        append-nil (map entry_row k.log),
        log_is (omega arith),
        length-map k.log entry_row,
      )
