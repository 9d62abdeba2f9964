-- Entry lines written from their rows, one after the other. Assumes nothing.
use Prim.Native.Nat.{◌*◌, ◌+◌, ◌/◌, ◌<◌, ◌≤◌, zero, suc, ℕ}
use lib.ListN.{drop, length, take, length-append, length-drop}
use mathlib.Core.List.{List, [], ◌++◌, ◌∷◌, append_assoc, append-nil}
use mathlib.Core.Path.{◌∙◌, ◌≡◌, ap, ap₂, refl, sym}
use native.Mathlib.Omega.{arith}
use Rattle.std.proofs.lemmas.List.{take-append-drop, take-append-le, drop-append-le, length-take-le}
use Rattle.std.proofs.Math.Seq.{drop-append_seam}
use Rattle.command.proofs.CommandLaws.{command_bytes_of}
use Rattle.command.proofs.WordsLaws.{part_bytes, part_length}
use Rattle.command.specs.Command.{command_bytes, command_of, command_size}
use Rattle.command.specs.Entry.{Entry}
use Rattle.command.specs.Words.{part, value, word_at}
use Rattle.kinds.specs.Sizes.{row_size}
use Rattle.rows.specs.Rows.{rows_in, entry_of}
use Rattle.message.specs.Rows.{row_entries, row_entry}
use Rattle.message.specs.Text.{entries_text, entry_text}
use Rattle.output.specs.Added.{Fits, Added}
use Rattle.output.specs.declared.Output.{Output}
use Rattle.output.proofs.AddedLaws.{added_then, added_none}
use Rattle.text.proofs.HexLaws.{Bytes}

-- A row has its command's bytes.
pub command_held : (row : List ℕ) → Bytes row → length row ≡ row_size → command_bytes (command_of (part 4 command_size row)) ≡ part 4 command_size row
command_held row bytes whole =
    let room : 4 + 16 ≤ length row = omega arith in
    command_bytes_of (part 4 16 row) (part_length 4 16 row room) (part_bytes 4 16 row room bytes)

-- ---- rows with others behind them

part_before : (at w : ℕ) (xs ys : List ℕ) → at + w ≤ length xs → part at w (xs ++ ys) ≡ part at w xs
unfolding part
part_before at w xs ys h =
    rw (drop-append-le at xs ys (omega arith)) (take-append-le w (drop at xs) ys (omega (arith, length-drop at xs)))

-- The entry of the first row.
entry_before : (xs ys : List ℕ) → row_size ≤ length xs → row_entry (xs ++ ys) ≡ row_entry xs
unfolding word_at
entry_before xs ys h =
    ap₂ (λ (n c : List ℕ). entry_of (value 0 n) (command_of c)) (part_before 0 4 xs ys (omega arith)) (part_before 4 16 xs ys (omega arith))

-- The entries of the first rows.
entries_before : (n : ℕ) (xs ys : List ℕ) → n * row_size ≤ length xs → row_entries n (xs ++ ys) ≡ row_entries n xs
unfolding rows_in
entries_before zero xs ys h = refl
entries_before (suc n) xs ys h =
    ap₂ (λ (e : Entry) (es : List Entry). e ∷ es) (entry_before xs ys (omega arith))
    (ap (row_entries n) (drop-append-le row_size xs ys (omega arith)) ∙ entries_before n (drop row_size xs) ys (omega (arith, length-drop row_size xs)))

-- ---- several rows

-- How many rows there are.
abbrev rows_many : List ℕ → ℕ
rows_many rest = length rest / row_size

-- The lines of these rows.
abbrev lines_of : List ℕ → List ℕ
lines_of rest = entries_text (row_entries (rows_many rest) rest)

-- Of the text t, what is written of it; the lines of the rows that are left are the rest, and there is room for them.
pub record Writing (before : Output) (t : List ℕ) (now : Output) (rest : List ℕ) : Type 0 where
  pub done : List ℕ
  pub added : Added before done now
  pub text : t ≡ done ++ lines_of rest
  pub room : Fits now (lines_of rest)

-- At first nothing is.
pub writing_none : {o : Output} (count : ℕ) (rows rest : List ℕ) → count * row_size ≤ length rows → rest ≡ take (count * row_size) rows
    → Fits o (entries_text (row_entries count rows)) → Writing o (entries_text (row_entries count rows)) o rest
writing_none {o} count rows rest h e room =
    let n : rows_many rest ≡ count = omega (arith, ap length e, length-take-le (count * row_size) rows h) in
    let same : row_entries count rows ≡ row_entries count rest =
    ap (row_entries count) (sym (take-append-drop (count * row_size) rows))
    ∙ entries_before count (take (count * row_size) rows) (drop (count * row_size) rows) (omega (arith, length-take-le (count * row_size) rows h))
    ∙ ap (row_entries count) (sym e) in
    let text : entries_text (row_entries count rows) ≡ lines_of rest = rw (same, n) refl in
    record { done = []; added = added_none; text = text; room = omega (arith, room, ap length text) }

module _ {o p : Output} {t rest : List ℕ} (row next : List ℕ) (so_far : Writing o t p rest) (front : rest ≡ row ++ next) (whole : length row ≡ row_size) where
  next_text : lines_of rest ≡ entry_text (row_entry row) ++ lines_of next
  unfolding rows_in entries_text
  next_text =
      let n : rows_many rest ≡ suc (rows_many next) = omega (arith, ap length front, length-append row next) in
      let tail : drop row_size (row ++ next) ≡ next = rw (← whole) (drop-append_seam row next) in
      rw (n, front)
      (ap₂ (λ (e : Entry) (l : List ℕ). entry_text e ++ entries_text (row_entries (rows_many next) l)) (entry_before row next (omega arith)) tail)

  -- There is room for the next row's line.
  pub writing_room : Fits p (entry_text (row_entry row))
  writing_room = omega (arith, so_far.room, ap length next_text, length-append (entry_text (row_entry row)) (lines_of next))

  -- It stands too.
  pub writing_again : {q : Output} → Added p (entry_text (row_entry row)) q → Writing o t q next
  writing_again {q} w =
      record {
        done = so_far.done ++ entry_text (row_entry row);
        added = added_then so_far.added w;
        text = so_far.text ∙ ap (λ (l : List ℕ). so_far.done ++ l) next_text ∙ sym (append_assoc so_far.done (entry_text (row_entry row)) (lines_of next));
        room = omega (arith, so_far.room, ap length next_text, length-append (entry_text (row_entry row)) (lines_of next), w.at, w.kept);
      }

-- All stand.
pub writing_all : {o p : Output} {t rest : List ℕ} → Writing o t p rest → length rest < row_size → Added o t p
unfolding rows_in entries_text
writing_all {o} {p} {t} {rest} so_far short =
    let n : rows_many rest ≡ 0 = omega arith in
    let e : t ≡ so_far.done = so_far.text ∙ ap (λ (k : ℕ). so_far.done ++ entries_text (row_entries k rest)) n ∙ append-nil so_far.done in
    rw e so_far.added
