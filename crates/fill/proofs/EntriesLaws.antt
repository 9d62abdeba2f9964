-- Laws of entries that go from their lines into rows. Assumes nothing.
use Prim.Native.Nat.{ℕ, ◌+◌, ◌≤◌}
use native.Mathlib.Omega.{arith}
use mathlib.Core.Path.{◌≡◌, sym}
use mathlib.Core.List.{List, ◌∷◌}
use lib.ListN.{length}
use lib.Seq.{sets}
use Rattle.kinds.specs.Sizes.{row_size}
use Rattle.command.specs.Entry.{Entry}
use Rattle.rows.specs.Rows.{row, bytes_of}
use Rattle.rows.specs.Words.{command_in, row_words}
use Rattle.rows.proofs.ListLaws.{sets_then}
use Rattle.rows.proofs.RowLaws.{row_bytes_length}
use Rattle.rows.proofs.WordsLaws.{row_words_lem}
use Rattle.state.specs.Image.{log_row}
use Rattle.entries.specs.Found.{entry_of}
use Rattle.entries.specs.declared.Entry.{Entry as Entry-as-told}

-- One entry is in its row; the others go behind it.
pub put_next :
    (l : List ℕ) (to : ℕ) (e : Entry-as-told) (others : List Entry) {all : List Entry} {l' : List ℕ} → all ≡ entry_of e ∷ others
    → e.command.duration ≤ 4_294_967_295 → l' ≡ sets l to (row_words e.term.0 e.command)
    → sets l to (bytes_of log_row all) ≡ sets l' (to + row_size) (bytes_of log_row others)
unfolding bytes_of
put_next l to e others are small wrote =
    let first = row e.term.0 (command_in e.command) in
    let long : length first ≡ row_size = row_bytes_length (record { number = e.term.0; command = command_in e.command }) in
    rw (are, wrote, ← row_words_lem e.term.0 e.command small)
    (sym (sets_then l to (to + row_size) first (bytes_of log_row others) (omega (arith, long))))
