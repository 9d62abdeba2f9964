-- Entries in rows of 20 bytes, as a hub's state has them. Assumes nothing.
use Rattle.std.specs.Prelude.{ℕ, List}
use Rattle.command.specs.Words.{part, word_at}
use Rattle.command.specs.Command.{command_size, command_of}
use Rattle.command.specs.Entry.{Entry}
use Rattle.rows.specs.Rows.{entry_of, rows_in}

-- The entry of the first row.
abbrev pub row_entry : List ℕ → Entry
row_entry l = entry_of (word_at 0 4 l) (command_of (part 4 command_size l))

-- The entries of the first n rows.
abbrev pub row_entries : ℕ → List ℕ → List Entry
row_entries n l = rows_in entry_of n l
