-- A command as four words, and a row of the table as five: how the code carries them from bytes to bytes. Assumes nothing.
use Rattle.std.specs.Prelude.{ℕ, zero, suc, ◌+◌, List, ◌++◌}
use Rattle.std.proofs.lemmas.List.Edits.{sets}
use Rattle.command.specs.Words.{word, word_at}
use Rattle.command.specs.Command.{Command}
use Rattle.command.specs.Answers.{of_words}
use Rattle.rows.specs.declared.Words.{Words}
use Rattle.kinds.specs.Sizes.{row_size}

-- The command of four words.
abbrev pub command_in : Words → Command
command_in c = of_words c.what c.duration c.a c.b

-- The words of the 16 bytes from a place on.
unfoldable pub words_at : ℕ → List ℕ → Words
words_at at l =
    record { what = word_at at 4 l; duration = word_at (at + 4) 4 l; a = word_at (at + 8) 4 l; b = word_at (at + 12) 4 l }

-- The bytes of a command, by its words.
unfoldable pub words_bytes : Words → List ℕ
words_bytes c = word 4 c.what ++ (word 4 c.duration ++ (word 4 c.a ++ word 4 c.b))

-- The bytes of a row: its number, and the words of its command.
unfoldable pub row_words : ℕ → Words → List ℕ
row_words n c = word 4 n ++ words_bytes c

-- Bytes with another number in each of n rows from a place on; the rows' commands stay.
unfoldable pub renumbered : List ℕ → ℕ → ℕ → ℕ → List ℕ
renumbered l at zero number = l
renumbered l at (suc n) number = renumbered (sets l at (word 4 number)) (at + row_size) n number
