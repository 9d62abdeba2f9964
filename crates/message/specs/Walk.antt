-- A walk over entry lines: one at a time, and what all of them say. Assumes nothing.
use Rattle.std.specs.Prelude.{ℕ, true, List, [], ◌≡◌, length}
use Rattle.kinds.specs.Sizes.{term_most}
use Rattle.text.specs.Reader.{got, lost, Reader, ◌>>=◌, ◌>>◌, pure, literal}
use Rattle.text.specs.Hex.{hex_bytes}
use Rattle.text.specs.Line.{LF}
use Rattle.text.specs.Range.{number_in}
use Rattle.command.specs.Command.{command_size, command_of}
use Rattle.command.specs.Entry.{Entry, legal_entries}
use Rattle.message.specs.Text.{entry=, entries_text, entries}

-- An entry whose term lies in low..high, whatever its command. (58 is the colon.)
unfoldable pub entry_line : ℕ → ℕ → Reader Entry
entry_line low high = do
  literal entry=
  term ← number_in low high 58
  bytes ← hex_bytes command_size
  literal LF
  pure (record { term = term; command = command_of bytes })

-- The entries of so many entry lines; none if they do not stand there.
unfoldable pub entries_from : ℕ → List ℕ → List Entry
entries_from n s = elim (entries n s) [ got es rest ↦ es | lost ↦ [] ]

-- So many lines of legal entries stand in s, and nothing else.
pub record Lie (n : ℕ) (s : List ℕ) : Type 0 where
  pub text_is : s ≡ entries_text (entries_from n s)
  pub count_is : length (entries_from n s) ≡ n
  pub legal : legal_entries 1 term_most (entries_from n s) ≡ true
