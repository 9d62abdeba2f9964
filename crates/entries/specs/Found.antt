-- What the code's answer says of an entry line, and of several, that are looked for in a text s. Assumes nothing.
use Rattle.std.specs.Prelude.{ℕ, ◌+◌, Bool, true, false, List, ◌≡◌, drop, Result, Ok, Err}
use Rattle.text.specs.Reader.{Got, lost, Reader, ◌>>=◌, ◌>>◌, literal, onward, pure}
use Rattle.text.specs.Hex.{hex_bytes}
use Rattle.text.specs.Line.{LF}
use Rattle.text.specs.Found.{Found}
use Rattle.command.specs.Command.{command_size, command_of}
use Rattle.command.specs.Entry.{Entry}
use Rattle.rows.specs.Words.{command_in}
use Rattle.message.specs.Range.{entries_in, legal_only}
use Rattle.begins.specs.Entries.{seek_entries}
use Rattle.seek.specs.Spotted.{Missed}
use Rattle.seek.specs.declared.Wrong.{Wrong}
use Rattle.entries.specs.declared.Entry.{Entry as Entry-as-told}

-- The entry that the code tells, its command by words.
abbrev pub entry_of : Entry-as-told → Entry
entry_of e = record { term = e.term.0; command = command_in e.command }

-- The term of what is found: all that is told of a line that is checked.
abbrev pub term_of : Got Entry → Got ℕ
term_of g = onward g (λ e. pure e.term)

-- What is read behind an entry's term: the digits of a legal command, and the end of the line.
abbrev pub tail_in : ℕ → Reader Entry
tail_in term = do
  bytes ← hex_bytes command_size
  literal LF
  legal_only (record { term = term; command = command_of bytes })

-- Whether that stands at a place, whatever the term: 33 bytes, two for each of the command's and LF.
abbrev pub FoundTail : List ℕ → ℕ → Bool → Type 0
FoundTail s n true = (term : ℕ) → Found s (term_of (tail_in term (drop n s))) term (n + 33)
FoundTail s n false = (term : ℕ) → tail_in term (drop n s) ≡ lost

-- So many entry lines from the place `at` on, their terms in low..high and never falling, up to the place n.
pub record FoundAll (s : List ℕ) (at count low high n : ℕ) : Type 0 where
  pub entries : List Entry
  pub found : Found s (entries_in count low high (drop at s)) entries n

-- They are all there; or one is none, and the place is that of the first wrong byte.
abbrev pub FoundEntries : List ℕ → ℕ → ℕ → ℕ → ℕ → Result ℕ Wrong → Type 0
FoundEntries s at count low high (Ok n) = FoundAll s at count low high n
FoundEntries s at count low high (Err w) = Missed s (entries_in count low high (drop at s)) (seek_entries count low high (drop at s)) w.place
