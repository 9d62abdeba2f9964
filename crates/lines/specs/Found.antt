-- What the code's answers say of what a reader finds in a text s. Assumes nothing.
use Rattle.std.specs.Prelude.{ℕ, List, ◌≡◌, drop, Option, Some, None, Result, Ok, Err}
use Rattle.text.specs.Reader.{Got, lost}
use Rattle.text.specs.Found.{Found}
use Rattle.message.specs.Answer.{opening_of}
use Rattle.message.specs.Fields.{MessageType, fields, unset}
use Rattle.message.specs.Opening.{opening}
use Rattle.message.specs.Range.{lines_in}
use Rattle.begins.specs.Seek.{Sought}
use Rattle.begins.specs.Lines.{seek_lines}
use Rattle.begins.specs.Entries.{seek_opening}
use Rattle.seek.specs.Spotted.{Missed}
use Rattle.seek.specs.declared.Wrong.{Wrong}
use Rattle.fields.specs.Table.{type_is}
use Rattle.fields.specs.declared.Kind.{Kind}
use Rattle.lines.specs.declared.Lines.{Lines}
use Rattle.lines.specs.declared.Opening.{Opening}
use Rattle.lines.specs.declared.TypeLine.{TypeLine}

-- A type.
abbrev pub FoundKind : List ℕ → Got MessageType → Option TypeLine → Type 0
FoundKind s g (Some l) = Found s g (type_is l.kind) l.next
FoundKind s g None = g ≡ lost

-- A type and all numbers.
abbrev pub FoundFields : List ℕ → Result Opening Wrong → Type 0
FoundFields s (Ok o) = Found s (opening s) (opening_of o.fields) o.next
FoundFields s (Err w) = Missed s (opening s) (seek_opening s) w.place

-- What is read, and what is sought, from the first line of a type on.
abbrev pub all_lines : Kind → List ℕ → Got (List ℕ)
all_lines k = lines_in (type_is k) (fields (type_is k)) unset

abbrev pub all_sought : Kind → List ℕ → Sought (List ℕ)
all_sought k = seek_lines (type_is k) (fields (type_is k)) unset

-- The lines of a type from the place `at` on: all are there, with these numbers; or one is none.
abbrev pub FoundLines : List ℕ → ℕ → Kind → Result Lines Wrong → Type 0
FoundLines s at k (Ok l) = Found s (all_lines k (drop at s)) l.numbers l.next
FoundLines s at k (Err w) = Missed s (all_lines k (drop at s)) (all_sought k (drop at s)) w.place
