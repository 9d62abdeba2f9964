-- Laws of the parts of a message's text: that the parts and the entry lines are the whole text, and that there is room for all. Assumes nothing.
use Prim.Native.Nat.{ℕ, ◌*◌, ◌≤◌}
use native.Mathlib.Omega.{arith}
use mathlib.Core.Path.{◌≡◌, refl, sym, ◌∙◌, ap}
use mathlib.Core.List.{List, [], ◌∷◌, ◌++◌, append_assoc}
use lib.ListN.{length}
use Rattle.kinds.specs.Sizes.{row_size}
use Rattle.text.specs.Line.{LF}
use Rattle.text.specs.Wrote.{Wrote}
use Rattle.command.specs.Entry.{Entry}
use Rattle.message.specs.Fields.{
  MessageType,
  type=vote_request,
  type=vote_yes,
  type=vote_no,
  type=append,
  type=append_yes,
  type=append_no,
  term=,
  from=,
  to=,
  own_fields,
  fields,
}
use Rattle.message.specs.Text.{type=, name, lines_text, entries_text, text}
use Rattle.message.specs.Answer.{type_in, own_in, opening_of, many_in, message_by}
use Rattle.span.specs.Span.{span_of}
use Rattle.rows.specs.Rows.{entry_of}
use Rattle.rows.proofs.RowLaws.{rows_in_length}
use Rattle.message.specs.Rows.{row_entries}
use Rattle.message.specs.Write.{message_with, Puts}
use Rattle.message.specs.declared.Fields.{Fields}
use Rattle.span.specs.declared.Span.{Span}
use Rattle.message.proofs.AnswerLaws.{many_in_count, type_of_said, entries_of_said, numbers_message_by}
use Rattle.message.proofs.ReadLaws.{text_most}
use Rattle.output.specs.Added.{Fits, Added}
use Rattle.output.specs.declared.Output.{Output}
use Rattle.output.proofs.AddedLaws.{added_then}
use Rattle.heading.specs.Heading.{type_text, head_text}
use Rattle.writer.specs.Parts.{own_text}

-- ---- the whole text

-- The text of the message of fields with as many entries as they count.
text_of : (f : Fields) (es : List Entry) → length es ≡ many_in f.body
    → text (message_by f es) ≡ type= ++ (name (type_in f.body) ++ (LF ++ (lines_text (fields (type_in f.body)) (opening_of f).numbers ++ entries_text es)))
unfolding text
text_of f es h = rw (type_of_said f.body es, numbers_message_by f es h, entries_of_said f.body es h)

-- A type's own lines have nothing to do with term, from and to.
own_lines : (t : MessageType) (term from to : ℕ) (own : List ℕ)
    → lines_text (own_fields t) (term ∷ from ∷ to ∷ own) ≡ lines_text (own_fields t) (0 ∷ 0 ∷ 0 ∷ own)
unfolding own_fields lines_text
own_lines type=vote_request term from to own = refl
own_lines type=vote_yes term from to own = refl
own_lines type=vote_no term from to own = refl
own_lines type=append term from to own = refl
own_lines type=append_yes term from to own = refl
own_lines type=append_no term from to own = refl

-- The lines of all fields are those of the head and those of the type's own.
lines_split : (t : MessageType) (term from to : ℕ) (own : List ℕ)
    → lines_text (fields t) (term ∷ from ∷ to ∷ own)
    ≡ lines_text (term= ∷ from= ∷ to= ∷ []) (term ∷ from ∷ to ∷ []) ++ lines_text (own_fields t) (0 ∷ 0 ∷ 0 ∷ own)
unfolding fields lines_text
lines_split t term from to own = rw (← own_lines t term from to own) (simp append_assoc)

-- What follows the lines before it: the entry lines, the type's own lines with them, and the head with both.
abbrev pub entry_lines : Fields → List ℕ → List ℕ
entry_lines f rows = entries_text (row_entries (many_in f.body) rows)

abbrev pub from_own : Fields → List ℕ → List ℕ
from_own f rows = own_text f.body ++ entry_lines f rows

abbrev pub from_head : Fields → List ℕ → List ℕ
from_head f rows = head_text f ++ from_own f rows

-- The parts, one behind the other, are the text.
parts_text : (f : Fields) (rows : List ℕ) → text (message_with f rows) ≡ type_text f.body ++ from_head f rows
unfolding message_with type_text head_text own_text
parts_text f rows =
    text_of f (row_entries (many_in f.body) rows) (rows_in_length entry_of (many_in f.body) rows)
    ∙ rw (lines_split (type_in f.body) f.term.0 f.from.0 f.to.0 (own_in f.body)) (simp append_assoc)

-- The count of the span is the count of the fields.
pub span_count : (f : Fields) {s : Span} → s ≡ span_of (opening_of f) → s.count ≡ many_in f.body
unfolding span_of
span_count f e = ap (λ (s : Span). s.count) e ∙ sym (many_in_count f)

-- ---- the parts written

-- There is room for all of them.
pub parts_fit : {l : List ℕ} (o : Output) (f : Fields) (rows : List ℕ) → o.at ≡ 0 → o.bytes.now ≡ l → Puts f rows l → Fits o (type_text f.body ++ from_head f rows)
parts_fit o f rows start bytes puts =
    omega (arith, start, ap length bytes, puts.room, text_most (message_with f rows) puts.legal, ap length (parts_text f rows))

-- There are rows for the entries.
pub rows_there : {l : List ℕ} (f : Fields) (rows : List ℕ) (count : ℕ) → count ≡ many_in f.body → Puts f rows l → count * row_size ≤ length rows
rows_there f rows count e puts = omega (arith, e, puts.held)

-- One behind the other they are the text.
pub all_added :
    {o p q r s : Output} (f : Fields) (rows : List ℕ) (count : ℕ) → count ≡ many_in f.body → Added o (type_text f.body) p → Added p (head_text f) q
    → Added q (own_text f.body) r → Added r (entries_text (row_entries count rows)) s → Added o (text (message_with f rows)) s
all_added f rows count e typed headed owned listed = rw (parts_text f rows, ← e) (added_then typed (added_then headed (added_then owned listed)))

-- So the text stands at the start of the lent bytes.
pub all_written : {o s : Output} {l final vs : List ℕ} {n : ℕ} → Added o vs s → o.at ≡ 0 → o.bytes.now ≡ l → n ≡ s.at → final ≡ s.bytes.now → Wrote l 0 vs n final
all_written {o} {s} {l} {final} {vs} {n} all start bytes end kept =
    record { to = end ∙ all.at ∙ rw start refl; text = kept ∙ all.text ∙ rw (start, bytes) refl }
