-- The lines before the entries, put together. Assumes nothing.
use Prim.Native.Nat.{◌≤◌, ℕ}
use lib.ListN.{drop, length}
use mathlib.Core.List.{List}
use mathlib.Core.Path.{◌∙◌, ◌≡◌, ap, sym}
use Rattle.std.specs.Prelude.{Option, Some, None, Result, Ok, Err}
use Rattle.text.proofs.ReaderLaws.{onward_got, onward_lost}
use Rattle.text.specs.Found.{Found}
use Rattle.text.specs.Reader.{got, onward, pure}
use Rattle.message.proofs.RangeLaws.{lines_in_slotted}
use Rattle.message.specs.Answer.{opening_of}
use Rattle.message.specs.Opening.{Opening as Said, opening, type_line}
use Rattle.message.specs.declared.Fields.{Fields}
use Rattle.begins.specs.Types.{seek_type}
use Rattle.begins.specs.Entries.{seek_opening}
use Rattle.begins.proofs.AgreeLaws.{type_wrong, type_right}
use Rattle.seek.specs.Spotted.{Ends, Missed}
use Rattle.seek.specs.declared.Wrong.{Wrong}
use Rattle.lines.proofs.CaseLaws.{kind_bad, kind_is, lines_are, lines_missed}
use Rattle.lines.specs.Found.{all_lines, FoundFields, FoundKind, FoundLines}
use Rattle.lines.specs.declared.Lines.{Lines}
use Rattle.lines.specs.declared.Opening.{Opening}
use Rattle.lines.specs.declared.TypeLine.{TypeLine}
use Rattle.fields.specs.Table.{type_is, fields_by}
use Rattle.fields.proofs.TableLaws.{fields_numbers}

-- ---- all lines

module _ (s : List ℕ) (k : Option TypeLine) (found : FoundKind s (type_line s) k) where
  -- No type: the first wrong byte of its line is that of the opening.
  pub opening_no_type : k ≡ None → {p : ℕ} → Ends s (seek_type s) p → Missed s (opening s) (seek_opening s) p
  unfolding opening
  opening_no_type e ends =
      let none = kind_bad s _ k found e in
      record { refused = onward_lost _ none; ends = record { inside = ends.inside; is = type_wrong s none ∙ ends.is } }

  module _ {l : TypeLine} (e : k ≡ Some l) where
    line : Found s (type_line s) (type_is l.kind) l.next
    line = kind_is s _ k found e

    from_type : opening s ≡ onward (all_lines l.kind (drop l.next s)) (λ ns. pure (record { type = type_is l.kind; numbers = ns }))
    unfolding opening
    from_type = onward_got _ line.read

    -- Its line ends inside the text.
    pub opening_inside : l.next ≤ length s
    opening_inside = line.inside

    module _ (r : Result Lines Wrong) (lines : FoundLines s l.next l.kind r) where
      -- A line is none: its first wrong byte is that of the opening.
      pub opening_few : {w : Wrong} → r ≡ Err w → {o : Result Opening Wrong} → o ≡ Err w → FoundFields s o
      opening_few few is =
          let missed = lines_missed s _ _ r lines few in
          rw is (record {
            refused = from_type ∙ onward_lost _ missed.refused;
            ends = record { inside = missed.ends.inside; is = type_right s line.read ∙ missed.ends.is };
          })

      -- They are all there.
      pub opening_all : {ls : Lines} → r ≡ Ok ls → {f : Fields} → f ≡ fields_by l.kind ls.numbers → Found s (opening s) (opening_of f) ls.next
      opening_all {ls} all {f} is =
          let held = lines_are s _ _ r lines all in
          let o : record { type = type_is l.kind; numbers = ls.numbers } ≡ opening_of f =
          sym (fields_numbers l.kind ls.numbers (lines_in_slotted (type_is l.kind) (drop l.next s) held.read)) ∙ ap opening_of (sym is) in
          record { inside = held.inside; read = from_type ∙ onward_got _ held.read ∙ ap (λ (x : Said). got x (drop ls.next s)) o }
