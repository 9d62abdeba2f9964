-- What an answer says once its case is known. Assumes nothing.
use Prim.Native.Nat.{ℕ}
use mathlib.Core.List.{List}
use mathlib.Core.Path.{◌≡◌, subst}
use lib.ListN.{drop}
use Rattle.std.specs.Prelude.{Option, Some, None, Result, Ok, Err}
use Rattle.text.specs.Found.{Found}
use Rattle.text.specs.Reader.{Got, lost}
use Rattle.message.specs.Answer.{opening_of}
use Rattle.message.specs.Fields.{MessageType}
use Rattle.message.specs.Opening.{opening}
use Rattle.begins.specs.Entries.{seek_opening}
use Rattle.seek.specs.Spotted.{Missed}
use Rattle.seek.specs.declared.Wrong.{Wrong}
use Rattle.lines.specs.Found.{all_lines, all_sought, FoundFields, FoundKind, FoundLines}
use Rattle.fields.specs.Table.{type_is}
use Rattle.fields.specs.declared.Kind.{Kind}
use Rattle.lines.specs.declared.Lines.{Lines}
use Rattle.lines.specs.declared.Opening.{Opening}
use Rattle.lines.specs.declared.TypeLine.{TypeLine}

-- A type.
module _ (s : List ℕ) (g : Got MessageType) (r : Option TypeLine) (found : FoundKind s g r) where
  -- It was found.
  pub kind_is : {l : TypeLine} → r ≡ Some l → Found s g (type_is l.kind) l.next
  kind_is e = subst (λ (x : Option TypeLine). FoundKind s g x) e found

  -- There is none.
  pub kind_bad : r ≡ None → g ≡ lost
  kind_bad e = subst (λ (x : Option TypeLine). FoundKind s g x) e found

-- The lines of its fields.
module _ (s : List ℕ) (at : ℕ) (k : Kind) (r : Result Lines Wrong) (found : FoundLines s at k r) where
  -- They were found.
  pub lines_are : {l : Lines} → r ≡ Ok l → Found s (all_lines k (drop at s)) l.numbers l.next
  lines_are e = subst (λ (x : Result Lines Wrong). FoundLines s at k x) e found

  -- A line is none.
  pub lines_missed : {w : Wrong} → r ≡ Err w → Missed s (all_lines k (drop at s)) (all_sought k (drop at s)) w.place
  lines_missed e = subst (λ (x : Result Lines Wrong). FoundLines s at k x) e found

-- All fields.
module _ (s : List ℕ) (r : Result Opening Wrong) (found : FoundFields s r) where
  -- They were found.
  pub fields_are : {o : Opening} → r ≡ Ok o → Found s (opening s) (opening_of o.fields) o.next
  fields_are e = subst (λ (x : Result Opening Wrong). FoundFields s x) e found

  -- A line is none.
  pub fields_missed : {w : Wrong} → r ≡ Err w → Missed s (opening s) (seek_opening s) w.place
  fields_missed e = subst (λ (x : Result Opening Wrong). FoundFields s x) e found
