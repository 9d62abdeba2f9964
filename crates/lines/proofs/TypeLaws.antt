-- Which type the first line has, from what stands at a place of the text s: the names are tried one after the other. Assumes nothing.
use Prim.Native.Nat.{ℕ, suc, ◌+◌, ◌≤◌, ◌<◌}
use native.Mathlib.Numerals.{add-one}
use mathlib.Core.List.{List, ◌∷◌, ◌++◌, map}
use mathlib.Core.Path.{◌≡◌, ◌∙◌, ap, subst}
use lib.ListN.{length, drop, drop_of_length-le, get_or}
use lib.Seq.{drop-cons}
use Rattle.std.specs.Prelude.{Option, Some, None}
use Rattle.text.specs.Found.{Found, FoundNext}
use Rattle.text.specs.Line.{LF}
use Rattle.text.specs.Reader.{lost, literal}
use Rattle.text.proofs.CaseLaws.{next_at, next_bad}
use Rattle.text.proofs.ReaderLaws.{onward_got, onward_lost}
use Rattle.message.specs.Fields.{MessageType}
use Rattle.message.specs.Opening.{type_line}
use Rattle.message.specs.Text.{type=, name, type_among, types}
use Rattle.fields.specs.Table.{type_is}
use Rattle.fields.specs.declared.Kind.{Kind}
use Rattle.lines.specs.Found.{FoundKind}
use Rattle.lines.specs.declared.TypeLine.{TypeLine}

-- ---- one of several names

-- Only the types from a place of these on are left to be tried.
abbrev pub Left : List ℕ → ℕ → List Kind → ℕ → Type 0
Left s at kinds i = type_among types (drop at s) ≡ type_among (map type_is (drop i kinds)) (drop at s)

module _ (s : List ℕ) (at : ℕ) (kinds : List Kind) (i : ℕ) (left : Left s at kinds i) where
  -- None is.
  pub type_never : length kinds ≤ i → type_among types (drop at s) ≡ lost
  unfolding type_among
  type_never done = left ∙ ap (λ (l : List Kind). type_among (map type_is l) (drop at s)) (drop_of_length-le kinds {i = i} done)

  module _ (more : i < length kinds) (d : Kind) (key : List ℕ) (named : key ≡ name (type_is (get_or kinds i d)) ++ LF)
      (r : Option ℕ) (found : FoundNext s (literal key (drop at s)) r) where
    abbrev t : MessageType
    t = type_is (get_or kinds i d)

    rest : type_among types (drop at s) ≡ type_among (t ∷ map type_is (drop (suc i) kinds)) (drop at s)
    rest = left ∙ ap (λ (l : List Kind). type_among (map type_is l) (drop at s)) (drop-cons kinds i d more)

    tried : FoundNext s (literal (name t ++ LF) (drop at s)) r
    tried = subst (λ (l : List ℕ). FoundNext s (literal l (drop at s)) r) named found

    -- The first of them stands here.
    pub type_here : {n : ℕ} → r ≡ Some n → Found s (type_among types (drop at s)) t n
    unfolding type_among
    type_here {n} e =
        let w : Found s (literal (name t ++ LF) (drop at s)) tt n = next_at s _ r tried n e in
        record { inside = w.inside; read = rest ∙ rw (w.read, type_among) }

    -- It does not.
    pub type_next : r ≡ None → Left s at kinds (i + 1)
    unfolding type_among
    type_next e =
        rest ∙ rw (next_bad s _ r tried e, type_among, add-one)

-- ---- the whole line

module _ (s : List ℕ) (r : Option ℕ) (found : FoundNext s (literal type= (drop 0 s)) r) where
  -- The line has another key.
  pub type_none : r ≡ None → {l : Option TypeLine} → l ≡ None → FoundKind s (type_line s) l
  unfolding type_line
  type_none e is = rw is (onward_lost _ (next_bad s _ r found e))

  module _ (at : ℕ) (e : r ≡ Some at) where
    was : Found s (literal type= s) tt at
    was = next_at s _ r found at e

    -- The name stands inside the text.
    pub type_inside : at ≤ length s
    type_inside = was.inside

    -- The type is that of the name.
    pub type_named : (l : Option TypeLine) → FoundKind s (type_among types (drop at s)) l → FoundKind s (type_line s) l
    unfolding type_line
    type_named l h = rw (onward_got {g = literal type= s} (λ a. type_among types) was.read) h
