-- The line `type`: where no name of a type stands, the first wrong byte is the last of those of the names, so their places are joined by `max`. Assumes nothing.
use Rattle.std.specs.Prelude.{Result, Ok, Err, map}
use Rattle.std.specs.List.{fold}
use Prim.Native.Nat.{ℕ, ◌+◌, ◌≤◌, max}
use native.Mathlib.Omega.{arith}
use mathlib.Core.List.{List, [], ◌∷◌, ◌++◌}
use mathlib.Core.Path.{◌≡◌, refl, sym, ◌∙◌, ap}
use lib.Dec.{leb}
use lib.ListN.{length, drop, length-drop}
use borrow.Author.Tests.{leb-true, leb-false}
use Rattle.text.specs.Line.{LF}
use Rattle.text.specs.Reader.{Got, got, lost, literal}
use Rattle.text.proofs.ReaderLaws.{lost_never, onward_got}
use Rattle.command.proofs.Tests.{by_test}
use Rattle.message.specs.Fields.{MessageType}
use Rattle.message.specs.Opening.{type_line}
use Rattle.message.specs.Text.{type=, name, type_among, types}
use Rattle.begins.specs.Seek.{Sought, found, wrong, seek_literal, rest_of}
use Rattle.begins.specs.Types.{later, seek_name, seek_types, seek_type}
use Rattle.begins.proofs.Exact.{exact_literal}
use Rattle.begins.proofs.Seeks.{seeks_literal}
use Rattle.begins.proofs.AgreeLaws.{got_of, agree, wrong_back}
use Rattle.seek.specs.Spotted.{At, SpottedText, Ends, same_bytes}
use Rattle.seek.specs.declared.Wrong.{Wrong}
use Rattle.seek.proofs.LiteralLaws.{literal_ends}
use Rattle.seek.proofs.SoughtLaws.{text_is, text_wrong, wrong_first, found_first, ends_wrong, ends_same, ends_one}

-- ---- one name more

at_place : (s : List ℕ) {n m : ℕ} → n ≡ m → ◌≡◌ {A = Sought MessageType} (wrong (drop n s)) (wrong (drop m s))
at_place s e = ap (λ (n : ℕ). wrong (drop n s)) e

-- Where both are wrong, so is either, at the later place.
later_wrong : (s : List ℕ) {x y : Sought MessageType} {p q : ℕ} → At s x wrong p → At s y wrong q → At s (later x y) wrong (max p q)
unfolding later
later_wrong s {x} {y} {p} {q} v w =
    let P = length-drop p s in
    let Q = length-drop q s in
    let i = v.inside in
    let j = w.inside in
    record {
      inside = omega arith;
      is =
          rw (v.is, w.is)
          (by_test (leb (length (drop p s)) (length (drop q s)))
          (λ t. let h = leb-true (length (drop p s)) (length (drop q s)) t in let m : p ≡ max p q = omega arith in rw t (at_place s m))
          (λ t. let h = leb-false (length (drop p s)) (length (drop q s)) t in let m : q ≡ max p q = omega arith in rw t (at_place s m)));
    }

-- None of these names stands there: not the first, and none of the others.
None-first
    : (t : MessageType) (ts : List MessageType) (s : List ℕ)
    → type_among (t ∷ ts) s ≡ lost
    → (literal (name t ++ LF) s ≡ lost) × (type_among ts s ≡ lost)
unfolding type_among
None-first t ts s e = go (literal (name t ++ LF) s) refl
  where
    go : (g : Got (Unit {0})) → literal (name t ++ LF) s ≡ g → (literal (name t ++ LF) s ≡ lost) × (type_among ts s ≡ lost)
    go (got a r) f = absurd (lost_never (sym (rw (f, type_among) at e)))
    go lost f = (f, rw (f, type_among) at e)

-- ---- the names

-- What the code is told of one name.
pub name_stops : (name s : List ℕ) (at n : ℕ) → at ≤ length s → Ends s (seek_literal name (drop at s)) n → n ≡ at + same_bytes name (drop at s)
name_stops name s at n h e = ends_one e (literal_ends name s at h)

-- The first of the places need not be looked at first.
fold_first : (z x : ℕ) (ys : List ℕ) → fold max (max z x) ys ≡ max x (fold max z ys)
fold_first z x [] = omega arith
fold_first z x (y ∷ ys) = let e : max (max z x) y ≡ max (max z y) x = omega arith in rw e (fold_first (max z y) x ys)

module _ (s : List ℕ) (at : ℕ) (inside : at ≤ length s) where
  -- The place where what stands there stops being the name of a type.
  abbrev stop : MessageType → ℕ
  stop t = at + same_bytes (name t ++ LF) (drop at s)

  -- One name.
  name_wrong : (t : MessageType) → literal (name t ++ LF) (drop at s) ≡ lost → At s (seek_name t (drop at s)) wrong (stop t)
  name_wrong t none =
      let k = name t ++ LF in
      let w = literal_ends k s at inside in
      wrong_first (λ a. found t) (record { inside = w.inside; is = wrong_back (literal k) (seek_literal k) (seeks_literal k) (drop at s) none ∙ ap wrong w.is })

  -- The place of the first wrong byte where none of these names stands. Where there is none to be looked for, it is where one should begin.
  names_wrong
      : (ts : List MessageType)
      → type_among ts (drop at s) ≡ lost
      → At s (seek_types ts (drop at s)) wrong (fold max at (map stop ts))
  unfolding seek_types
  names_wrong [] none = record { inside = inside; is = refl }
  names_wrong (t ∷ ts) none =
      let n = None-first t ts (drop at s) none in
      rw (fold_first at (stop t) (map stop ts)) (later_wrong s (name_wrong t n.0) (names_wrong ts n.1))

  -- The code looks for the six.
  pub six-names
      : (n : ℕ) → n ≡ fold max at (map stop types) → type_among types (drop at s) ≡ lost → Ends s (seek_types types (drop at s)) n
  six-names n e none = rw e (ends_wrong (names_wrong types none))

-- ---- the whole line

module _ (s : List ℕ) (none : type_line s ≡ lost) (x : Result ℕ Wrong) (key : SpottedText s (seek_literal type= (drop 0 s)) x) where
  -- The line has another key.
  pub type_no_key : {w : Wrong} → x ≡ Err w → Ends s (seek_type s) w.place
  unfolding seek_type
  type_no_key e = ends_wrong (wrong_first _ (text_wrong s _ x key e))

  module _ {p : ℕ} (e : x ≡ Ok p) where
    was : At s (seek_literal type= s) (found tt) p
    was = text_is s _ x key e

    -- Behind the key no name stands.
    pub type_no_name : type_among types (drop p s) ≡ lost
    unfolding type_line got_of
    type_no_name =
        let read : literal type= s ≡ got tt (drop p s) = agree (literal type=) s (seek_literal type= s) (exact_literal type= s) ∙ ap got_of was.is in
        sym (onward_got (λ a. type_among types) read) ∙ none

    -- The first wrong byte is that of the names.
    pub type_name : {r : ℕ} → Ends s (seek_types types (drop p s)) r → Ends s (seek_type s) r
    unfolding seek_type
    type_name w = ends_same (ap rest_of (found_first (λ a. seek_types types) was)) w
