-- The loop over the table of fields: what holds whenever its test is reached, and one law for each way on from there. Assumes nothing.
use Prim.Native.Nat.{ℕ, suc, ◌+◌, ◌≤◌, ◌<◌}
use native.Mathlib.Numerals.{add-one}
use mathlib.Core.List.{List, [], ◌∷◌, ◌++◌, map}
use mathlib.Core.Path.{◌≡◌, refl, sym, ap, ◌∙◌}
use native.Mathlib.Omega.{arith}
use lib.ListN.{length, take, drop, drop_of_length-le, get_or, set, take-append-drop, length-set}
use lib.Seq.{drop-cons, take-suc}
use Rattle.std.specs.Prelude.{Result, Ok, Err}
use Rattle.std.proofs.lemmas.List.{drop-map, length-map}
use Rattle.text.specs.Range.{line_in}
use Rattle.text.specs.Reader.{got, lost, onward}
use Rattle.text.specs.declared.Number.{Number}
use Rattle.text.proofs.ReaderLaws.{onward_got, onward_lost, onward_same, onward-assoc}
use Rattle.message.specs.Fields.{MessageType, Field as Named, fields, slot, unset, with_number}
use Rattle.message.specs.Range.{range, field_in, lines_in}
use Rattle.message.specs.Text.{key}
use Rattle.begins.specs.Seek.{rest_of}
use Rattle.begins.specs.Lines.{seek_line, seek_field}
use Rattle.begins.proofs.AgreeLaws.{lines_wrong}
use Rattle.seek.specs.Spotted.{ReadNumber}
use Rattle.seek.specs.declared.Wrong.{Wrong}
use Rattle.seek.proofs.SoughtLaws.{read_is, read_wrong}
use Rattle.lines.specs.Found.{all_lines, FoundLines}
use Rattle.lines.specs.declared.Lines.{Lines}
use Rattle.fields.specs.Table.{type_is, field_is}
use Rattle.fields.specs.declared.Field.{Field}
use Rattle.fields.specs.declared.Kind.{Kind}
use Rattle.ranges.specs.Bounds.{range_is}
use Rattle.text.specs.declared.Bounds.{Bounds}

-- ---- lines of two runs of fields

-- One run of lines, then another.
lines_two : (t : MessageType) (fs gs : List Named) (ns s : List ℕ) → lines_in t (fs ++ gs) ns s ≡ onward (lines_in t fs ns s) (lines_in t gs)
unfolding lines_in onward
lines_two t [] gs ns s = refl
lines_two t (f ∷ fs) gs ns s =
    onward_same (field_in t f ns s) (λ n r. lines_two t fs gs (with_number f n ns) r)
    ∙ sym (onward-assoc (field_in t f ns s) (λ n. lines_in t fs (with_number f n ns)) (lines_in t gs))

-- ---- the loop

-- The lines of the first `read` of a type's fields fs were read, up to the place `next`: these are their numbers.
pub record Reading (s : List ℕ) (at : ℕ) (k : Kind) (fs : List Field) (ns : List ℕ) (next read : ℕ) : Type 0 where
  pub inside : next ≤ length s
  pub slots : length ns ≡ 7
  pub all : map field_is fs ≡ fields (type_is k)
  pub so_far : lines_in (type_is k) (take read (fields (type_is k))) unset (drop at s) ≡ got ns (drop next s)

-- At first none was.
pub reading_none : (s : List ℕ) (at : ℕ) (k : Kind) (fs : List Field) → map field_is fs ≡ fields (type_is k) → at ≤ length s → Reading s at k fs unset at 0
unfolding lines_in
reading_none s at k fs all h = record { inside = h; slots = refl; all = all; so_far = refl }

module _ {s : List ℕ} {at : ℕ} {k : Kind} {fs : List Field} {ns : List ℕ} {next read : ℕ} (h : Reading s at k fs ns next read) where
  -- What is read from the first line on is what is read from here on.
  same : all_lines k (drop at s) ≡ lines_in (type_is k) (drop read (fields (type_is k))) ns (drop next s)
  same =
      let all = fields (type_is k) in
      ap (λ (l : List Named). lines_in (type_is k) l unset (drop at s)) (sym (take-append-drop read all))
      ∙ lines_two (type_is k) (take read all) (drop read all) unset (drop at s)
      ∙ onward_got (lines_in (type_is k) (drop read all)) h.so_far

  many : length (fields (type_is k)) ≡ length fs
  many = ap length (sym h.all) ∙ length-map fs field_is

  -- No line is left.
  pub reading_done : length fs ≤ read → FoundLines s at k (Ok (record { numbers = ns; next = next }))
  unfolding lines_in
  reading_done done =
      let none : drop read (fields (type_is k)) ≡ [] =
      drop_of_length-le (fields (type_is k)) {i = read} (omega (arith, done, many)) in
      record { inside = h.inside; read = same ∙ rw none }

  module _
      (more : read < length fs) (d : Field)
      {b : Bounds} (in_range : range_is b ≡ range (type_is k) (field_is (get_or fs read d)) ns)
      (x : Result Number Wrong)
      (found : ReadNumber s (line_in (key (field_is (get_or fs read d))) b.lo b.hi (drop next s)) (seek_line (key (field_is (get_or fs read d))) b.lo b.hi (drop next s)) x)
    where
      abbrev f : Named
      f = field_is (get_or fs read d)

      -- The line of the next field, as the code reads it.
      line : (r : List ℕ) → field_in (type_is k) f ns r ≡ line_in (key f) b.lo b.hi r
      line r = rw (← in_range) refl

      -- The next field is the first of those that are left.
      next_field : drop read (fields (type_is k)) ≡ f ∷ drop (suc read) (fields (type_is k))
      next_field =
          rw (← h.all)
          (drop-map field_is read fs ∙ ap (map field_is) (drop-cons fs read d more) ∙ ap (λ (l : List Named). f ∷ l) (sym (drop-map field_is (suc read) fs)))

      -- The next line is none: its first wrong byte is that of all lines.
      pub reading_stuck : {w : Wrong} → x ≡ Err w → {r : Result Lines Wrong} → r ≡ Err w → FoundLines s at k r
      unfolding lines_in
      reading_stuck e is =
          let missed = read_wrong s _ _ x found e in
          let ends = missed.ends in
          let none : field_in (type_is k) f ns (drop next s) ≡ lost = line (drop next s) ∙ missed.refused in
          let sought : seek_field (type_is k) f ns (drop next s) ≡ seek_line (key f) b.lo b.hi (drop next s) = rw (← in_range) in
          let wrong = lines_wrong (type_is k) read (drop at s) h.so_far next_field none ∙ ap rest_of sought ∙ ends.is in
          rw is (record { refused = same ∙ rw next_field (onward_lost _ none); ends = record { inside = ends.inside; is = wrong } })

      -- The next line was read.
      pub reading_again : {v : Number} {j : ℕ} → x ≡ Ok v → j ≡ slot f → Reading s at k fs (set ns j v.value) v.next (read + 1)
      unfolding lines_in
      reading_again {v} e there =
          let held = read_is s _ _ x found e in
          let all = fields (type_is k) in
          let left : read < length all = omega (arith, more, many) in
          let first = sym (drop-cons all read f left) ∙ next_field in
          let is : get_or all read f ≡ f = cc in
          let one_more : take (suc read) all ≡ take read all ++ (f ∷ []) = take-suc all read f left ∙ ap (λ (x : Named). take read all ++ (x ∷ [])) is in
          record {
            inside = held.inside;
            slots = length-set ns _ _ ∙ h.slots;
            all = h.all;
            so_far =
                rw (add-one, one_more, there)
                (lines_two (type_is k) (take read all) (f ∷ []) unset (drop at s)
                ∙ onward_got _ h.so_far
                ∙ onward_got _ (line (drop next s) ∙ held.read));
          }
