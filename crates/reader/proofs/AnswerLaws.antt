-- The reader's answer: one law for each answer of the code. Assumes nothing.
use Prim.Native.Nat.{◌-◌, ◌<◌, ◌≤◌, ℕ}
use borrow.Author.Tests.{le-leb, lt-leb}
use lib.ListN.{drop, drop_of_length-le, length, length-drop}
use lib.Seq.{drop-cons}
use mathlib.Core.List.{List, [], append-nil}
use mathlib.Core.Option.{Option, none, some}
use mathlib.Core.Path.{◌∙◌, ◌≡◌, ap, ap₂, refl, subst, sym}
use native.Mathlib.Omega.{arith}
use Rattle.kinds.specs.Packed.{places_room}
use Rattle.kinds.specs.Sizes.{text_room}
use Rattle.kinds.proofs.SizesLaws.{room_placed}
use Rattle.text.specs.Place.{IsPlace}
use Rattle.text.specs.Reader.{got, lost, onward, pure, whole}
use Rattle.text.proofs.ReaderLaws.{onward_got, onward_lost, onward_sound, whole_got}
use Rattle.command.specs.Entry.{Entry, legal_entries}
use Rattle.message.specs.Answer.{many_in, message_by, opening_of}
use Rattle.message.specs.Fields.{count_in, message_of}
use Rattle.message.specs.Message.{entries_of, Message as Said}
use Rattle.message.specs.Place.{BeginsMessage, RefusedAt}
use Rattle.message.specs.Range.{entries_in, high_in, low_in, message_in}
use Rattle.message.specs.Text.{entries, entries_text, part_from, part_to, read}
use Rattle.message.specs.declared.Fields.{Fields}
use Rattle.message.proofs.AnswerLaws.{entries_of_said, fields_back, many_in_count, message_by_numbers}
use Rattle.message.proofs.PlaceLaws.{no_place, place_with_one, refused_within, with_place}
use Rattle.message.proofs.RangeLaws.{entries_in_is, kept, message_in_whole}
use Rattle.message.proofs.TextLaws.{entries_sound}
use Rattle.begins.specs.Seek.{place_of, rest_of}
use Rattle.begins.specs.Entries.{seek_after, seek_entries, seek_message}
use Rattle.begins.proofs.AgreeLaws.{message_more, opening_right, opening_wrong}
use Rattle.begins.proofs.MeaningLaws.{message_place}
use Rattle.begins.proofs.MessageLaws.{entries_after, message_in_opening, opening_open}
use Rattle.std.specs.Prelude.{Result, Ok, Err}
use Rattle.text.specs.Found.{Found}
use Rattle.message.specs.Opening.{opening}
use Rattle.seek.specs.Spotted.{Missed}
use Rattle.seek.specs.declared.Wrong.{Wrong}
use Rattle.lines.specs.Found.{FoundFields}
use Rattle.lines.specs.declared.Opening.{Opening}
use Rattle.lines.proofs.CaseLaws.{fields_are, fields_missed}
use Rattle.entries.specs.Found.{FoundAll, FoundEntries}
use Rattle.span.specs.Span.{span_of}
use Rattle.span.specs.declared.Span.{Span}
use Rattle.reader.specs.Answer.{outcome_of, read_as, read_outcome, Reads}
use Rattle.reader.specs.declared.Read.{Read}

-- ---- the entries of what was read

-- Entries that are read by ranges are entries.
entries_plain : (n low high : ℕ) (s : List ℕ) {es : List Entry} {rest : List ℕ} → entries_in n low high s ≡ got es rest → entries n s ≡ got es rest
entries_plain n low high s e =
    let w = onward_sound (sym (entries_in_is n low high s) ∙ e) in
    w.first ∙ kept (legal_entries low high w.value) w.value w.left w.next

-- What is not 0 is more.
positive : (n : ℕ) → (n ≡ 0 → ⊥) → 0 < n
positive n other = omega (arith, other)

-- None is read where none is counted.
pub none_follow : (s : List ℕ) (n low high : ℕ) {count : ℕ} → n ≤ length s → count ≡ 0 → FoundAll s n count low high n
unfolding entries_in
none_follow s n low high h e = rw e (record { entries = []; found = record { inside = h; read = refl } })

-- ---- the answer

-- The text is refused, with its place.
refused_told : (s : List ℕ) {p : ℕ} → read s ≡ none → RefusedAt s p → Reads s (Err (record { place = p }))
unfolding read_as
refused_told s {p} e at = record { place = p; place_is = rw e (with_place at); answer = rw e; outcome = rw e }

-- It is a message's.
message_told : (s : List ℕ) (m : Said) {r : Result Read Wrong} → read s ≡ some m → r ≡ read_as s 0 (some m) → Reads s r
unfolding read_as
message_told s m e is =
    record {
      place = 0;
      place_is = rw e (no_place (λ four. omega (arith, four)));
      answer = is ∙ ap (read_as s 0) (sym e);
      outcome = ap outcome_of is ∙ ap read_outcome (sym e);
    }

-- A text that is not too long is read by ranges.
read_ranged : (s : List ℕ) → length s ≤ text_room → read s ≡ whole (message_in s)
unfolding read
read_ranged s h = rw (le-leb (length s) text_room h) (message_in_whole s)

module _ (s : List ℕ) (short : length s ≤ text_room) where
  ranged : read s ≡ whole (message_in s)
  ranged = read_ranged s short

  -- Where what is sought ends is the place of a text that is refused.
  sought_at : (p : ℕ) → p ≤ length s → rest_of (seek_message s) ≡ drop p s → RefusedAt s p
  unfolding place_of
  sought_at p inside e =
      let here : place_of seek_message s ≡ p = ap (λ (l : List ℕ). length s - length l) e ∙ omega (arith, inside, length-drop p s) in
      record { first_wrong = λ _. subst (IsPlace BeginsMessage s) here (message_place s); too_long = λ long. absurd (omega (arith, short, long)) }

  -- No message is read, and what is sought ends here.
  refused : message_in s ≡ lost → {p : ℕ} → p ≤ length s → rest_of (seek_message s) ≡ drop p s → Reads s (Err (record { place = p }))
  unfolding whole
  refused h {p} inside rest = refused_told s (ranged ∙ rw h) (sought_at p inside rest)

-- ---- the limit

-- The text is too long.
pub read_long : (s : List ℕ) (room : ℕ) → room ≡ text_room → room < length s → Reads s (Err (record { place = room }))
unfolding read
read_long s room e h =
    let long : text_room < length s = omega (arith, e, h) in
    refused_told s (rw (lt-leb (length s) text_room long)) (record { first_wrong = λ fits. absurd (omega (arith, fits, long)); too_long = λ _. e })

-- ---- the lines before the entries

module _ (s : List ℕ) (room : ℕ) (is_room : room ≡ text_room) (within : length s ≤ room) (r : Result Opening Wrong) (found : FoundFields s r) where
  short : length s ≤ text_room
  short = subst (λ (k : ℕ). length s ≤ k) is_room within

  -- One of them is none.
  pub read_no_opening : {w : Wrong} → r ≡ Err w → {x : Result Read Wrong} → x ≡ Err w → Reads s x
  read_no_opening e is =
      let missed = fields_missed s r found e in
      rw is (refused s short (message_in_opening s ∙ onward_lost _ missed.refused) missed.ends.inside (opening_wrong s missed.refused ∙ missed.ends.is))

  module _ {o : Opening} (e : r ≡ Ok o) where
    there : Found s (opening s) (opening_of o.fields) o.next
    there = fields_are s r found e

    abbrev count : ℕ
    count = count_in (opening_of o.fields).type (opening_of o.fields).numbers

    abbrev low : ℕ
    low = low_in (opening_of o.fields).type (opening_of o.fields).numbers

    abbrev high : ℕ
    high = high_in (opening_of o.fields).type (opening_of o.fields).numbers

    from_opening
        : message_in s ≡ onward (entries_after (opening_of o.fields) (drop o.next s)) (λ es. pure (message_of (opening_of o.fields).type (opening_of o.fields).numbers es))
    from_opening = message_in_opening s ∙ onward_got _ there.read

    -- They end inside the text, and entries that are counted have some term.
    pub entries_open : {sp : Span} → sp ≡ span_of (opening_of o.fields) → (o.next ≤ length s) × (0 < sp.count → sp.terms.lo ≤ sp.terms.hi)
    unfolding span_of
    entries_open same = (there.inside, λ some_count. rw same (opening_open s there.read (rw same at some_count)))

    module _ {sp : Span} (same : sp ≡ span_of (opening_of o.fields)) (q : Result ℕ Wrong) (entered : FoundEntries s o.next sp.count sp.terms.lo sp.terms.hi q) where
      all : FoundEntries s o.next count low high q
      unfolding span_of
      all = rw same at entered

      -- An entry line is none.
      pub read_no_entries : {w : Wrong} → q ≡ Err w → {x : Result Read Wrong} → x ≡ Err w → Reads s x
      unfolding entries_after seek_after
      read_no_entries {w} is_wrong is =
          let missed : Missed s (entries_in count low high (drop o.next s)) (seek_entries count low high (drop o.next s)) w.place =
          subst (FoundEntries s o.next count low high) is_wrong all in
          rw is (refused s short (from_opening ∙ onward_lost _ missed.refused) missed.ends.inside (opening_right s there.read ∙ missed.ends.is))

      module _ {end : ℕ} (ended : q ≡ Ok end) where
        stand : FoundAll s o.next count low high end
        stand = subst (FoundEntries s o.next count low high) ended all

        abbrev said : Said
        said = message_by o.fields stand.entries

        message_is : message_in s ≡ got said (drop end s)
        unfolding entries_after
        message_is = from_opening ∙ onward_got _ stand.found.read ∙ ap (λ (m : Said). got m (drop end s)) (sym (message_by_numbers o.fields stand.entries))

        -- More text follows.
        pub read_more : (end ≡ length s → ⊥) → Reads s (Err (record { place = end }))
        unfolding whole
        read_more other =
            let inside = stand.found.inside in
            refused_told s (ranged s short ∙ rw (message_is, drop-cons s end 0 (omega (arith, other, inside))))
            (sought_at s short end inside (message_more s message_is))

        -- The text ends there.
        pub read_all : end ≡ length s → Reads s (Ok (record { fields = o.fields; entries = o.next }))
        unfolding read_as part_from entries_after
        read_all ends =
            let es = stand.entries in
            let f = o.fields in
            let n = o.next in
            let none_left : drop end s ≡ [] = drop_of_length-le s {i = end} (omega arith) in
            let g : entries_in count low high (drop n s) ≡ got es [] = stand.found.read ∙ ap (got es) none_left in
            let so = entries_sound count (drop n s) (entries_plain count low high (drop n s) g) in
            let is : read s ≡ some said = ranged s short ∙ whole_got (message_is ∙ ap (got said) none_left) in
            let many : length es ≡ many_in f.body = so.count ∙ sym (many_in_count f) in
            let held : entries_of said.body ≡ es = entries_of_said f.body es many in
            let l : length (drop n s) ≡ length (entries_text es) = ap length so.split ∙ ap length (append-nil (entries_text es)) in
            let p : n ≡ length s - length (entries_text (entries_of said.body)) = rw held (omega (arith, l, length-drop n s, there.inside)) in
            message_told s said is (ap₂ (λ (x : Fields) (m : ℕ). Ok (record { fields = x; entries = m })) (sym (fields_back f es many)) p)

-- ---- what a refusal says

-- A refusal is no message.
pub refused_never : {w : Wrong} {r : Read} → ◌≡◌ {A = Result Read Wrong} (Err w) (Ok r) → ⊥
refused_never e = let z : ◌≡◌ {A = ℕ} 0 1 = cc in omega arith

-- What a refusal says: no message, and its place.
pub record Unread (input : List ℕ) (p : ℕ) : Type 0 where
  pub none_read : read input ≡ none
  pub at : RefusedAt input p

-- The reader refused.
pub unread_at : (input : List ℕ) {a : Result Read Wrong} {w : Wrong} → Reads input a → a ≡ Err w → Unread input w.place
unfolding read_as
unread_at input {a} {w} told is = by (read input) refl (sym told.answer ∙ is)
  where
    by : (o : Option Said) → read input ≡ o → read_as input told.place o ≡ Err w → Unread input w.place
    by none q e =
        let same : told.place ≡ w.place = cc in
        record { none_read = q; at = subst (RefusedAt input) same (told.place_is.refused (ap read_outcome q)) }
    by (some m) q e = absurd (refused_never (sym e))

-- Two answers to a text are the same.
pub reads_unique : {s : List ℕ} {r r' : Result Read Wrong} → Reads s r → Reads s r' → r ≡ r'
reads_unique {s} p q =
    p.answer ∙ ap (λ (x : ℕ). read_as s x (read s)) (place_with_one (read_outcome (read s)) s p.place_is q.place_is) ∙ sym q.answer

-- The place has its bits.
pub place_small : (input : List ℕ) {a : Result Read Wrong} {w : Wrong} → Reads input a → a ≡ Err w → w.place < places_room
place_small input told is = omega (arith, (refused_within input (unread_at input told is).at).1, room_placed)

-- ---- the part that holds the entry lines

module _ (s : List ℕ) (place : ℕ) (o : Option Said) (r : Result Read Wrong) (e : r ≡ read_as s place o) where
  -- Of a message it goes from where its entry lines begin to the end of the text.
  pub part_message : {m : Read} → r ≡ Ok m → (m.entries ≡ part_from s o) × (length s ≡ part_to s o)
  unfolding read_as part_from part_to
  part_message {m} h = go o (sym h ∙ e)
    where
      go : (q : Option Said) → ◌≡◌ {A = Result Read Wrong} (Ok m) (read_as s place q) → (m.entries ≡ part_from s q) × (length s ≡ part_to s q)
      go none k = absurd (refused_never (sym k))
      go (some x) k = (cc, refl)

  -- It lies in the text.
  pub part_within : {m : Read} → r ≡ Ok m → m.entries ≤ length s
  unfolding part_from
  part_within {m} h = go o (part_message h).0
    where
      go : (q : Option Said) → m.entries ≡ part_from s q → m.entries ≤ length s
      go none k = omega arith
      go (some x) k = omega arith

  -- A refusal has the empty part at the start.
  pub part_refused : {w : Wrong} → r ≡ Err w → (0 ≡ part_from s o) × (0 ≡ part_to s o)
  unfolding read_as part_from part_to
  part_refused {w} h = go o (sym h ∙ e)
    where
      go : (q : Option Said) → ◌≡◌ {A = Result Read Wrong} (Err w) (read_as s place q) → (0 ≡ part_from s q) × (0 ≡ part_to s q)
      go none k = (refl, refl)
      go (some x) k = absurd (refused_never k)
