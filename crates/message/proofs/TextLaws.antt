-- Laws of a message's text: what is written is read back, and what is read is the one way to write it. Assumes nothing.
use Prim.Native.Nat.{ℕ, zero, suc}
use native.Mathlib.Omega.{arith}
use mathlib.Core.Path.{◌≡◌, refl, sym, ◌∙◌, ap, ap₂, subst}
use mathlib.Core.List.{List, [], ◌∷◌, ◌++◌, append_assoc, append-nil}
use lib.ListN.{length}
use Rattle.text.specs.Ascii.{ascii}
use Rattle.text.specs.Reader.{Got, got, lost, Reader, onward, pure, literal, ◌>>=◌, ◌>>◌}
use Rattle.text.specs.Decimal.{decimal, number}
use Rattle.text.specs.Hex.{hex, hex_bytes}
use Rattle.text.specs.Line.{LF, line_text, line}
use Rattle.kinds.proofs.BetweenLaws.{between_above}
use Rattle.text.proofs.ReaderLaws.{got_same, lost_never, onward_got, onward_same, onward-assoc, onward_sound, Reads, Reads-then, behind, literal_written, literal_sound}
use Rattle.text.proofs.LineLaws.{ended-written, ended-sound, line_written, line_sound}
use Rattle.text.proofs.HexLaws.{hex_written, hex_sound}
use Rattle.command.specs.Command.{Command, command_size, command_bytes, command_of}
use Rattle.command.specs.Entry.{Entry}
use Rattle.command.proofs.CommandLaws.{Ranged, command_bytes_length, command_bytes_bytes, command_bytes_of, command_of_bytes}
use Rattle.message.specs.Message.{Message, entries_of}
use Rattle.message.specs.Fields.{
  MessageType,
  type=vote_request,
  type=vote_yes,
  type=vote_no,
  type=append,
  type=append_yes,
  type=append_no,
  Field,
  own_fields,
  fields,
  unset,
  number_of,
  with_number,
  type_of,
  numbers,
  count_in,
  message_of,
}
use Rattle.message.specs.Text.{type=, entry=, name, key, lines_text, entry_text, entries_text, text, type_among, types, lines, entry, entries, message}
use Rattle.message.proofs.FieldsLaws.{
  message_of_numbers,
  count_in_numbers,
  only,
  Slotted,
  numbers_slotted,
  type_of_message_of,
  entries_of_message_of,
  numbers_message_of,
  spelled,
}

-- ---- the readers' parts

-- What is read behind an entry's term and its colon.
abbrev pub entry_after : ℕ → Reader Entry
entry_after term = ◌>>=◌ (hex_bytes command_size) (λ bytes. ◌>>◌ (literal LF) (pure (record { term = term; command = command_of bytes })))

-- What is read behind the lines of numbers.
abbrev pub message_after : MessageType → List ℕ → Reader Message
message_after t ns = ◌>>=◌ (entries (count_in t ns)) (λ es. pure (message_of t ns es))

-- What is read behind the line `type`.
abbrev pub message_from : MessageType → Reader Message
message_from t = ◌>>=◌ (lines (fields t) unset) (message_after t)

-- ---- what is written is read back

-- The line `type`, whose key was read.
type_written : (t : MessageType) → Reads (type_among types) (name t ++ LF) t
unfolding type_among types literal
type_written type=vote_request rest = refl
type_written type=vote_yes rest = refl
type_written type=vote_no rest = refl
type_written type=append rest = refl
type_written type=append_yes rest = refl
type_written type=append_no rest = refl

-- Lines, one for each field.
pub lines_written : (fs : List Field) (ns others : List ℕ) → Reads (lines fs others) (lines_text fs ns) (only fs ns others)
unfolding lines lines_text
lines_written [] ns others rest = refl
lines_written (f ∷ fs) ns others rest =
    Reads-then (line (key f)) (λ n. lines fs (with_number f n others)) (line_text (key f) (number_of f ns)) (lines_text fs ns)
    (line_written (key f) (number_of f ns)) (lines_written fs ns (with_number f (number_of f ns) others)) rest

-- An entry whose command fits its bytes.
pub entry_written : (e : Entry) → Ranged e.command → Reads entry (entry_text e) e
unfolding entry entry_text
entry_written e r =
    let bytes = command_bytes e.command in
    let same : command_of bytes ≡ e.command = rw append-nil at (command_of_bytes e.command [] r) in
    let digits : Reads (hex_bytes command_size) (hex bytes) bytes =
    rw command_bytes_length at (hex_written bytes (command_bytes_bytes e.command)) in
    Reads-then (literal entry=) (λ a. ◌>>=◌ number (λ x. ◌>>◌ (literal (ascii ":")) (entry_after x))) entry= (decimal e.term ++ (58 ∷ (hex bytes ++ LF)))
    (literal_written entry=)
    (ended-written 58 entry_after e.term (hex bytes ++ LF) (between_above 48 57 58 (omega arith))
    (Reads-then (hex_bytes command_size) (λ bs. ◌>>◌ (literal LF) (pure (record { term = e.term; command = command_of bs }))) (hex bytes) LF digits
    (λ rest. onward_got (λ a. pure (record { term = e.term; command = command_of bytes })) (literal_written LF rest)
    ∙ ap (λ (c : Command). got (record { term = e.term; command = c }) rest) same)))

-- The commands of these entries fit their bytes.
abbrev pub AllRanged : List Entry → Type 0
AllRanged [] = Unit
AllRanged (e ∷ es) = Ranged e.command × AllRanged es

-- Entries, as many as are asked for.
pub entries_written : (es : List Entry) → AllRanged es → Reads (entries (length es)) (entries_text es) es
unfolding entries entries_text
entries_written [] r rest = refl
entries_written (e ∷ es) r rest =
    Reads-then entry (λ x. ◌>>=◌ (entries (length es)) (λ xs. pure (x ∷ xs))) (entry_text e) (entries_text es) (entry_written e r.0)
    (λ q. onward_got (λ xs. pure (e ∷ xs)) (entries_written es r.1 q)) rest

-- A message is read back from its text, whatever follows.
pub message_written : (m : Message) → AllRanged (entries_of m.body) → Reads message (text m) m
unfolding message text
message_written m r =
    let t = type_of m.body in
    let es = entries_of m.body in
    let below = lines_text (fields t) (numbers m) ++ entries_text es in
    let e : text m ≡ type= ++ ((name t ++ LF) ++ below) = ap (λ (l : List ℕ). type= ++ l) (sym (append_assoc (name t) LF below)) in
    let counted : Reads (entries (count_in t (numbers m))) (entries_text es) es = rw (count_in_numbers m) (entries_written es r) in
    let numbered : Reads (lines (fields t) unset) (lines_text (fields t) (numbers m)) (numbers m) =
    subst (λ (ns : List ℕ). Reads (lines (fields t) unset) (lines_text (fields t) (numbers m)) ns) (numbers_slotted m)
    (lines_written (fields t) (numbers m) unset) in
    subst (λ (l : List ℕ). Reads message l m) (sym e)
    (Reads-then (literal type=) (λ a. ◌>>=◌ (type_among types) message_from) type= ((name t ++ LF) ++ below) (literal_written type=)
    (Reads-then (type_among types) message_from (name t ++ LF) below (type_written t)
    (Reads-then (lines (fields t) unset) (message_after t) (lines_text (fields t) (numbers m)) (entries_text es) numbered
    (λ rest. onward_got (λ xs. pure (message_of t (numbers m) xs)) (counted rest) ∙ ap (λ (x : Message). got x rest) (message_of_numbers m)))))

-- ---- what is read is the one text of it

type_sound : (ts : List MessageType) (s : List ℕ) {t : MessageType} {rest : List ℕ} → type_among ts s ≡ got t rest → s ≡ (name t ++ LF) ++ rest
unfolding type_among
type_sound [] s e = absurd (lost_never e)
type_sound (u ∷ us) s {t} {rest} e = go (literal (name u ++ LF) s) refl (λ f. type_sound us s f)
  where
    go : (g : Got Unit) → literal (name u ++ LF) s ≡ g → (type_among us s ≡ got t rest → s ≡ (name t ++ LF) ++ rest) → s ≡ (name t ++ LF) ++ rest
    go lost p ih = ih (rw (p, type_among) at e)
    go (got a left) p ih =
        let f : got u left ≡ got t rest = rw (p, type_among) at e in
        got_same (λ v r. s ≡ (name v ++ LF) ++ r) f (literal_sound (name u ++ LF) s p)

-- The numbers of lines, in the lines' order.
unfoldable pub values : List Field → Reader (List ℕ)
values [] = pure []
values (f ∷ fs) = ◌>>=◌ (line (key f)) (λ n. ◌>>=◌ (values fs) (λ ns. pure (n ∷ ns)))

-- Their text.
unfoldable pub values_text : List Field → List ℕ → List ℕ
values_text [] ns = []
values_text (f ∷ fs) [] = []
values_text (f ∷ fs) (n ∷ ns) = line_text (key f) n ++ values_text fs ns

-- Each in the slot of its field.
abbrev pub placed : List Field → List ℕ → List ℕ → List ℕ
placed [] xs ns = ns
placed (f ∷ fs) [] ns = ns
placed (f ∷ fs) (x ∷ xs) ns = placed fs xs (with_number f x ns)

-- Lines are read by putting their numbers into slots.
pub lines_values : (fs : List Field) (ns s : List ℕ) → lines fs ns s ≡ onward (values fs s) (λ xs. pure (placed fs xs ns))
unfolding lines values
lines_values [] ns s = sym (onward_got _ refl)
lines_values (f ∷ fs) ns s =
    onward_same (line (key f) s)
    (λ n r. lines_values fs (with_number f n ns) r
    ∙ onward_same (values fs r) (λ xs q. sym (onward_got _ refl))
    ∙ sym (onward-assoc (values fs r) (λ xs. pure (n ∷ xs)) (λ xs. pure (placed (f ∷ fs) xs ns))))
    ∙ sym (onward-assoc (line (key f) s) (λ n. ◌>>=◌ (values fs) (λ xs. pure (n ∷ xs))) (λ xs. pure (placed (f ∷ fs) xs ns)))

-- What numbers are read: so many, whose lines stand there.
pub record AreValues (fs : List Field) (s ns rest : List ℕ) : Type 0 where
  pub split : s ≡ values_text fs ns ++ rest
  pub count : length ns ≡ length fs

pub values_sound : (fs : List Field) (s : List ℕ) {ns rest : List ℕ} → values fs s ≡ got ns rest → AreValues fs s ns rest
unfolding values values_text
values_sound [] s e = got_same (λ l r. AreValues [] s l r) e (record { split = refl; count = refl })
values_sound (f ∷ fs) s e =
    let n = onward_sound e in
    let l = onward_sound n.next in
    let ih = values_sound fs n.left l.first in
    got_same (λ xs r. AreValues (f ∷ fs) s xs r) l.next
    (record {
      split = behind (line_text (key f) n.value) (values_text fs l.value) l.left (line_sound (key f) s n.first) ih.split;
      count = ap suc ih.count;
    })

-- A number for each field of a type: in their slots they have the same lines, and no other slot is taken.
record Placed (t : MessageType) (xs : List ℕ) : Type 0 where
  pub same_text : values_text (fields t) xs ≡ lines_text (fields t) (placed (fields t) xs unset)
  pub slotted : Slotted t (placed (fields t) xs unset)

placed_all : (t : MessageType) (xs : List ℕ) → length xs ≡ length (fields t) → Placed t xs
unfolding fields own_fields values_text lines_text
placed_all type=vote_request xs h = subst (Placed type=vote_request) (spelled 5 xs h) (record { same_text = refl; slotted = refl })
placed_all type=vote_yes xs h = subst (Placed type=vote_yes) (spelled 6 xs h) (record { same_text = refl; slotted = refl })
placed_all type=vote_no xs h = subst (Placed type=vote_no) (spelled 3 xs h) (record { same_text = refl; slotted = refl })
placed_all type=append xs h = subst (Placed type=append) (spelled 7 xs h) (record { same_text = refl; slotted = refl })
placed_all type=append_yes xs h = subst (Placed type=append_yes) (spelled 4 xs h) (record { same_text = refl; slotted = refl })
placed_all type=append_no xs h = subst (Placed type=append_no) (spelled 4 xs h) (record { same_text = refl; slotted = refl })

-- A number for each field takes no slot but theirs.
pub placed_slotted : (t : MessageType) (xs : List ℕ) → length xs ≡ length (fields t) → Slotted t (placed (fields t) xs unset)
placed_slotted t xs h = (placed_all t xs h).slotted

-- What lines of a type are read: the numbers whose lines stand there.
pub record AreLines (t : MessageType) (s ns rest : List ℕ) : Type 0 where
  pub split : s ≡ lines_text (fields t) ns ++ rest
  pub slotted : Slotted t ns

-- Lines that are read are those of the numbers read.
pub lines_sound : (t : MessageType) (s : List ℕ) {ns rest : List ℕ} → lines (fields t) unset s ≡ got ns rest → AreLines t s ns rest
lines_sound t s e =
    let w = onward_sound (sym (lines_values (fields t) unset s) ∙ e) in
    let are = values_sound (fields t) s w.first in
    let p = placed_all t w.value are.count in
    got_same (λ ns r. AreLines t s ns r) w.next
    (record { split = are.split ∙ ap (λ (l : List ℕ). l ++ w.left) p.same_text; slotted = p.slotted })

-- An entry that is read is the one text of it.
pub entry_sound : (s : List ℕ) {e : Entry} {rest : List ℕ} → entry s ≡ got e rest → s ≡ entry_text e ++ rest
unfolding entry entry_text
entry_sound s {e} {rest} h =
    let k = onward_sound h in
    let n = ended-sound 58 entry_after k.left k.next in
    let b = onward_sound n.next in
    let l = onward_sound b.next in
    let digits = hex_sound command_size n.left b.first in
    let x = n.x in
    let bytes = command_bytes (command_of b.value) in
    let same : b.value ≡ bytes = sym (command_bytes_of b.value digits.count digits.bytes) in
    let ended : b.left ≡ LF ++ l.left = literal_sound LF b.left l.first in
    let below : n.left ≡ hex bytes ++ (LF ++ l.left) = digits.split ∙ ap₂ (λ (c q : List ℕ). hex c ++ q) same ended in
    let joined : decimal x ++ (58 ∷ (hex bytes ++ (LF ++ l.left))) ≡ (decimal x ++ (58 ∷ (hex bytes ++ LF))) ++ l.left = simp append_assoc in
    got_same (λ y r. s ≡ entry_text y ++ r) l.next
    (behind entry= (decimal x ++ (58 ∷ (hex bytes ++ LF))) l.left (literal_sound entry= s k.first)
    (n.split ∙ ap (λ (q : List ℕ). decimal x ++ (58 ∷ q)) below ∙ joined))

-- What entries are read: so many, whose lines stand there.
pub record AreEntries (n : ℕ) (s : List ℕ) (es : List Entry) (rest : List ℕ) : Type 0 where
  pub split : s ≡ entries_text es ++ rest
  pub count : length es ≡ n

-- Entries that are read are the one text of them.
pub entries_sound : (n : ℕ) (s : List ℕ) {es : List Entry} {rest : List ℕ} → entries n s ≡ got es rest → AreEntries n s es rest
unfolding entries entries_text
entries_sound zero s h = got_same (λ l r. AreEntries zero s l r) h (record { split = refl; count = refl })
entries_sound (suc n) s h =
    let x = onward_sound h in
    let xs = onward_sound x.next in
    let ih = entries_sound n x.left xs.first in
    got_same (λ l r. AreEntries (suc n) s l r) xs.next
    (record {
      split = behind (entry_text x.value) (entries_text xs.value) xs.left (entry_sound s x.first) ih.split;
      count = ap suc ih.count;
    })

-- The text of the message of a type, its numbers and its entries.
pub text_message_of : (t : MessageType) (ns : List ℕ) (es : List Entry) → Slotted t ns → length es ≡ count_in t ns →
    text (message_of t ns es) ≡ type= ++ ((name t ++ LF) ++ (lines_text (fields t) ns ++ entries_text es))
unfolding text
text_message_of t ns es n h =
    rw (type_of_message_of t ns es, numbers_message_of t ns es n h, entries_of_message_of t ns es h)
    (ap (λ (l : List ℕ). type= ++ l) (sym (append_assoc (name t) LF (lines_text (fields t) ns ++ entries_text es))))

-- What is read is the text of the message read.
pub message_sound : (s : List ℕ) {m : Message} {rest : List ℕ} → message s ≡ got m rest → s ≡ text m ++ rest
unfolding message
message_sound s {m} {rest} h =
    let k = onward_sound h in
    let t = onward_sound k.next in
    let n = onward_sound t.next in
    let e = onward_sound n.next in
    let first = name t.value ++ LF in
    let ls = lines_sound t.value t.left n.first in
    let es = entries_sound (count_in t.value n.value) n.left e.first in
    let lt = lines_text (fields t.value) n.value in
    let et = entries_text e.value in
    got_same (λ y r. s ≡ text y ++ r) e.next
    (rw (text_message_of t.value n.value e.value ls.slotted es.count)
    (behind type= (first ++ (lt ++ et)) e.left (literal_sound type= s k.first)
    (behind first (lt ++ et) e.left (type_sound types k.left t.first) (behind lt et e.left ls.split es.split))))
