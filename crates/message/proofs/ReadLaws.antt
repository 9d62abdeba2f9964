-- Reading and writing whole messages are each other's inverse: a legal message is read back from its text, which fits; and a text that is read
-- is the one way to write that message, which is legal. The part handed back is exactly the entry lines. Assumes nothing.
use Prim.Native.Nat.{ℕ, ◌+◌, ◌-◌, ◌*◌, ◌≤◌}
use native.Mathlib.Omega.{arith}
use mathlib.Core.Path.{◌≡◌, sym, ◌∙◌, ap}
use mathlib.Core.Bool.{true, ◌&&◌}
use mathlib.Core.List.{List, [], ◌∷◌, ◌++◌, append_assoc, append-nil}
use mathlib.Core.Option.{Option, none, some}
use borrow.Author.Tests.{le-leb, leb-true}
use lib.Dec.{leb}
use lib.ListN.{length, drop, length-append}
use lib.Seq.{drop_at}
use Rattle.kinds.specs.Sizes.{between, term_most, limit, text_room}
use Rattle.kinds.proofs.SizesLaws.{text_fits}
use Rattle.text.specs.Decimal.{decimal}
use Rattle.text.specs.Hex.{hex}
use Rattle.text.specs.Line.{LF, line_text}
use Rattle.text.specs.Reader.{got, whole}
use Rattle.kinds.proofs.BetweenLaws.{between_true}
use Rattle.text.proofs.ReaderLaws.{whole_sound, whole_got}
use Rattle.text.proofs.DecimalLaws.{decimal_ten}
use Rattle.text.proofs.HexLaws.{hex_length}
use Rattle.text.proofs.LineLaws.{line_most}
use Rattle.command.specs.Command.{command_bytes, legal_command}
use Rattle.command.specs.Entry.{Entry, legal_entries}
use Rattle.command.proofs.Tests.{by_test, both}
use Rattle.command.proofs.CommandLaws.{legal_ranged, command_bytes_length}
use Rattle.message.specs.Message.{Message, entries_of}
use Rattle.message.specs.Legal.{legal_message}
use Rattle.message.specs.Fields.{
  MessageType,
  type=vote_request,
  type=vote_yes,
  type=vote_no,
  type=append,
  type=append_yes,
  type=append_no,
  Field,
  term=,
  from=,
  to=,
  last=,
  ballot=,
  count=,
  prev=,
  prevterm=,
  chosen=,
  end=,
  length=,
  own_fields,
  fields,
  slot,
  number_of,
  type_of,
  numbers,
}
use Rattle.message.specs.Text.{type=, name, key, lines_text, entry_text, entries_text, text, message, if_legal, read, part_from}
use Rattle.message.proofs.LegalLaws.{Most, most_at, legal_held}
use Rattle.message.proofs.TextLaws.{AllRanged, message_written, message_sound}

-- ---- legal entries

-- The commands of legal entries fit their bytes.
pub entries_ranged : (low high : ℕ) (es : List Entry) → legal_entries low high es ≡ true → AllRanged es
unfolding legal_entries
entries_ranged low high [] h = tt
entries_ranged low high (e ∷ es) h =
    let t = both (between low high e.term) (legal_command e.command && legal_entries e.term high es) h in
    let c = both (legal_command e.command) (legal_entries e.term high es) t.1 in
    (legal_ranged e.command c.0, entries_ranged e.term high es c.1)

-- ---- how long a legal text is

entry_most : (e : Entry) → e.term ≤ term_most → length (entry_text e) ≤ 50
unfolding entry_text
entry_most e h =
    let d : length (decimal e.term) ≤ 10 = decimal_ten e.term h in
    let x : length (hex (command_bytes e.command)) ≡ 32 = hex_length (command_bytes e.command) ∙ ap (λ (n : ℕ). 2 * n) (command_bytes_length e.command) in
    simp length-append (omega arith)

entries_most : (low high : ℕ) (es : List Entry) → high ≤ term_most → legal_entries low high es ≡ true → length (entries_text es) ≤ length es * 50
unfolding legal_entries entries_text
entries_most low high [] m h = omega arith
entries_most low high (e ∷ es) m h =
    let t = both (between low high e.term) (legal_command e.command && legal_entries e.term high es) h in
    let c = both (legal_command e.command) (legal_entries e.term high es) t.1 in
    let b = between_true low high e.term t.0 in
    let first : length (entry_text e) ≤ 50 = entry_most e (omega arith) in
    let others : length (entries_text es) ≤ length es * 50 = entries_most e.term high es m c.1 in
    simp length-append (omega arith)

key_most : (f : Field) → length (key f) ≤ 9
key_most term= = omega arith
key_most from= = omega arith
key_most to= = omega arith
key_most last= = omega arith
key_most ballot= = omega arith
key_most count= = omega arith
key_most prev= = omega arith
key_most prevterm= = omega arith
key_most chosen= = omega arith
key_most end= = omega arith
key_most length= = omega arith

lines_most : (fs : List Field) (ns : List ℕ) → Most ns → length (lines_text fs ns) ≤ length fs * 20
unfolding lines_text
lines_most [] ns h = omega arith
lines_most (f ∷ fs) ns h =
    let n = number_of f ns in
    let first : length (line_text (key f) n) ≤ length (key f) + 11 = line_most (key f) n (most_at ns (slot f) h) in
    let k : length (key f) ≤ 9 = key_most f in
    let others : length (lines_text fs ns) ≤ length fs * 20 = lines_most fs ns h in
    simp length-append (omega arith)

name_most : (t : MessageType) → length (name t) ≤ 12
name_most type=vote_request = omega arith
name_most type=vote_yes = omega arith
name_most type=vote_no = omega arith
name_most type=append = omega arith
name_most type=append_yes = omega arith
name_most type=append_no = omega arith

fields_most : (t : MessageType) → length (fields t) ≤ 7
unfolding fields own_fields
fields_most type=vote_request = omega arith
fields_most type=vote_yes = omega arith
fields_most type=vote_no = omega arith
fields_most type=append = omega arith
fields_most type=append_yes = omega arith
fields_most type=append_no = omega arith

-- A legal message's text fits.
pub text_most : (m : Message) → legal_message m ≡ true → length (text m) ≤ text_room
unfolding text
text_most m h =
    let fits = text_fits in
    let held = legal_held m h in
    let own = held.own in
    let t = type_of m.body in
    let es = entries_of m.body in
    let n : length (name t) ≤ 12 = name_most t in
    let f : length (fields t) ≤ 7 = fields_most t in
    let l : length (lines_text (fields t) (numbers m)) ≤ length (fields t) * 20 = lines_most (fields t) (numbers m) held.numbers_most in
    let c : length es ≤ limit = own.count_most in
    let e : length (entries_text es) ≤ length es * 50 = entries_most own.low own.high es own.high_most own.entries_legal in
    simp length-append (omega arith)

-- ---- reading what was written

-- A legal message is read back from its text.
pub read_text : (m : Message) → legal_message m ≡ true → read (text m) ≡ some m
unfolding read if_legal
read_text m h =
    let own = (legal_held m h).own in
    let fits : leb (length (text m)) text_room ≡ true = le-leb (length (text m)) text_room (text_most m h) in
    let found : message (text m) ≡ got m [] = rw append-nil at (message_written m (entries_ranged own.low own.high (entries_of m.body) own.entries_legal) []) in
    rw (fits, whole_got found, h)

-- ---- what is read

some_same : (x y : Message) → some x ≡ some y → x ≡ y
some_same x y h = cc

none_never : (x : Message) → none ≡ some x → ⊥
none_never x h = let z : ◌≡◌ {A = ℕ} 0 1 = cc in omega arith

-- A text that is read: the one text of its message, which is legal; and it fits.
pub record IsRead (s : List ℕ) (m : Message) : Type 0 where
  pub text_is : text m ≡ s
  pub legal : legal_message m ≡ true
  pub fits : length s ≤ text_room

legal_sound : (o : Option Message) (m : Message) → if_legal o ≡ some m → (o ≡ some m) × (legal_message m ≡ true)
unfolding if_legal
legal_sound none m h = absurd (none_never m h)
legal_sound (some x) m h =
    by_test (legal_message x)
    (λ yes_legal.
    let e : x ≡ m = some_same x m (rw yes_legal at h) in
    (ap some e, ap legal_message (sym e) ∙ yes_legal))
    (λ no-legal. absurd (none_never m (rw no-legal at h)))

-- Every text accepted is the one way to write its message.
pub read_sound : (s : List ℕ) (m : Message) → read s ≡ some m → IsRead s m
unfolding read
read_sound s m h =
    by_test (leb (length s) text_room)
    (λ short.
    let l = legal_sound (whole (message s)) m (rw short at h) in
    record {
      text_is = sym (message_sound s (whole_sound (message s) l.0) ∙ append-nil (text m));
      legal = l.1;
      fits = leb-true _ _ short;
    })
    (λ long. absurd (none_never m (rw long at h)))

-- ---- the part with the entry lines

-- A text without its entry lines.
abbrev pub text_head : Message → List ℕ
text_head m = type= ++ (name (type_of m.body) ++ (LF ++ lines_text (fields (type_of m.body)) (numbers m)))

-- A text is this and its entry lines.
pub text_parts : (m : Message) → text m ≡ text_head m ++ entries_text (entries_of m.body)
unfolding text
text_parts m = simp append_assoc

-- The part handed back, from `part_from` to the end, is exactly the entry lines.
pub part_entries : (s : List ℕ) (m : Message) → read s ≡ some m → drop (part_from s (some m)) s ≡ entries_text (entries_of m.body)
unfolding part_from
part_entries s m h =
    let e : s ≡ text_head m ++ entries_text (entries_of m.body) = sym (read_sound s m h).text_is ∙ text_parts m in
    let n : length (text_head m) ≡ length s - length (entries_text (entries_of m.body)) = omega (arith, ap length e ∙ length-append (text_head m) (entries_text (entries_of m.body))) in
    ap (λ (l : List ℕ). drop (length s - length (entries_text (entries_of m.body))) l) e ∙ drop_at (text_head m) (entries_text (entries_of m.body)) _ n
