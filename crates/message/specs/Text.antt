-- The text of a message (rules R27, R28 and R31): how a message is written as lines, how a text is read, and the part of a text that holds the entry lines.
-- Assumes nothing.
use Rattle.std.specs.Prelude.{ℕ, zero, suc, ◌-◌, cond, List, [], ◌∷◌, ◌++◌, leb, length}
use Rattle.std.proofs.Math.Option.{Option, none, some}
use Rattle.kinds.specs.Sizes.{text_room}
use Rattle.text.specs.Ascii.{ascii}
use Rattle.text.specs.Reader.{got, lost, Reader, ◌>>=◌, ◌>>◌, pure, literal, whole}
use Rattle.text.specs.Decimal.{decimal, number}
use Rattle.text.specs.Hex.{hex, hex_bytes}
use Rattle.text.specs.Line.{LF, line_text, line}
use Rattle.command.specs.Command.{command_size, command_bytes, command_of}
use Rattle.command.specs.Entry.{Entry}
use Rattle.message.specs.Message.{Message, entries_of}
use Rattle.message.specs.Legal.{legal_message}
use Rattle.message.specs.Fields.{
  MessageType,
  type=vote_request,
  type=vote_yes,
  type=vote_no,
  type=append,
  type=append_yes,
  type=append_no,
  Field,
  term=,
  from=,
  to=,
  last=,
  ballot=,
  count=,
  prev=,
  prevterm=,
  chosen=,
  end=,
  length=,
  fields,
  unset,
  number_of,
  with_number,
  type_of,
  numbers,
  count_in,
  message_of,
}

-- ---- the words

abbrev pub type= : List ℕ
type= = ascii "type="

abbrev pub entry= : List ℕ
entry= = ascii "entry="

-- The name of a type, as the line `type` has it.
abbrev pub name : MessageType → List ℕ
name type=vote_request = ascii "vote-request"
name type=vote_yes = ascii "vote-yes"
name type=vote_no = ascii "vote-no"
name type=append = ascii "append"
name type=append_yes = ascii "append-yes"
name type=append_no = ascii "append-no"

-- The key of a field, with its `=`.
abbrev pub key : Field → List ℕ
key term= = ascii "term="
key from= = ascii "from="
key to= = ascii "to="
key last= = ascii "last="
key ballot= = ascii "ballot="
key count= = ascii "count="
key prev= = ascii "prev="
key prevterm= = ascii "prevterm="
key chosen= = ascii "chosen="
key end= = ascii "end="
key length= = ascii "length="

-- ---- writing

-- A line for each field.
unfoldable pub lines_text : List Field → List ℕ → List ℕ
lines_text [] ns = []
lines_text (f ∷ fs) ns = line_text (key f) (number_of f ns) ++ lines_text fs ns

-- `entry=`, its term, `:`, 32 lower-case hex digits.
unfoldable pub entry_text : Entry → List ℕ
entry_text e = entry= ++ (decimal e.term ++ (ascii ":" ++ (hex (command_bytes e.command) ++ LF)))

unfoldable pub entries_text : List Entry → List ℕ
entries_text [] = []
entries_text (e ∷ es) = entry_text e ++ entries_text es

-- The whole text of a message.
unfoldable pub text : Message → List ℕ
text m =
    let t = type_of m.body in
    type= ++ (name t ++ (LF ++ (lines_text (fields t) (numbers m) ++ entries_text (entries_of m.body))))

-- ---- reading

-- The first of these types whose name stands here with the line's end.
unfoldable pub type_among : List MessageType → Reader MessageType
type_among [] s = lost
type_among (t ∷ ts) s = elim (literal (name t ++ LF) s) [ got found rest ↦ got t rest | lost ↦ type_among ts s ]

unfoldable pub types : List MessageType
types = type=vote_request ∷ type=vote_yes ∷ type=vote_no ∷ type=append ∷ type=append_yes ∷ type=append_no ∷ []

-- A line for each field, in order; ns are the numbers so far.
unfoldable pub lines : List Field → List ℕ → Reader (List ℕ)
lines [] ns = pure ns
lines (f ∷ fs) ns = do
  n ← line (key f)
  lines fs (with_number f n ns)

unfoldable pub entry : Reader Entry
entry = do
  literal entry=
  term ← number
  literal (ascii ":")
  bytes ← hex_bytes command_size
  literal LF
  pure (record { term = term; command = command_of bytes })

unfoldable pub entries : ℕ → Reader (List Entry)
entries zero = pure []
entries (suc n) = do
  e ← entry
  es ← entries n
  pure (e ∷ es)

-- Lines in this order, with whatever numbers.
unfoldable pub message : Reader Message
message = do
  literal type=
  t ← type_among types
  ns ← lines (fields t) unset
  es ← entries (count_in t ns)
  pure (message_of t ns es)

-- A message, if it is legal.
unfoldable pub if_legal : Option Message → Option Message
if_legal none = none
if_legal (some m) = cond (legal_message m) (some m) none

-- The message of a text: in this order and nothing else, legal, and at most as long as an input may be.
unfoldable pub read : List ℕ → Option Message
read s = cond (leb (length s) text_room) (if_legal (whole (message s))) none

-- ---- the part of a text that holds the entry lines

-- Where it begins: it goes to the end of the text, and is empty there without entry lines; on a refusal it is the empty part at the start.
unfoldable pub part_from : List ℕ → Option Message → ℕ
part_from s none = 0
part_from s (some m) = length s - length (entries_text (entries_of m.body))

-- Where it ends.
unfoldable pub part_to : List ℕ → Option Message → ℕ
part_to s none = 0
part_to s (some m) = length s
