-- Every number of a message lies in a range that the numbers before it fix, and no such range is empty. A reader by ranges fails at the
-- first number that no legal message has there; it accepts the same texts as `read`, with the same messages. Assumes nothing.
use Rattle.std.specs.Prelude.{ℕ, zero, suc, ◌-◌, max, Bool, true, false, cond, ◌&&◌, List, [], ◌∷◌, eqb}
use Rattle.kinds.specs.Sizes.{hubs_most, term_most, limit}
use Rattle.text.specs.Reader.{got, lost, Reader, ◌>>=◌, ◌>>◌, pure, literal}
use Rattle.text.specs.Hex.{hex_bytes}
use Rattle.text.specs.Line.{LF}
use Rattle.text.specs.Range.{number_in, line_in}
use Rattle.command.specs.Command.{command_size, command_of, legal_command}
use Rattle.command.specs.Entry.{Entry}
use Rattle.message.specs.Message.{Message}
use Rattle.message.specs.Fields.{
  MessageType,
  type=vote_request,
  type=vote_yes,
  type=vote_no,
  type=append,
  type=append_yes,
  type=append_no,
  Field,
  term=,
  from=,
  to=,
  last=,
  ballot=,
  count=,
  prev=,
  prevterm=,
  chosen=,
  end=,
  length=,
  fields,
  unset,
  number_of,
  with_number,
  count_in,
  message_of,
}
use Rattle.message.specs.Text.{type=, entry=, key, type_among, types}

-- lo..hi, both ends included.
pub record Range : Type 0 where
  pub lo : ℕ
  pub hi : ℕ

abbrev pub up_to : ℕ → Range
up_to hi = record { lo = 0; hi = hi }

abbrev pub from_to : ℕ → ℕ → Range
from_to lo hi = record { lo = lo; hi = hi }

-- ---- the ranges of fields that differ by type

abbrev pub is_vote_request : MessageType → Bool
is_vote_request type=vote_request = true
is_vote_request type=vote_yes = false
is_vote_request type=vote_no = false
is_vote_request type=append = false
is_vote_request type=append_yes = false
is_vote_request type=append_no = false

abbrev pub is_append : MessageType → Bool
is_append type=vote_request = false
is_append type=vote_yes = false
is_append type=vote_no = false
is_append type=append = true
is_append type=append_yes = false
is_append type=append_no = false

-- A vote-request goes to all.
abbrev pub to_range : MessageType → Range
to_range t = from_to (cond (is_vote_request t) 0 1) (cond (is_vote_request t) 0 hubs_most)

-- A vote-request of term 1 has ballot 0, and so last 0.
abbrev pub last_range : MessageType → ℕ → Range
last_range t term = up_to (cond (is_vote_request t && eqb term 1) 0 limit)

-- A vote-request's is 0 only with last 0.
abbrev pub ballot_range : MessageType → ℕ → ℕ → Range
ballot_range t term last = from_to (cond (is_vote_request t) (cond (eqb last 0) 0 1) 0) (term - 1)

-- 0 exactly with prev 0.
abbrev pub prevterm_range : ℕ → ℕ → Range
prevterm_range term prev = from_to (cond (eqb prev 0) 0 1) (cond (eqb prev 0) 0 term)

-- An append has as many entries as chosen asks for; a vote-yes of ballot 0 has none.
abbrev pub count_range : MessageType → List ℕ → Range
count_range t ns =
    from_to (cond (is_append t) (number_of chosen= ns - number_of prev= ns) 0)
    (cond (is_append t) (limit - number_of prev= ns) (cond (eqb (number_of ballot= ns) 0) 0 (limit - number_of last= ns)))

-- The range of a field, given the numbers before it.
unfoldable pub range : MessageType → Field → List ℕ → Range
range t term= ns = from_to 1 term_most
range t from= ns = from_to 1 hubs_most
range t to= ns = to_range t
range t last= ns = last_range t (number_of term= ns)
range t ballot= ns = ballot_range t (number_of term= ns) (number_of last= ns)
range t count= ns = count_range t ns
range t prev= ns = up_to limit
range t prevterm= ns = prevterm_range (number_of term= ns) (number_of prev= ns)
range t chosen= ns = up_to limit
range t end= ns = up_to limit
range t length= ns = up_to limit

-- The line of a field, its number in its range.
abbrev pub field_in : MessageType → Field → List ℕ → Reader ℕ
field_in t f ns = line_in (key f) (range t f ns).lo (range t f ns).hi

-- ---- the range of the entries' terms, given all numbers

unfoldable pub low_in : MessageType → List ℕ → ℕ
low_in type=vote_request ns = 1
low_in type=vote_yes ns = 1
low_in type=vote_no ns = 1
low_in type=append ns = max 1 (number_of prevterm= ns)
low_in type=append_yes ns = 1
low_in type=append_no ns = 1

unfoldable pub high_in : MessageType → List ℕ → ℕ
high_in type=vote_request ns = 0
high_in type=vote_yes ns = number_of ballot= ns
high_in type=vote_no ns = 0
high_in type=append ns = number_of term= ns
high_in type=append_yes ns = 0
high_in type=append_no ns = 0

-- ---- reading by ranges

-- A line for each field, its number in its range; ns are the numbers so far.
unfoldable pub lines_in : MessageType → List Field → List ℕ → Reader (List ℕ)
lines_in t [] ns = pure ns
lines_in t (f ∷ fs) ns = do
  n ← field_in t f ns
  lines_in t fs (with_number f n ns)

-- An entry, if its command is legal. It stands for no text.
unfoldable pub legal_only : Entry → Reader Entry
legal_only e s = elim (legal_command e.command) [ true ↦ got e s | false ↦ lost ]

-- An entry whose term lies in low..high and whose command is legal. (58 is the colon.)
unfoldable pub entry_in : ℕ → ℕ → Reader Entry
entry_in low high = do
  literal entry=
  term ← number_in low high 58
  bytes ← hex_bytes command_size
  literal LF
  legal_only (record { term = term; command = command_of bytes })

-- So many entries, their terms from low on and never falling.
unfoldable pub entries_in : ℕ → ℕ → ℕ → Reader (List Entry)
entries_in zero low high = pure []
entries_in (suc n) low high = do
  e ← entry_in low high
  es ← entries_in n e.term high
  pure (e ∷ es)

-- The least term that may follow entries whose terms go from low on.
unfoldable pub least_after : ℕ → List Entry → ℕ
least_after low [] = low
least_after low (e ∷ es) = least_after e.term es

-- A whole message, by ranges.
unfoldable pub message_in : Reader Message
message_in = do
  literal type=
  t ← type_among types
  ns ← lines_in t (fields t) unset
  es ← entries_in (count_in t ns) (low_in t ns) (high_in t ns)
  pure (message_of t ns es)
