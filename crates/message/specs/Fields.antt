-- The fields of each type of message in the order of rule R28: one table for all that writes or reads messages. Assumes nothing.
use Rattle.std.specs.Prelude.{ℕ, List, [], ◌∷◌, length, get_or, set}
use Rattle.command.specs.Entry.{Entry}
use Rattle.message.specs.Message.{Message, Body, vote_request, vote_yes, vote_no, append, append_yes, append_no}

-- The six types, in the order of rule R28.
pub data MessageType : Type 0 where
  type=vote_request : MessageType
  type=vote_yes : MessageType
  type=vote_no : MessageType
  type=append : MessageType
  type=append_yes : MessageType
  type=append_no : MessageType

pub data Field : Type 0 where
  term= : Field
  from= : Field
  to= : Field
  last= : Field
  ballot= : Field
  count= : Field
  prev= : Field
  prevterm= : Field
  chosen= : Field
  end= : Field
  length= : Field

-- What follows term, from and to; entries follow the count.
unfoldable pub own_fields : MessageType → List Field
own_fields type=vote_request = last= ∷ ballot= ∷ []
own_fields type=vote_yes = last= ∷ ballot= ∷ count= ∷ []
own_fields type=vote_no = []
own_fields type=append = prev= ∷ prevterm= ∷ chosen= ∷ count= ∷ []
own_fields type=append_yes = end= ∷ []
own_fields type=append_no = length= ∷ []

-- All begin term, from, to.
unfoldable pub fields : MessageType → List Field
fields t = term= ∷ from= ∷ to= ∷ own_fields t

-- ---- the slots of the numbers

-- The numbers of a message stand in seven slots, a field's always in the same one. Fields that no type has together share one.
abbrev pub slot : Field → ℕ
slot term= = 0
slot from= = 1
slot to= = 2
slot last= = 3
slot ballot= = 4
slot count= = 6
slot prev= = 3
slot prevterm= = 4
slot chosen= = 5
slot end= = 3
slot length= = 3

-- No number yet.
abbrev pub unset : List ℕ
unset = 0 ∷ 0 ∷ 0 ∷ 0 ∷ 0 ∷ 0 ∷ 0 ∷ []

-- The number of a field.
abbrev pub number_of : Field → List ℕ → ℕ
number_of f ns = get_or ns (slot f) 0

-- The numbers, with this one for a field.
abbrev pub with_number : Field → ℕ → List ℕ → List ℕ
with_number f n ns = set ns (slot f) n

-- ---- from a message to its type and its numbers, each in its slot; 0 where its type has no field

unfoldable pub type_of : Body → MessageType
type_of (vote_request last ballot) = type=vote_request
type_of (vote_yes last ballot entries) = type=vote_yes
type_of vote_no = type=vote_no
type_of (append prev prevterm chosen entries) = type=append
type_of (append_yes end) = type=append_yes
type_of (append_no length) = type=append_no

unfoldable pub own_numbers : Body → List ℕ
own_numbers (vote_request last ballot) = last ∷ ballot ∷ 0 ∷ 0 ∷ []
own_numbers (vote_yes last ballot entries) = last ∷ ballot ∷ 0 ∷ length entries ∷ []
own_numbers vote_no = 0 ∷ 0 ∷ 0 ∷ 0 ∷ []
own_numbers (append prev prevterm chosen entries) = prev ∷ prevterm ∷ chosen ∷ length entries ∷ []
own_numbers (append_yes end) = end ∷ 0 ∷ 0 ∷ 0 ∷ []
own_numbers (append_no n) = n ∷ 0 ∷ 0 ∷ 0 ∷ []

unfoldable pub numbers : Message → List ℕ
numbers m = m.term ∷ m.from ∷ m.to ∷ own_numbers m.body

-- ---- and back

-- How many entries follow these numbers.
unfoldable pub count_in : MessageType → List ℕ → ℕ
count_in type=vote_request ns = 0
count_in type=vote_yes ns = number_of count= ns
count_in type=vote_no ns = 0
count_in type=append ns = number_of count= ns
count_in type=append_yes ns = 0
count_in type=append_no ns = 0

unfoldable pub body_of : MessageType → List ℕ → List Entry → Body
body_of type=vote_request ns entries = vote_request (number_of last= ns) (number_of ballot= ns)
body_of type=vote_yes ns entries = vote_yes (number_of last= ns) (number_of ballot= ns) entries
body_of type=vote_no ns entries = vote_no
body_of type=append ns entries = append (number_of prev= ns) (number_of prevterm= ns) (number_of chosen= ns) entries
body_of type=append_yes ns entries = append_yes (number_of end= ns)
body_of type=append_no ns entries = append_no (number_of length= ns)

unfoldable pub message_of : MessageType → List ℕ → List Entry → Message
message_of t ns entries =
    record { term = number_of term= ns; from = number_of from= ns; to = number_of to= ns; body = body_of t ns entries }
