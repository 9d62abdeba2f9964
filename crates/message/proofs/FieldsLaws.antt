-- Laws of the table of fields: a message is given back by its type, its numbers and its entries, and these by the message that they make.
-- Assumes nothing.
use Prim.Native.Nat.{ℕ, zero, suc}
use native.Mathlib.Omega.{arith}
use mathlib.Core.Path.{◌≡◌, refl, sym, ◌∙◌, ap}
use mathlib.Core.List.{List, [], ◌∷◌}
use lib.ListN.{length, get_or}
use Rattle.command.specs.Entry.{Entry}
use Rattle.message.specs.Message.{Message, Body, vote_request, vote_yes, vote_no, append, append_yes, append_no, entries_of}
use Rattle.message.specs.Fields.{
  MessageType,
  type=vote_request,
  type=vote_yes,
  type=vote_no,
  type=append,
  type=append_yes,
  type=append_no,
  Field,
  term=,
  from=,
  to=,
  last=,
  ballot=,
  prev=,
  prevterm=,
  chosen=,
  own_fields,
  fields,
  unset,
  number_of,
  with_number,
  type_of,
  own_numbers,
  numbers,
  count_in,
  body_of,
  message_of,
}

-- ---- from a message and back

body_of_numbers : (term from to : ℕ) (b : Body) → body_of (type_of b) (term ∷ from ∷ to ∷ own_numbers b) (entries_of b) ≡ b
unfolding body_of type_of own_numbers entries_of
body_of_numbers term from to (vote_request last ballot) = refl
body_of_numbers term from to (vote_yes last ballot entries) = refl
body_of_numbers term from to vote_no = refl
body_of_numbers term from to (append prev prevterm chosen entries) = refl
body_of_numbers term from to (append_yes end) = refl
body_of_numbers term from to (append_no length) = refl

-- A message is that of its type, its numbers and its entries.
pub message_of_numbers : (m : Message) → message_of (type_of m.body) (numbers m) (entries_of m.body) ≡ m
unfolding message_of numbers
message_of_numbers m =
    λ i. record { term = m.term; from = m.from; to = m.to; body = body_of_numbers m.term m.from m.to m.body i }

count_in_own : (term from to : ℕ) (b : Body) → count_in (type_of b) (term ∷ from ∷ to ∷ own_numbers b) ≡ length (entries_of b)
unfolding count_in type_of own_numbers entries_of
count_in_own term from to (vote_request last ballot) = refl
count_in_own term from to (vote_yes last ballot entries) = refl
count_in_own term from to vote_no = refl
count_in_own term from to (append prev prevterm chosen entries) = refl
count_in_own term from to (append_yes end) = refl
count_in_own term from to (append_no length) = refl

-- The count that is written is the number of entries.
pub count_in_numbers : (m : Message) → count_in (type_of m.body) (numbers m) ≡ length (entries_of m.body)
unfolding numbers
count_in_numbers m = count_in_own m.term m.from m.to m.body

-- ---- numbers in their slots

-- The elements of a list, spelled out.
abbrev pub tab : ℕ → (ℕ → ℕ) → List ℕ
tab zero f = []
tab (suc k) f = f 0 ∷ tab k (λ i. f (suc i))

tab_get_d : (ns : List ℕ) → tab (length ns) (λ i. get_or ns i 0) ≡ ns
tab_get_d [] = refl
tab_get_d (n ∷ ns) = ap (λ (l : List ℕ). n ∷ l) (tab_get_d ns)

-- So many numbers are those at the places from 0 on.
pub spelled : (k : ℕ) (ns : List ℕ) → length ns ≡ k → tab k (λ i. get_or ns i 0) ≡ ns
spelled k ns h = ap (λ (n : ℕ). tab n (λ i. get_or ns i 0)) (sym h) ∙ tab_get_d ns

-- The numbers of these fields, put into their slots of others.
abbrev pub only : List Field → List ℕ → List ℕ → List ℕ
only [] ns others = others
only (f ∷ fs) ns others = only fs ns (with_number f (number_of f ns) others)

-- The slots of fields that the type does not have are 0.
abbrev pub Slotted : MessageType → List ℕ → Type 0
Slotted t ns = only (fields t) ns unset ≡ ns

own_slotted : (term from to : ℕ) (b : Body) → Slotted (type_of b) (term ∷ from ∷ to ∷ own_numbers b)
unfolding fields own_fields type_of own_numbers
own_slotted term from to (vote_request last ballot) = refl
own_slotted term from to (vote_yes last ballot entries) = refl
own_slotted term from to vote_no = refl
own_slotted term from to (append prev prevterm chosen entries) = refl
own_slotted term from to (append_yes end) = refl
own_slotted term from to (append_no length) = refl

-- Those of a message are.
pub numbers_slotted : (m : Message) → Slotted (type_of m.body) (numbers m)
unfolding numbers
numbers_slotted m = own_slotted m.term m.from m.to m.body

-- ---- from a type, numbers and entries, and back

-- No entries.
pub none_left : (es : List Entry) → length es ≡ 0 → ◌≡◌ {A = List Entry} [] es
none_left [] h = refl
none_left (e ∷ es) h = absurd (omega arith)

-- The type,
pub type_of_message_of : (t : MessageType) (ns : List ℕ) (es : List Entry) → type_of (message_of t ns es).body ≡ t
unfolding type_of message_of body_of
type_of_message_of type=vote_request ns es = refl
type_of_message_of type=vote_yes ns es = refl
type_of_message_of type=vote_no ns es = refl
type_of_message_of type=append ns es = refl
type_of_message_of type=append_yes ns es = refl
type_of_message_of type=append_no ns es = refl

-- the entries, of which there are as many as counted,
pub entries_of_message_of : (t : MessageType) (ns : List ℕ) (es : List Entry) → length es ≡ count_in t ns → entries_of (message_of t ns es).body ≡ es
unfolding entries_of message_of body_of count_in
entries_of_message_of type=vote_request ns es h = none_left es h
entries_of_message_of type=vote_yes ns es h = refl
entries_of_message_of type=vote_no ns es h = none_left es h
entries_of_message_of type=append ns es h = refl
entries_of_message_of type=append_yes ns es h = none_left es h
entries_of_message_of type=append_no ns es h = none_left es h

-- and the numbers, each in its slot.
pub numbers_message_of : (t : MessageType) (ns : List ℕ) (es : List Entry) → Slotted t ns → length es ≡ count_in t ns → numbers (message_of t ns es) ≡ ns
unfolding numbers message_of body_of own_numbers count_in fields own_fields
numbers_message_of type=vote_request ns es s h = s
numbers_message_of type=vote_yes ns es s h =
    ap (λ (n : ℕ). number_of term= ns ∷ number_of from= ns ∷ number_of to= ns ∷ number_of last= ns ∷ number_of ballot= ns ∷ 0 ∷ n ∷ []) h ∙ s
numbers_message_of type=vote_no ns es s h = s
numbers_message_of type=append ns es s h =
    ap (λ (n : ℕ). number_of term= ns ∷ number_of from= ns ∷ number_of to= ns ∷ number_of prev= ns ∷ number_of prevterm= ns ∷ number_of chosen= ns ∷ n ∷ []) h ∙ s
numbers_message_of type=append_yes ns es s h = s
numbers_message_of type=append_no ns es s h = s
