-- The code's own types for what a message says: which message they stand for. Assumes nothing.
use Rattle.std.specs.Prelude.{ℕ, List, [], ◌∷◌, length}
use Rattle.kinds.specs.Of.{hub, place, term}
use Rattle.message.specs.Message.{
  Message,
  Body as Said,
  vote_request,
  vote_yes,
  vote_no,
  append,
  append_yes,
  append_no,
}
use Rattle.message.specs.Fields.{
  MessageType,
  type=vote_request,
  type=vote_yes,
  type=vote_no,
  type=append,
  type=append_yes,
  type=append_no,
}
use Rattle.message.specs.Opening.{Opening}
use Rattle.message.specs.declared.Body.{Body}
use Rattle.message.specs.declared.Body.TheVariants.{VoteRequest, VoteYes, VoteNo, Append, AppendYes, AppendNo}
use Rattle.message.specs.declared.Fields.{Fields}
use Rattle.command.specs.Entry.{Entry}

-- ---- the fields that are read and written, and their numbers, each in its slot

-- The type of the fields.
abbrev pub type_in : Body → MessageType
type_in (VoteRequest last ballot) = type=vote_request
type_in (VoteYes last ballot count) = type=vote_yes
type_in VoteNo = type=vote_no
type_in (Append prev prevterm chosen count) = type=append
type_in (AppendYes end) = type=append_yes
type_in (AppendNo n) = type=append_no

abbrev pub own_in : Body → List ℕ
own_in (VoteRequest last ballot) = last.0 ∷ ballot.0 ∷ 0 ∷ 0 ∷ []
own_in (VoteYes last ballot count) = last.0 ∷ ballot.0 ∷ 0 ∷ count ∷ []
own_in VoteNo = 0 ∷ 0 ∷ 0 ∷ 0 ∷ []
own_in (Append prev prevterm chosen count) = prev.0 ∷ prevterm.0 ∷ chosen.0 ∷ count ∷ []
own_in (AppendYes end) = end.0 ∷ 0 ∷ 0 ∷ 0 ∷ []
own_in (AppendNo n) = n.0 ∷ 0 ∷ 0 ∷ 0 ∷ []

-- The type and the numbers of the fields.
abbrev pub opening_of : Fields → Opening
opening_of f =
    record { type = type_in f.body; numbers = f.term.0 ∷ f.from.0 ∷ f.to.0 ∷ own_in f.body }

-- ---- the message that fields stand for

-- What a body says, with these entries where its type has entries.
abbrev pub said_with : Body → List Entry → Said
said_with (VoteRequest last ballot) es = vote_request last.0 ballot.0
said_with (VoteYes last ballot count) es = vote_yes last.0 ballot.0 es
said_with VoteNo es = vote_no
said_with (Append prev prevterm chosen count) es = append prev.0 prevterm.0 chosen.0 es
said_with (AppendYes end) es = append_yes end.0
said_with (AppendNo n) es = append_no n.0

-- How many entries a body has.
abbrev pub many_in : Body → ℕ
many_in (VoteRequest last ballot) = 0
many_in (VoteYes last ballot count) = count
many_in VoteNo = 0
many_in (Append prev prevterm chosen count) = count
many_in (AppendYes end) = 0
many_in (AppendNo n) = 0

-- The message of these fields with these entries.
abbrev pub message_by : Fields → List Entry → Message
message_by f es = record { term = f.term.0; from = f.from.0; to = f.to.0; body = said_with f.body es }

-- ---- the fields of a message; the count is the number of entries

unfoldable pub body_as : Said → Body
body_as (vote_request last ballot) = VoteRequest (place last) (term ballot)
body_as (vote_yes last ballot entries) = VoteYes (place last) (term ballot) (length entries)
body_as vote_no = VoteNo
body_as (append prev prevterm chosen entries) = Append (place prev) (term prevterm) (place chosen) (length entries)
body_as (append_yes end) = AppendYes (place end)
body_as (append_no n) = AppendNo (place n)

unfoldable pub fields_of : Message → Fields
fields_of m = record { term = term m.term; from = hub m.from; to = hub m.to; body = body_as m.body }
