-- The table of fields in the code's own types: which type and which field each is, and what numbers in their slots say. Assumes nothing.
use Rattle.std.specs.Prelude.{ℕ, List}
use Rattle.kinds.specs.Of.{hub, place, term}
use Rattle.message.specs.Fields.{
  MessageType,
  type=vote_request,
  type=vote_yes,
  type=vote_no,
  type=append,
  type=append_yes,
  type=append_no,
  Field as Named,
  term=,
  from=,
  to=,
  last=,
  ballot=,
  count=,
  prev=,
  prevterm=,
  chosen=,
  end=,
  length=,
  number_of,
}
use Rattle.message.specs.declared.Body.{Body}
use Rattle.message.specs.declared.Body.TheVariants.{VoteRequest, VoteYes, VoteNo, Append, AppendYes, AppendNo}
use Rattle.message.specs.declared.Fields.{Fields}
use Rattle.fields.specs.declared.Field.{Field}
use Rattle.fields.specs.declared.Field.TheVariants.{Term, From, To, Last, Ballot, Count, Prev, Prevterm, Chosen, End, Length}
use Rattle.fields.specs.declared.Kind.{Kind}
use Rattle.fields.specs.declared.Kind.TheVariants.{
  VoteRequest as Kind-as-VoteRequest,
  VoteYes as Kind-as-VoteYes,
  VoteNo as Kind-as-VoteNo,
  Append as Kind-as-Append,
  AppendYes as Kind-as-AppendYes,
  AppendNo as Kind-as-AppendNo,
}

-- The type that a kind is.
abbrev pub type_is : Kind → MessageType
type_is Kind-as-VoteRequest = type=vote_request
type_is Kind-as-VoteYes = type=vote_yes
type_is Kind-as-VoteNo = type=vote_no
type_is Kind-as-Append = type=append
type_is Kind-as-AppendYes = type=append_yes
type_is Kind-as-AppendNo = type=append_no

-- The field that a field of the code is.
abbrev pub field_is : Field → Named
field_is Term = term=
field_is From = from=
field_is To = to=
field_is Last = last=
field_is Ballot = ballot=
field_is Count = count=
field_is Prev = prev=
field_is Prevterm = prevterm=
field_is Chosen = chosen=
field_is End = end=
field_is Length = length=

-- ---- the fields of numbers

-- What a message of a type says by the numbers of its own fields.
abbrev pub body_by : Kind → List ℕ → Body
body_by Kind-as-VoteRequest ns = VoteRequest (place (number_of last= ns)) (term (number_of ballot= ns))
body_by Kind-as-VoteYes ns = VoteYes (place (number_of last= ns)) (term (number_of ballot= ns)) (number_of count= ns)
body_by Kind-as-VoteNo ns = VoteNo
body_by Kind-as-Append ns =
    Append (place (number_of prev= ns)) (term (number_of prevterm= ns)) (place (number_of chosen= ns)) (number_of count= ns)
body_by Kind-as-AppendYes ns = AppendYes (place (number_of end= ns))
body_by Kind-as-AppendNo ns = AppendNo (place (number_of length= ns))

-- What it says by all its numbers.
abbrev pub fields_by : Kind → List ℕ → Fields
fields_by k ns =
    record {
      term = term (number_of term= ns);
      from = hub (number_of from= ns);
      to = hub (number_of to= ns);
      body = body_by k ns;
    }
