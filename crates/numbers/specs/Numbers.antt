-- A message's eight numbers, as C has them: the number of its type, then the numbers of its fields, each in its slot (term, from, to, up to three
-- of the type's own, and the count of its entries), 0 where the type has no field. Assumes nothing.
use Rattle.std.specs.Prelude.{ℕ, Bool, cond, List, ◌∷◌, eqb, get_or, drop}
use Rattle.message.specs.Message.{Message}
use Rattle.message.specs.Fields.{
  MessageType,
  type=vote_request,
  type=vote_yes,
  type=vote_no,
  type=append,
  type=append_yes,
  type=append_no,
  type_of,
  numbers,
}
use Rattle.message.specs.Answer.{opening_of}
use Rattle.message.specs.declared.Fields.{Fields}
use Rattle.fields.specs.Table.{fields_by}
use Rattle.fields.specs.declared.Kind.{Kind}
use Rattle.fields.specs.declared.Kind.TheVariants.{VoteRequest, VoteYes, VoteNo, Append, AppendYes, AppendNo}
use Rattle.kinds.specs.Same.{same}

abbrev pub message_numbers : ℕ
message_numbers = 8

-- ---- from a message to its numbers

-- The type's number, 1 to 6 in the order of rule R28.
abbrev pub type_number : MessageType → ℕ
type_number type=vote_request = 1
type_number type=vote_yes = 2
type_number type=vote_no = 3
type_number type=append = 4
type_number type=append_yes = 5
type_number type=append_no = 6

unfoldable pub numbers_of : Message → List ℕ
numbers_of m = type_number (type_of m.body) ∷ numbers m

-- Those of the code's own fields.
abbrev pub numbers_in : Fields → List ℕ
numbers_in f = type_number (opening_of f).type ∷ (opening_of f).numbers

-- ---- and back

-- The type of a number. What is no type's number is read as 6.
unfoldable pub kind_with : ℕ → Kind
kind_with n =
    cond (eqb n 1) VoteRequest
    (cond (eqb n 2) VoteYes (cond (eqb n 3) VoteNo (cond (eqb n 4) Append (cond (eqb n 5) AppendYes AppendNo))))

-- The fields of eight numbers; those that the type does not have are passed over.
unfoldable pub fields_with : List ℕ → Fields
fields_with ns = fields_by (kind_with (get_or ns 0 0)) (drop 1 ns)

-- Whether numbers are a message's: exactly those of the fields that they give. So there are eight, the first is a type's, and each that the
-- type does not have is 0.
unfoldable pub are_fields : List ℕ → Bool
are_fields ns = same (numbers_in (fields_with ns)) ns
