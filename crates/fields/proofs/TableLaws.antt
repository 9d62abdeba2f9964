-- Laws of the table of fields as the code has it: the fields that numbers are. Assumes nothing.
use Prim.Native.Nat.{ℕ}
use mathlib.Core.List.{List}
use mathlib.Core.Path.{◌≡◌}
use Rattle.message.specs.Answer.{opening_of}
use Rattle.message.specs.Fields.{fields, own_fields}
use Rattle.message.proofs.FieldsLaws.{Slotted}
use Rattle.fields.specs.Table.{type_is, fields_by}
use Rattle.fields.specs.declared.Kind.{Kind}
use Rattle.fields.specs.declared.Kind.TheVariants.{VoteRequest, VoteYes, VoteNo, Append, AppendYes, AppendNo}

-- ---- the code's fields of numbers

-- They have these numbers.
pub fields_numbers : (k : Kind) (ns : List ℕ) → Slotted (type_is k) ns → opening_of (fields_by k ns) ≡ record { type = type_is k; numbers = ns }
unfolding fields own_fields
fields_numbers VoteRequest ns s = λ i. record { type = type_is VoteRequest; numbers = s i }
fields_numbers VoteYes ns s = λ i. record { type = type_is VoteYes; numbers = s i }
fields_numbers VoteNo ns s = λ i. record { type = type_is VoteNo; numbers = s i }
fields_numbers Append ns s = λ i. record { type = type_is Append; numbers = s i }
fields_numbers AppendYes ns s = λ i. record { type = type_is AppendYes; numbers = s i }
fields_numbers AppendNo ns s = λ i. record { type = type_is AppendNo; numbers = s i }
