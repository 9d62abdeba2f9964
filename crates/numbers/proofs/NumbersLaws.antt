-- Laws of a message's eight numbers: the code's fields have the message's numbers, numbers give their fields back, and how the code puts and
-- compares them. Assumes nothing.
use Prim.Native.Nat.{ℕ}
use native.Mathlib.Omega.{arith}
use mathlib.Core.Path.{◌≡◌, refl, sym, ◌∙◌, ap, ap₂}
use mathlib.Core.Bool.{Bool, false, ◌&&◌}
use mathlib.Core.List.{List, [], ◌∷◌}
use lib.Dec.{eqb}
use lib.ListN.{length}
use lib.Pointwise.{pointwise}
use Rattle.command.proofs.Tests.{by_test}
use Rattle.message.specs.Message.{Message}
use Rattle.message.specs.Fields.{MessageType}
use Rattle.message.specs.Answer.{own_in, fields_of, type_in}
use Rattle.message.specs.declared.Body.{Body}
use Rattle.message.specs.declared.Body.TheVariants.{VoteRequest, VoteYes, VoteNo, Append, AppendYes, AppendNo}
use Rattle.message.specs.declared.Fields.{Fields}
use Rattle.message.proofs.AnswerLaws.{opening_of_fields}
use Rattle.fields.specs.Table.{fields_by}
use Rattle.numbers.specs.Numbers.{message_numbers, type_number, numbers_of, numbers_in, kind_with, fields_with, are_fields}
use Rattle.kinds.specs.Same.{same}
use Rattle.kinds.proofs.SameLaws.{same_is}

-- ---- a message's numbers

-- The numbers of a message's fields are the message's.
pub numbers_same : (m : Message) → numbers_in (fields_of m) ≡ numbers_of m
unfolding numbers_of
numbers_same m =
    let e = opening_of_fields m in
    ap₂ (λ (t : MessageType) (ns : List ℕ). type_number t ∷ ns) e.0 e.1

own_four : (b : Body) → length (own_in b) ≡ 4
own_four (VoteRequest last ballot) = refl
own_four (VoteYes last ballot count) = refl
own_four VoteNo = refl
own_four (Append prev prevterm chosen count) = refl
own_four (AppendYes end) = refl
own_four (AppendNo n) = refl

-- There are eight.
pub numbers_eight : (f : Fields) → length (numbers_in f) ≡ message_numbers
numbers_eight f = omega (arith, own_four f.body)

body_back : (t f o : ℕ) (b : Body) → (fields_by (kind_with (type_number (type_in b))) (t ∷ f ∷ o ∷ own_in b)).body ≡ b
unfolding kind_with
body_back t f o (VoteRequest last ballot) = refl
body_back t f o (VoteYes last ballot count) = refl
body_back t f o VoteNo = refl
body_back t f o (Append prev prevterm chosen count) = refl
body_back t f o (AppendYes end) = refl
body_back t f o (AppendNo n) = refl

-- They give the fields back.
pub fields_numbers : (f : Fields) → fields_with (numbers_in f) ≡ f
unfolding fields_with
fields_numbers f =
    let e = body_back f.term.0 f.from.0 f.to.0 f.body in
    λ i. record { term = f.term; from = f.from; to = f.to; body = e i }

-- Fewer or more than eight are no message's.
pub other_count : (ns : List ℕ) → (length ns ≡ message_numbers → ⊥) → are_fields ns ≡ false
unfolding are_fields
other_count ns h =
    by_test (are_fields ns)
    (λ yes. absurd (h (sym (ap length (same_is (numbers_in (fields_with ns)) ns yes)) ∙ numbers_eight (fields_with ns))))
    (λ no. no)

-- ---- what the code does with them

-- The library's test whether two lists are equal.
pub same_equal : (xs ys : List ℕ) → same xs ys ≡ pointwise eqb xs ys
unfolding same
same_equal [] [] = refl
same_equal [] (y ∷ ys) = refl
same_equal (x ∷ xs) [] = refl
same_equal (x ∷ xs) (y ∷ ys) = ap (λ (t : Bool). eqb x y && t) (same_equal xs ys)

-- The fields that numbers give, compared with the numbers.
pub fields_tested : (ns : List ℕ) {f : Fields} {t : Bool} → f ≡ fields_with ns → t ≡ same (numbers_in f) ns → t ≡ are_fields ns
unfolding are_fields
fields_tested ns f= t= = t= ∙ ap (λ (f : Fields). same (numbers_in f) ns) f=
