-- Laws of the code's own types for what a message says: the message of fields has the fields' type and numbers, each in its slot, and fields
-- and messages give each other back. Assumes nothing.
use Prim.Native.Nat.{ℕ}
use mathlib.Core.List.{List, [], ◌∷◌}
use mathlib.Core.Path.{◌≡◌, ap, refl, sym, ◌∙◌}
use lib.ListN.{length}
use Rattle.command.specs.Entry.{Entry}
use Rattle.message.specs.Answer.{body_as, fields_of, many_in, message_by, opening_of, own_in, said_with, type_in}
use Rattle.message.specs.Fields.{body_of, count_in, message_of, numbers, own_numbers, type_of}
use Rattle.message.specs.Message.{Message, Body as Said, vote_request, vote_yes, vote_no, append, append_yes, append_no, entries_of}
use Rattle.message.specs.declared.Body.{Body}
use Rattle.message.specs.declared.Body.TheVariants.{VoteRequest, VoteYes, VoteNo, Append, AppendYes, AppendNo}
use Rattle.message.specs.declared.Fields.{Fields}
use Rattle.message.proofs.FieldsLaws.{none_left}

-- ---- from fields to numbers

body_numbers : (t f o : ℕ) (b : Body) (es : List Entry) → said_with b es ≡ body_of (type_in b) (t ∷ f ∷ o ∷ own_in b) es
unfolding body_of
body_numbers t f o (VoteRequest last ballot) es = refl
body_numbers t f o (VoteYes last ballot count) es = refl
body_numbers t f o VoteNo es = refl
body_numbers t f o (Append prev prevterm chosen count) es = refl
body_numbers t f o (AppendYes end) es = refl
body_numbers t f o (AppendNo n) es = refl

-- The message of fields is that of their type and numbers.
pub message_by_numbers : (f : Fields) (es : List Entry) → message_by f es ≡ message_of (opening_of f).type (opening_of f).numbers es
unfolding message_of
message_by_numbers f es =
    let e = body_numbers f.term.0 f.from.0 f.to.0 f.body es in
    λ i. record { term = f.term.0; from = f.from.0; to = f.to.0; body = e i }

-- They count the same entries.
many_count : (t f o : ℕ) (b : Body) → many_in b ≡ count_in (type_in b) (t ∷ f ∷ o ∷ own_in b)
unfolding count_in
many_count t f o (VoteRequest last ballot) = refl
many_count t f o (VoteYes last ballot count) = refl
many_count t f o VoteNo = refl
many_count t f o (Append prev prevterm chosen count) = refl
many_count t f o (AppendYes end) = refl
many_count t f o (AppendNo n) = refl

pub many_in_count : (f : Fields) → many_in f.body ≡ count_in (opening_of f).type (opening_of f).numbers
many_in_count f = many_count f.term.0 f.from.0 f.to.0 f.body

-- ---- what the message of fields has

-- The type,
pub type_of_said : (b : Body) (es : List Entry) → type_of (said_with b es) ≡ type_in b
unfolding type_of
type_of_said (VoteRequest last ballot) es = refl
type_of_said (VoteYes last ballot count) es = refl
type_of_said VoteNo es = refl
type_of_said (Append prev prevterm chosen count) es = refl
type_of_said (AppendYes end) es = refl
type_of_said (AppendNo n) es = refl

-- the entries, of which there are as many as counted,
pub entries_of_said : (b : Body) (es : List Entry) → length es ≡ many_in b → entries_of (said_with b es) ≡ es
unfolding entries_of
entries_of_said (VoteRequest last ballot) es h = none_left es h
entries_of_said (VoteYes last ballot count) es h = refl
entries_of_said VoteNo es h = none_left es h
entries_of_said (Append prev prevterm chosen count) es h = refl
entries_of_said (AppendYes end) es h = none_left es h
entries_of_said (AppendNo n) es h = none_left es h

own_said : (b : Body) (es : List Entry) → length es ≡ many_in b → own_numbers (said_with b es) ≡ own_in b
unfolding own_numbers
own_said (VoteRequest last ballot) es h = refl
own_said (VoteYes last ballot count) es h = ap (λ (n : ℕ). last.0 ∷ ballot.0 ∷ 0 ∷ n ∷ []) h
own_said VoteNo es h = refl
own_said (Append prev prevterm chosen count) es h = ap (λ (n : ℕ). prev.0 ∷ prevterm.0 ∷ chosen.0 ∷ n ∷ []) h
own_said (AppendYes end) es h = refl
own_said (AppendNo n) es h = refl

-- and the numbers, each in its slot.
pub numbers_message_by : (f : Fields) (es : List Entry) → length es ≡ many_in f.body → numbers (message_by f es) ≡ (opening_of f).numbers
unfolding numbers
numbers_message_by f es h = ap (λ (own : List ℕ). f.term.0 ∷ f.from.0 ∷ f.to.0 ∷ own) (own_said f.body es h)

-- ---- from fields to a message and back

body_back : (b : Body) (es : List Entry) → length es ≡ many_in b → body_as (said_with b es) ≡ b
unfolding body_as
body_back (VoteRequest last ballot) es h = refl
body_back (VoteYes last ballot count) es h = ap (VoteYes last ballot) h
body_back VoteNo es h = refl
body_back (Append prev prevterm chosen count) es h = ap (Append prev prevterm chosen) h
body_back (AppendYes end) es h = refl
body_back (AppendNo n) es h = refl

-- The message of fields has these fields.
pub fields_back : (f : Fields) (es : List Entry) → length es ≡ many_in f.body → fields_of (message_by f es) ≡ f
unfolding fields_of
fields_back f es h =
    let e = body_back f.body es h in
    λ i. record { term = f.term; from = f.from; to = f.to; body = e i }

-- ---- from a message to fields and back

-- The fields of a message count its entries.
pub many_in_entries : (s : Said) → many_in (body_as s) ≡ length (entries_of s)
unfolding body_as entries_of
many_in_entries (vote_request last ballot) = refl
many_in_entries (vote_yes last ballot entries) = refl
many_in_entries vote_no = refl
many_in_entries (append prev prevterm chosen entries) = refl
many_in_entries (append_yes end) = refl
many_in_entries (append_no n) = refl

said_back : (s : Said) → said_with (body_as s) (entries_of s) ≡ s
unfolding body_as entries_of
said_back (vote_request last ballot) = refl
said_back (vote_yes last ballot entries) = refl
said_back vote_no = refl
said_back (append prev prevterm chosen entries) = refl
said_back (append_yes end) = refl
said_back (append_no n) = refl

-- The fields of a message with its entries are the message.
pub message_back : (m : Message) → message_by (fields_of m) (entries_of m.body) ≡ m
unfolding fields_of
message_back m =
    let e = said_back m.body in
    λ i. record { term = m.term; from = m.from; to = m.to; body = e i }

-- They have the message's type, and its numbers, each in its slot.
pub opening_of_fields : (m : Message) → ((opening_of (fields_of m)).type ≡ type_of m.body) × ((opening_of (fields_of m)).numbers ≡ numbers m)
unfolding fields_of
opening_of_fields m =
    let f = fields_of m in
    let es = entries_of m.body in
    let back = message_back m in (
      sym (type_of_said f.body es) ∙ ap (λ (x : Message). type_of x.body) back,
      sym (numbers_message_by f es (sym (many_in_entries m.body))) ∙ ap numbers back,
    )
