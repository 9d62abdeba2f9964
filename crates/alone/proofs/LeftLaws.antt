-- Laws of what C is told of a message that it has written by its numbers: no second answer meets the promise; every message's numbers are taken as its fields; and what is written is read back as the same numbers. Assumes nothing.
use Prim.Native.Nat.{ℕ, ◌≤◌, ◌<◌}
use native.Mathlib.Omega.{arith}
use mathlib.Core.Path.{◌≡◌, refl, sym, ◌∙◌, ap, ap₂}
use mathlib.Core.Bool.{true}
use mathlib.Core.List.{List, ◌++◌}
use borrow.Author.Tests.{le-ltb}
use lib.Dec.{ltb}
use lib.ListN.{length, take, drop}
use Rattle.kinds.specs.Outcome.{done}
use Rattle.kinds.specs.Packed.{half, packed}
use Rattle.kinds.specs.Sizes.{text_room}
use Rattle.kinds.proofs.SizesLaws.{room_small}
use Rattle.command.proofs.Tests.{by_test}
use Rattle.message.specs.Write.{message_with}
use Rattle.message.specs.declared.Fields.{Fields}
use Rattle.numbers.specs.Numbers.{message_numbers, numbers_of, numbers_in, fields_with, are_fields}
use Rattle.numbers.proofs.NumbersLaws.{numbers_same, fields_numbers}
use Rattle.alone.specs.Written.{Written, written_by, write_bytes, WritesText}
use Rattle.kinds.specs.Refusal.{outcome_of}
use Rattle.kinds.specs.Same.{same}
use Rattle.kinds.specs.declared.Refusal.{Refusal}
use Rattle.std.specs.Prelude.{Result, Ok}
use Rattle.alone.specs.Told.{tells_read, numbers_told}
use Rattle.alone.specs.Left.{writes, IsLeft}
use Rattle.alone.proofs.WrittenLaws.{written_back, written_fits}
use Rattle.kinds.proofs.SameLaws.{same_is, is_same}

-- ---- each way through the code

-- Eight numbers are written as their fields are, if they are those of their fields.
pub by_numbers : (ns : List ℕ) → length ns ≡ message_numbers → are_fields ns ≡ same (numbers_in (fields_with ns)) ns
unfolding are_fields
by_numbers ns h = refl

-- ---- what C is told

module _ (ns rows out : List ℕ) {a : Result ℕ Refusal} {after : List ℕ} (w : WritesText (writes ns rows out) a after) where
  -- The answer is told.
  pub leaves_answer : {n : ℕ} → n ≡ packed (outcome_of a) (write_bytes a) → IsLeft (writes ns rows out) n after
  leaves_answer p = record { returned = p ∙ ap₂ packed w.outcome_is w.bytes_is; left = w.out_is }

-- Two answers that meet the promise of writing a message are the same.
pub leaves_unique : {w : Written} {r r' : ℕ} {out out' : List ℕ} → IsLeft w r out → IsLeft w r' out' → (r ≡ r') × (out ≡ out')
leaves_unique p q = (p.returned ∙ sym q.returned, p.left ∙ sym q.left)

-- ---- a message's own numbers

-- Every message can be written by its numbers.
pub writes_numbers : (f : Fields) (rows out : List ℕ) → text_room ≤ length out → writes (numbers_in f) rows out ≡ written_by f rows out
unfolding writes are_fields
writes_numbers f rows out h = rw (le-ltb (length out) text_room h, fields_numbers f, is_same (numbers_in f) (numbers_in f) refl)

-- ---- what is written is read back

module _ (ns rows out : List ℕ) where
  is_written : (writes ns rows out).outcome ≡ done → (are_fields ns ≡ true) × (writes ns rows out ≡ written_by (fields_with ns) rows out)
  unfolding writes
  is_written told =
      by_test (ltb (length out) text_room)
      (λ short.
      let z : ◌≡◌ {A = ℕ} 3 0 = rw short at told in
      absurd (omega arith))
      (λ long.
      by_test (are_fields ns)
      (λ yes. (yes, rw (long, yes)))
      (λ no.
      let z : ◌≡◌ {A = ℕ} 4 0 = rw (long, no) at told in
      absurd (omega arith)))

  -- How many bytes the text has fits the upper half.
  pub bytes_small : {r : Result ℕ Refusal} {n : ℕ} {after : List ℕ} → WritesText (writes ns rows out) r after → r ≡ Ok n → n < half
  bytes_small {r} {n} t is =
      let done_is : (writes ns rows out).outcome ≡ done = sym t.outcome_is ∙ ap (λ (x : Result ℕ Refusal). outcome_of x) is in
      let w = is_written done_is in
      let told : (written_by (fields_with ns) rows out).outcome ≡ done = rw (← w.1) done_is in
      let n= : n ≡ (written_by (fields_with ns) rows out).bytes = sym (ap (λ (x : Result ℕ Refusal). write_bytes x) is) ∙ t.bytes_is ∙ ap (λ (v : Written). v.bytes) w.1 in
      omega (arith, n=, written_fits (fields_with ns) rows out told, room_small)

  -- Reading the bytes that were written tells the numbers that were given.
  pub written_told : (lent : List ℕ) → (writes ns rows out).outcome ≡ done → message_numbers ≤ length lent →
      ((numbers_told (take (writes ns rows out).bytes (writes ns rows out).out) lent).outcome ≡ done)
      × ((numbers_told (take (writes ns rows out).bytes (writes ns rows out).out) lent).numbers ≡ ns ++ drop message_numbers lent)
  unfolding numbers_told tells_read are_fields
  written_told lent told h =
      let w = is_written told in
      let f = fields_with ns in
      let m = message_with f rows in
      let back = written_back f rows out (rw w.1 at told) in
      let same_numbers : numbers_of m ≡ ns = sym (numbers_same m) ∙ ap (λ (g : Fields). numbers_in g) back.fields_are ∙ same_is (numbers_in f) ns w.0 in
      rw (w.1, le-ltb (length lent) message_numbers h, back.read_is) (refl, ap (λ (l : List ℕ). l ++ drop message_numbers lent) same_numbers)
