-- Laws of what C is told of a message that it has read: one for each way through the code; and no second answer meets the promise.
-- Assumes nothing.
use Prim.Native.Nat.{ℕ, ◌≤◌, ◌<◌}
use native.Mathlib.Omega.{arith}
use native.Mathlib.Nat.{zero-add}
use mathlib.Core.Path.{◌≡◌, refl, sym, ◌∙◌, ap}
use mathlib.Core.List.{List, ◌++◌}
use mathlib.Core.Option.{Option, none, some}
use borrow.Author.Tests.{lt-ltb, le-ltb}
use lib.Dec.{ltb}
use lib.ListN.{length, drop}
use lib.Seq.{sets, sets-eq}
use Rattle.kinds.specs.Outcome.{done, short_output, bad_message}
use Rattle.kinds.specs.Packed.{half, placed, packed}
use Rattle.kinds.proofs.PackedLaws.{packed_alone, Parts, parts_back}
use Rattle.kinds.proofs.BoolLaws.{cond_either}
use Rattle.kinds.proofs.SizesLaws.{room_small, room_placed}
use Rattle.message.proofs.PlaceLaws.{no_place, with_place, place_with_one, place_with_most}
use Rattle.message.proofs.ReadLaws.{read_sound}
use Rattle.message.specs.Message.{Message}
use Rattle.message.specs.Text.{read, part_from}
use Rattle.message.specs.Answer.{fields_of}
use Rattle.message.specs.declared.Fields.{Fields}
use Rattle.reader.specs.Answer.{read_as, Reads}
use Rattle.reader.specs.declared.Read.{Read}
use Rattle.seek.specs.declared.Wrong.{Wrong}
use Rattle.std.specs.Prelude.{Result, Ok, Err}
use Rattle.reader.proofs.AnswerLaws.{refused_never, unread_at}
use Rattle.numbers.specs.Numbers.{message_numbers, numbers_of, numbers_in}
use Rattle.numbers.proofs.NumbersLaws.{numbers_same, numbers_eight}
use Rattle.alone.specs.Told.{Told, tells_read, numbers_told, Tells}

module _ (s numbers : List ℕ) where
  -- Fewer than eight numbers are lent.
  pub tells_short : length numbers < message_numbers → Tells (numbers_told s numbers) s short_output numbers
  unfolding numbers_told
  tells_short h =
      rw (lt-ltb (length numbers) message_numbers h) (record { place = 0; place_is = no_place (λ e. omega (arith, e)); returned = refl; left = refl })

  -- The text is no legal message; its place is told.
  pub tells_refused :
      message_numbers ≤ length numbers → {a : Result Read Wrong} {w : Wrong} {r : ℕ} → Reads s a → a ≡ Err w → r ≡ placed bad_message w.place
      → Tells (numbers_told s numbers) s r numbers
  unfolding numbers_told tells_read
  tells_refused h {a} {w} told is returned =
      let u = unread_at s told is in
      rw (le-ltb (length numbers) message_numbers h, u.none_read)
      (record { place = w.place; place_is = with_place u.at; returned = returned ∙ sym (packed_alone (placed bad_message w.place)); left = refl })

  read_is : (p : ℕ) (o : Option Message) (m : Read) → read_as s p o ≡ Ok m →
      tells_read s numbers o ≡ record { outcome = done; entries = m.entries; numbers = numbers_in m.fields ++ drop message_numbers numbers }
  unfolding read_as tells_read
  read_is p none m e = absurd (refused_never e)
  read_is p (some x) m e =
      let f= : m.fields ≡ fields_of x = cc in
      let n= : m.entries ≡ part_from s (some x) = cc in
      let put : numbers_of x ≡ numbers_in m.fields = sym (ap (λ (g : Fields). numbers_in g) f= ∙ numbers_same x) in
      λ i. record { outcome = done; entries = sym n= i; numbers = put i ++ drop message_numbers numbers }

  -- Its numbers are put.
  pub tells_message : {left : List ℕ} (m : Read) → message_numbers ≤ length numbers → {a : Result Read Wrong} → Reads s a → a ≡ Ok m
      → left ≡ sets numbers 0 (numbers_in m.fields) → {r : ℕ} → r ≡ packed done m.entries → Tells (numbers_told s numbers) s r left
  unfolding numbers_told
  tells_message m h told is put returned =
      let eight = numbers_eight m.fields in
      let written : sets numbers 0 (numbers_in m.fields) ≡ numbers_in m.fields ++ drop (length (numbers_in m.fields)) numbers =
      sets-eq (numbers_in m.fields) numbers 0 (omega arith) ∙ ap (λ (k : ℕ). numbers_in m.fields ++ drop k numbers) (zero-add (length (numbers_in m.fields))) in
      rw (le-ltb (length numbers) message_numbers h, read_is told.place (read s) m (sym told.answer ∙ is))
      (record {
        place = 0;
        place_is = no_place (λ four. omega (arith, four));
        returned = returned;
        left = put ∙ written ∙ ap (λ (k : ℕ). numbers_in m.fields ++ drop k numbers) eight;
      })

-- Where the entry lines begin fits the upper half.
pub entries_small : (s : List ℕ) (m : Read) {a : Result Read Wrong} → Reads s a → a ≡ Ok m → m.entries < half
unfolding read_as part_from
entries_small s m told is = by (read s) refl (sym told.answer ∙ is)
  where
    by : (o : Option Message) → read s ≡ o → read_as s told.place o ≡ Ok m → m.entries < half
    by none q e = absurd (refused_never e)
    by (some x) q e =
        let n= : m.entries ≡ part_from s (some x) = cc in
        let fits = (read_sound s x q).fits in
        let small = room_small in
        let from : part_from s (some x) ≤ length s = omega arith in
        omega arith

-- Two answers that meet the promise of reading a message are the same.
pub tells_unique :
    {t : Told} {s : List ℕ} {r r' : ℕ} {numbers numbers' : List ℕ} → Tells t s r numbers → Tells t s r' numbers' → (r ≡ r') × (numbers ≡ numbers')
tells_unique {t} {s} p q =
    let same = place_with_one t.outcome s p.place_is q.place_is in
    (p.returned ∙ ap (λ (x : ℕ). packed (placed t.outcome x) t.entries) same ∙ sym q.returned, p.left ∙ sym q.left)

-- Reading comes to 0, 3 or 4.
told_last : (s numbers : List ℕ) → (numbers_told s numbers).outcome ≤ bad_message
unfolding numbers_told tells_read
told_last s numbers =
    cond_either (λ (t : Told). t.outcome ≤ bad_message) (ltb (length numbers) message_numbers) (λ e. omega arith) (λ e. by (read s))
  where
    by : (o : Option Message) → (tells_read s numbers o).outcome ≤ bad_message
    by none = omega arith
    by (some m) = omega arith

-- What is returned comes apart into the outcome, the place and where the entry lines begin, each as it was put in.
pub tells_parts :
    (s numbers : List ℕ) {r : ℕ} {left : List ℕ} (p : Tells (numbers_told s numbers) s r left)
    → Parts r (numbers_told s numbers).outcome p.place (numbers_told s numbers).entries
tells_parts s numbers p =
    let t = numbers_told s numbers in
    rw p.returned
    (parts_back t.outcome p.place t.entries (omega (arith, told_last s numbers)) (omega (arith, place_with_most t.outcome s p.place_is, room_placed)))
