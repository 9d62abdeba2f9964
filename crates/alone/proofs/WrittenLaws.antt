-- Laws of writing a message alone: the text written is what is promised; no second answer meets the promise; and what is written is read back.
-- Assumes nothing.
use Prim.Native.Nat.{ℕ, ◌+◌, ◌*◌, ◌≤◌}
use native.Mathlib.Omega.{arith}
use native.Mathlib.Nat.{zero-add}
use mathlib.Core.Path.{◌≡◌, refl, sym, ◌∙◌, ap, ap₂}
use mathlib.Core.Bool.{true}
use mathlib.Core.List.{List, ◌++◌}
use mathlib.Core.Option.{some}
use borrow.Author.Tests.{le-ltb, eq-eqb}
use lib.Dec.{ltb, eqb}
use lib.ListN.{length, take, drop}
use lib.Seq.{sets-eq, take_at}
use Rattle.kinds.specs.Outcome.{done}
use Rattle.kinds.specs.Refusal.{outcome_of}
use Rattle.kinds.specs.declared.Refusal.{Refusal}
use Rattle.kinds.specs.declared.Refusal.TheVariants.{
  NotKnown,
  BadState,
  ShortOutput,
  BadMessage,
  NotAddressed,
  Stale,
  Contradicting,
  WrongRole,
  NoTermLeft,
  BadCommand,
  LogFull,
  OutOfRange,
  NothingNew,
  NotPlayable,
  BadCalibration,
  BadElapsed,
}
use Rattle.std.specs.Prelude.{cond, Result, Ok, Err}
use Rattle.kinds.specs.Sizes.{text_room, row_size}
use Rattle.text.specs.Wrote.{Wrote}
use Rattle.command.proofs.Tests.{by_test, both}
use Rattle.message.specs.Legal.{legal_message}
use Rattle.message.specs.Answer.{fields_of, many_in}
use Rattle.rows.specs.Rows.{entry_of}
use Rattle.rows.proofs.RowLaws.{rows_in_length}
use Rattle.message.specs.Rows.{row_entries}
use Rattle.message.specs.Text.{text, read}
use Rattle.message.specs.Write.{message_with}
use Rattle.message.specs.declared.Fields.{Fields}
use Rattle.message.proofs.AnswerLaws.{fields_back}
use Rattle.message.proofs.ReadLaws.{text_most, read_text}
use Rattle.alone.specs.Written.{is_message, Written, written_text, written_by, write_bytes, WritesText}

-- ---- the text written

-- It is what is promised, where there is a row for each entry, the message is legal, and the output is long enough.
pub written_message :
    {n : ℕ} {after : List ℕ} (f : Fields) (rows out : List ℕ) → length rows ≡ many_in f.body * row_size → legal_message (message_with f rows) ≡ true
    → text_room ≤ length out → Wrote out 0 (text (message_with f rows)) n after → WritesText (written_by f rows out) (Ok n) after
unfolding written_by is_message
written_message f rows out held legal long w =
    let s = text (message_with f rows) in
    let fits : 0 + length s ≤ length out = omega (arith, text_most (message_with f rows) legal, long) in
    rw (le-ltb (length out) text_room long, eq-eqb (length rows) (many_in f.body * row_size) held, legal)
    (record {
      outcome_is = refl;
      bytes_is = w.to ∙ zero-add (length s);
      out_is = w.text ∙ sets-eq s out 0 fits ∙ ap (λ (k : ℕ). s ++ drop k out) (zero-add (length s));
    })

-- ---- no second answer

refusal_with : ℕ → Refusal
refusal_with n =
    cond (eqb n 1) NotKnown
    (cond (eqb n 2) BadState
    (cond (eqb n 3) ShortOutput
    (cond (eqb n 4) BadMessage
    (cond (eqb n 5) NotAddressed
    (cond (eqb n 6) Stale
    (cond (eqb n 7) Contradicting
    (cond (eqb n 8) WrongRole
    (cond (eqb n 9) NoTermLeft
    (cond (eqb n 10) BadCommand
    (cond (eqb n 11) LogFull
    (cond (eqb n 12) OutOfRange
    (cond (eqb n 13) NothingNew (cond (eqb n 14) NotPlayable (cond (eqb n 15) BadCalibration BadElapsed))))))))))))))

-- An outcome and the bytes tell an answer.
answer_with : ℕ → ℕ → Result ℕ Refusal
answer_with outcome bytes = cond (eqb outcome done) (Ok bytes) (Err (refusal_with outcome))

answer_back : (r : Result ℕ Refusal) → answer_with (outcome_of r) (write_bytes r) ≡ r
unfolding answer_with refusal_with
answer_back (Ok n) = refl
answer_back (Err NotKnown) = refl
answer_back (Err BadState) = refl
answer_back (Err ShortOutput) = refl
answer_back (Err BadMessage) = refl
answer_back (Err NotAddressed) = refl
answer_back (Err Stale) = refl
answer_back (Err Contradicting) = refl
answer_back (Err WrongRole) = refl
answer_back (Err NoTermLeft) = refl
answer_back (Err BadCommand) = refl
answer_back (Err LogFull) = refl
answer_back (Err OutOfRange) = refl
answer_back (Err NothingNew) = refl
answer_back (Err NotPlayable) = refl
answer_back (Err BadCalibration) = refl
answer_back (Err BadElapsed) = refl

answers_same : (r r' : Result ℕ Refusal) → outcome_of r ≡ outcome_of r' → write_bytes r ≡ write_bytes r' → r ≡ r'
answers_same r r' p q = sym (answer_back r) ∙ ap₂ answer_with p q ∙ answer_back r'

-- Two answers that meet the promise of writing a message are the same.
pub writes_unique : {w : Written} {r r' : Result ℕ Refusal} {out out' : List ℕ} → WritesText w r out → WritesText w r' out' → (r ≡ r') × (out ≡ out')
writes_unique {w} {r} {r'} p q =
    (answers_same r r' (p.outcome_is ∙ sym q.outcome_is) (p.bytes_is ∙ sym q.bytes_is), p.out_is ∙ sym q.out_is)

-- ---- what is written is read back

-- What holds of a text that was written: reading it gives the message, and the message has the fields that were given.
pub record ReadBack (f : Fields) (rows s : List ℕ) : Type 0 where
  pub read_is : read s ≡ some (message_with f rows)
  pub fields_are : fields_of (message_with f rows) ≡ f

module _ (f : Fields) (rows out : List ℕ) where
  abbrev s : List ℕ
  s = text (message_with f rows)

  -- Where the outcome is 0 there is a message, and its text is written.
  is_written : (written_by f rows out).outcome ≡ done → (legal_message (message_with f rows) ≡ true) × (written_by f rows out ≡ written_text s out)
  unfolding written_by is_message
  is_written told =
      by_test (ltb (length out) text_room)
      (λ short.
      let z : ◌≡◌ {A = ℕ} 3 0 = rw short at told in
      absurd (omega arith))
      (λ long.
      by_test (is_message f rows)
      (λ yes. ((both (eqb (length rows) (many_in f.body * row_size)) (legal_message (message_with f rows)) yes).1, rw (long, yes)))
      (λ no.
      let z : ◌≡◌ {A = ℕ} 4 0 = rw (long, no) at told in
      absurd (omega arith)))

  -- The bytes that were written are read back.
  pub written_back : (written_by f rows out).outcome ≡ done → ReadBack f rows (take (written_by f rows out).bytes (written_by f rows out).out)
  unfolding message_with
  written_back told =
      let w = is_written told in
      rw (w.1, take_at s (drop (length s) out) (length s) refl)
      (record {
        read_is = read_text (message_with f rows) w.0;
        fields_are = fields_back f (row_entries (many_in f.body) rows) (rows_in_length entry_of (many_in f.body) rows);
      })

  -- They are no more than an output has room for.
  pub written_fits : (written_by f rows out).outcome ≡ done → (written_by f rows out).bytes ≤ text_room
  written_fits told =
      let w = is_written told in
      rw w.1 (text_most (message_with f rows) w.0)

  -- Of what `write_message` leaves, the bytes that it answers are read back.
  pub writes_back : {after : List ℕ} {n : ℕ} → WritesText (written_by f rows out) (Ok n) after → ReadBack f rows (take n after)
  writes_back w = rw (w.bytes_is, w.out_is) (written_back (sym w.outcome_is))
