-- What writing a message alone answers (rule R35): an illegal message is 4, too short an output 3.
-- Assumes nothing.
use Rattle.std.specs.Prelude.{ℕ, ◌*◌, Bool, cond, ◌&&◌, List, ◌++◌, ◌≡◌, ltb, eqb, length, drop, Result, Ok, Err}
use Rattle.kinds.specs.Outcome.{done, short_output, bad_message}
use Rattle.kinds.specs.Refusal.{outcome_of}
use Rattle.kinds.specs.Sizes.{text_room, row_size}
use Rattle.kinds.specs.declared.Refusal.{Refusal}
use Rattle.message.specs.Legal.{legal_message}
use Rattle.message.specs.Text.{text}
use Rattle.message.specs.Answer.{many_in}
use Rattle.message.specs.Write.{message_with}
use Rattle.message.specs.declared.Fields.{Fields}

-- Whether fields and rows are a message that can be written: a row for each entry and no other, and legal.
unfoldable pub is_message : Fields → List ℕ → Bool
is_message f rows = eqb (length rows) (many_in f.body * row_size) && legal_message (message_with f rows)

-- What a call comes to: an outcome, how many bytes the text has, and what is left in the output.
pub record Written : Type 0 where
  pub outcome : ℕ
  pub bytes : ℕ
  pub out : List ℕ

-- A refusal leaves every byte.
abbrev pub unwritten : ℕ → List ℕ → Written
unwritten outcome out = record { outcome = outcome; bytes = 0; out = out }

-- The text stands at the start of the output; the other bytes stay.
abbrev pub written_text : List ℕ → List ℕ → Written
written_text s out = record { outcome = done; bytes = length s; out = s ++ drop (length s) out }

-- Too short an output is told first, then what is no message.
unfoldable pub written_by : Fields → List ℕ → List ℕ → Written
written_by f rows out =
    cond (ltb (length out) text_room) (unwritten short_output out)
    (cond (is_message f rows) (written_text (text (message_with f rows)) out) (unwritten bad_message out))

-- ---- the promise

-- The bytes of the text.
abbrev pub write_bytes : Result ℕ Refusal → ℕ
write_bytes (Ok n) = n
write_bytes (Err _) = 0

-- An answer and what is left in the output are as they have to be.
pub record WritesText (w : Written) (r : Result ℕ Refusal) (out : List ℕ) : Type 0 where
  pub outcome_is : outcome_of r ≡ w.outcome
  pub bytes_is : write_bytes r ≡ w.bytes
  pub out_is : out ≡ w.out
