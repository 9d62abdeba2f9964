-- The reader's answer in the code's own type, its outcome, and the place that goes with it. Assumes nothing.
use Rattle.std.specs.Prelude.{ℕ, List, ◌≡◌, Result, Ok, Err}
use Rattle.std.proofs.Math.Option.{Option, none, some}
use Rattle.kinds.specs.Outcome.{done, bad_message}
use Rattle.message.specs.Answer.{fields_of}
use Rattle.message.specs.Message.{Message}
use Rattle.message.specs.Place.{PlaceWith}
use Rattle.message.specs.Text.{read, part_from}
use Rattle.seek.specs.declared.Wrong.{Wrong}
use Rattle.reader.specs.declared.Read.{Read}

-- A message's fields and where its entry lines begin in the text s; or a refusal, with the place p of the first wrong byte.
unfoldable pub read_as : List ℕ → ℕ → Option Message → Result Read Wrong
read_as s p none = Err (record { place = p })
read_as s p (some m) = Ok (record { fields = fields_of m; entries = part_from s (some m) })

-- The outcome of each case of the answer (rule R35).
abbrev pub outcome_of : Result Read Wrong → ℕ
outcome_of (Ok r) = done
outcome_of (Err w) = bad_message

-- The outcome of reading: a text that is no legal message is 4.
abbrev pub read_outcome : Option Message → ℕ
read_outcome none = bad_message
read_outcome (some m) = done

-- The answer r to the text s, its outcome, and the place that goes with that.
pub record Reads (s : List ℕ) (r : Result Read Wrong) : Type 0 where
  pub place : ℕ
  pub place_is : PlaceWith (read_outcome (read s)) s place
  pub answer : r ≡ read_as s place (read s)
  pub outcome : outcome_of r ≡ read_outcome (read s)
