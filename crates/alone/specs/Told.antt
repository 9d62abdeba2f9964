-- What reading a message alone tells C (rule R35): an illegal message is 4, too few lent numbers 3. Assumes nothing.
use Rattle.std.specs.Prelude.{ℕ, cond, List, ◌++◌, ◌≡◌, ltb, length, drop}
use Rattle.std.proofs.Math.Option.{Option, none, some}
use Rattle.kinds.specs.Outcome.{done, short_output, bad_message}
use Rattle.kinds.specs.Packed.{placed, packed}
use Rattle.message.specs.Message.{Message}
use Rattle.message.specs.Place.{PlaceWith}
use Rattle.message.specs.Text.{read, part_from}
use Rattle.numbers.specs.Numbers.{message_numbers, numbers_of}

-- What a call comes to: the outcome, where the entry lines begin, and what is left in the lent numbers.
pub record Told : Type 0 where
  pub outcome : ℕ
  pub entries : ℕ
  pub numbers : List ℕ

-- A refusal leaves the numbers.
abbrev pub tells_not : ℕ → List ℕ → Told
tells_not outcome numbers = record { outcome = outcome; entries = 0; numbers = numbers }

unfoldable pub tells_read : List ℕ → List ℕ → Option Message → Told
tells_read s numbers none = tells_not bad_message numbers
tells_read s numbers (some m) =
    record { outcome = done; entries = part_from s (some m); numbers = numbers_of m ++ drop message_numbers numbers }

-- Fewer than eight lent numbers are told first.
unfoldable pub numbers_told : List ℕ → List ℕ → Told
numbers_told s numbers = cond (ltb (length numbers) message_numbers) (tells_not short_output numbers) (tells_read s numbers (read s))

-- What is returned: the outcome, the place of the first wrong byte of the text s, and where the entry lines begin; and the numbers left.
pub record Tells (t : Told) (s : List ℕ) (r : ℕ) (numbers : List ℕ) : Type 0 where
  pub place : ℕ
  pub place_is : PlaceWith t.outcome s place
  pub returned : r ≡ packed (placed t.outcome place) t.entries
  pub left : numbers ≡ t.numbers
