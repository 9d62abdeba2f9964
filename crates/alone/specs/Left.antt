-- What writing a message alone, from its numbers, tells C (rule R35): an illegal message is 4, too short an output 3. Assumes nothing.
use Rattle.std.specs.Prelude.{ℕ, cond, List, ◌≡◌, ltb, length}
use Rattle.kinds.specs.Outcome.{short_output, bad_message}
use Rattle.kinds.specs.Packed.{packed}
use Rattle.kinds.specs.Sizes.{text_room}
use Rattle.numbers.specs.Numbers.{fields_with, are_fields}
use Rattle.alone.specs.Written.{Written, unwritten, written_by}

-- Too short an output is told first, then numbers that are no message's; then the message is written, or it is not legal.
unfoldable pub writes : List ℕ → List ℕ → List ℕ → Written
writes ns rows out =
    cond (ltb (length out) text_room) (unwritten short_output out)
    (cond (are_fields ns) (written_by (fields_with ns) rows out) (unwritten bad_message out))

-- The outcome in the lower half of what is returned, the bytes of the text in the upper one; and what is left in the output.
pub record IsLeft (w : Written) (r : ℕ) (out : List ℕ) : Type 0 where
  pub returned : r ≡ packed w.outcome w.bytes
  pub left : out ≡ w.out
