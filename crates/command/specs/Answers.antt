-- What reading and writing a command alone answer (rule R35): an illegal command is 10, too short an output, or too few lent numbers, 3.
-- Assumes nothing.
use Rattle.std.specs.Prelude.{ℕ, ◌+◌, ◌/◌, ◌%◌, Bool, cond, ◌&&◌, List, [], ◌∷◌, ◌++◌, ◌≡◌, ltb, eqb, ℤ, Result, Ok, Err, length, drop}
use Rattle.kinds.specs.Outcome.{done, short_output, bad_command}
use Rattle.kinds.specs.Refusal.{outcome_of}
use Rattle.kinds.specs.declared.Refusal.{Refusal}
use Rattle.kinds.specs.declared.Refusal.TheVariants.{BadCommand}
use Rattle.command.specs.Words.{word_at, signed, unsigned}
use Rattle.command.specs.Command.{Command, legal_command, command_size, command_bytes, command_of}
use Rattle.command.specs.Case.{motion_of}
use Rattle.command.specs.declared.Motion.{Motion}
use Rattle.command.specs.declared.Numbers.{Numbers}

-- ---- the numbers of a command

-- The command of these numbers.
abbrev pub command_with : ℕ → ℕ → ℤ → ℕ → ℕ → Command
command_with motor kind duration a b = record { motor = motor; kind = kind; duration = duration; a = a; b = b }

-- The command of the code's five numbers, of which the duration is given by its 32 bits.
unfoldable pub of_numbers : Numbers → Command
of_numbers n = command_with n.motor n.kind (signed n.duration) n.a n.b

-- The command of its four words, big-endian: motor and kind share the first.
unfoldable pub of_words : ℕ → ℕ → ℕ → ℕ → Command
of_words what duration a b = command_with (what / 65_536) (what % 65_536) (signed duration) a b

-- The numbers of the 16 bytes from a place on.
unfoldable pub numbers_at : ℕ → List ℕ → Numbers
numbers_at at l =
    record {
      motor = word_at at 2 l;
      kind = word_at (at + 2) 2 l;
      duration = word_at (at + 4) 4 l;
      a = word_at (at + 8) 4 l;
      b = word_at (at + 12) 4 l;
    }

-- ---- reading

-- 16 bytes, and legal.
unfoldable pub is_command : List ℕ → Bool
is_command l = eqb (length l) command_size && legal_command (command_of l)

-- A legal command's numbers; any other bytes are refused.
unfoldable pub numbers_in : List ℕ → Result Numbers Refusal
numbers_in l = cond (is_command l) (Ok (numbers_at 0 l)) (Err BadCommand)

-- A legal command's motion; any other bytes are refused.
unfoldable pub motion_read : List ℕ → Result Motion Refusal
motion_read l = cond (is_command l) (Ok (motion_of (command_of l))) (Err BadCommand)

-- The outcome of reading: bytes that are no legal command are 10.
unfoldable pub judged_outcome : List ℕ → ℕ
judged_outcome l = cond (is_command l) done bad_command

-- The answer r to the bytes l, and its outcome.
pub record ReadsCommand (l : List ℕ) (r : Result Motion Refusal) : Type 0 where
  pub answer : r ≡ motion_read l
  pub outcome : outcome_of r ≡ judged_outcome l

-- ---- writing

-- What a call comes to: an outcome, and what it leaves in what is lent.
pub record CallResult : Type 0 where
  pub outcome : ℕ
  pub out : List ℕ

-- Too short an output is told first, then an illegal command; both leave every byte. Otherwise the first 16 bytes are the command's.
unfoldable pub command_written : Command → List ℕ → CallResult
command_written c out =
    cond (ltb (length out) command_size) (record { outcome = short_output; out = out })
    (cond (legal_command c) (record { outcome = done; out = command_bytes c ++ drop command_size out })
    (record { outcome = bad_command; out = out }))

-- ---- reading into lent numbers

-- How many numbers a command has.
abbrev pub command_numbers : ℕ
command_numbers = 5

-- The code's five numbers in order: motor, kind, duration, a and b.
abbrev pub list_of : Numbers → List ℕ
list_of n = n.motor ∷ n.kind ∷ n.duration ∷ n.a ∷ n.b ∷ []

-- A command's numbers in order. A legal duration is not below zero.
abbrev pub as_numbers : Command → List ℕ
as_numbers c = c.motor ∷ c.kind ∷ unsigned c.duration ∷ c.a ∷ c.b ∷ []

-- Fewer than five lent numbers are told first, then a command that is not legal; both leave all numbers.
unfoldable pub numbers_read : List ℕ → List ℕ → CallResult
numbers_read l numbers =
    cond (ltb (length numbers) command_numbers) (record { outcome = short_output; out = numbers })
    (cond (is_command l) (record { outcome = done; out = as_numbers (command_of l) ++ drop command_numbers numbers })
    (record { outcome = bad_command; out = numbers }))

-- ---- the promise

-- An answer and what is left in the lent bytes or numbers are as they have to be.
pub record IsResult (w : CallResult) (outcome : ℕ) (out : List ℕ) : Type 0 where
  pub outcome_is : outcome ≡ w.outcome
  pub out_is : out ≡ w.out
