-- Commands (rules R6 to R9): the five numbers of a command, which commands are legal, and the 16 bytes of each. Assumes nothing.
use Rattle.std.specs.Prelude.{ℕ, Bool, ◌&&◌, ◌||◌, List, ◌++◌, leb, eqb, ℤ, pos}
use Rattle.std.specs.Int.Signed.{le_z}
use Rattle.kinds.specs.Sizes.{between}
use Rattle.command.specs.Words.{word, word_at, signed, unsigned}

pub record Command : Type 0 where
  pub motor : ℕ
  pub kind : ℕ
  pub duration : ℤ  -- in ms, signed
  pub a : ℕ
  pub b : ℕ

-- ---- legal commands

-- The bits of gain 1.0, the greatest.
abbrev pub gain_most : ℕ
gain_most = 0x3f80_0000

-- A gain: the bits of a binary32, as an unsigned number, are at most those of 1.0 (from +0 on).
unfoldable pub is_gain : ℕ → Bool
is_gain bits = leb bits gain_most

-- The longest duration, in ms.
abbrev pub duration_most : ℕ
duration_most = 600_000

-- The duration of a buzz or a ramp: 1..600,000 ms.
unfoldable pub is_duration : ℤ → Bool
is_duration d = le_z (pos 1) d && le_z d (pos duration_most)

unfoldable pub is_zero : ℤ → Bool
is_zero d = le_z (pos 0) d && le_z d (pos 0)

-- Kind 0, stop: duration, a and b zero.
unfoldable pub is_stop : Command → Bool
is_stop c = eqb c.kind 0 && (is_zero c.duration && (eqb c.a 0 && eqb c.b 0))

-- Kind 1, buzz: duration 1..600,000, a = gain, b zero.
unfoldable pub is_buzz : Command → Bool
is_buzz c = eqb c.kind 1 && (is_duration c.duration && (is_gain c.a && eqb c.b 0))

-- Kind 2, ramp: duration 1..600,000, a = from, b = to.
unfoldable pub is_ramp : Command → Bool
is_ramp c = eqb c.kind 2 && (is_duration c.duration && (is_gain c.a && is_gain c.b))

-- Motor 1..64, and one of the three kinds. What a state or a message may hold.
unfoldable pub legal_command : Command → Bool
legal_command c = between 1 64 c.motor && (is_stop c || (is_buzz c || is_ramp c))

-- ---- its bytes

-- How many bytes a command has.
abbrev pub command_size : ℕ
command_size = 16

-- 16 bytes, big-endian: motor (2), kind (2), duration (4), a (4), b (4).
unfoldable pub command_bytes : Command → List ℕ
command_bytes c = word 2 c.motor ++ (word 2 c.kind ++ (word 4 (unsigned c.duration) ++ (word 4 c.a ++ word 4 c.b)))

-- The command of 16 bytes, legal or not.
unfoldable pub command_of : List ℕ → Command
command_of l =
    record {
      motor = word_at 0 2 l;
      kind = word_at 2 2 l;
      duration = signed (word_at 4 4 l);
      a = word_at 8 4 l;
      b = word_at 12 4 l;
    }
