-- "A command is a stop, a buzz that carries its gain, or a ramp that carries its two gains": the code's enum, and for each of its cases
-- the number and values of rule R7. Assumes nothing.
use Rattle.std.specs.Prelude.{ℕ, zero, suc}
use Rattle.std.specs.Float.{binary32}
use Rattle.std.specs.Float.Ieee.{to_bits, of_bits}
use Rattle.command.specs.Command.{Command}
use Rattle.command.specs.declared.Case.{Case}
use Rattle.command.specs.declared.Case.TheVariants.{Stop, Buzz, Ramp}
use Rattle.command.specs.declared.Motion.{Motion}

-- The kind of a case: stop 0, buzz 1, ramp 2.
abbrev pub kind_of : Case → ℕ
kind_of Stop = 0
kind_of (Buzz gain) = 1
kind_of (Ramp from to) = 2

-- The value a: a buzz's gain, a ramp's from; zero for a stop.
abbrev pub a_of : Case → ℕ
a_of Stop = 0
a_of (Buzz gain) = to_bits binary32 gain
a_of (Ramp from to) = to_bits binary32 from

-- The value b: a ramp's to; zero for a stop and a buzz.
abbrev pub b_of : Case → ℕ
b_of Stop = 0
b_of (Buzz gain) = 0
b_of (Ramp from to) = to_bits binary32 to

-- The command that a motion is.
unfoldable pub command_is : Motion → Command
command_is m =
    record { motor = m.motor; kind = kind_of m.case; duration = m.duration; a = a_of m.case; b = b_of m.case }

-- The case of a kind and two values: 0 is a stop, 1 a buzz with gain a, any other a ramp from a to b.
unfoldable pub case_of : ℕ → ℕ → ℕ → Case
case_of zero a b = Stop
case_of (suc zero) a b = Buzz (of_bits binary32 a)
case_of (suc (suc kind)) a b = Ramp (of_bits binary32 a) (of_bits binary32 b)

-- The motion that a command asks for.
unfoldable pub motion_of : Command → Motion
motion_of c = record { motor = c.motor; duration = c.duration; case = case_of c.kind c.a c.b }
