-- What each kind of command allows, and the numbers of bytes that may be a command's. Assumes nothing.
use Rattle.std.specs.Prelude.{ℕ, zero, suc, cond, List, eqb, length, Option, None, Some}
use Rattle.command.specs.Command.{gain_most, duration_most, command_size}
use Rattle.command.specs.Answers.{numbers_at}
use Rattle.command.specs.declared.Numbers.{Numbers}
use Rattle.lawful.specs.declared.Limits.{Limits}

-- The limits of each kind: of its duration, of a and of b.
unfoldable pub limits_of : ℕ → Option Limits
limits_of zero = Some (record { least = 0; most = 0; a_most = 0; b_most = 0 })
limits_of (suc zero) = Some (record { least = 1; most = duration_most; a_most = gain_most; b_most = 0 })
limits_of (suc (suc zero)) = Some (record { least = 1; most = duration_most; a_most = gain_most; b_most = gain_most })
limits_of (suc (suc (suc kind))) = None

-- The numbers of 16 bytes, and of no others.
unfoldable pub numbers_of : List ℕ → Option Numbers
numbers_of l = cond (eqb (length l) command_size) (Some (numbers_at 0 l)) None
