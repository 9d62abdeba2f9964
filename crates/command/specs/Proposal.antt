-- What may be proposed, apart from what is legal to hold (rule R43), and the command of bytes that are proposed. Assumes nothing.
use Rattle.std.specs.Prelude.{ℕ, Bool, cond, ◌&&◌, ◌||◌, List, eqb, pos, length}
use Rattle.std.proofs.Math.Option.{Option, none, some}
use Rattle.std.specs.Int.Signed.{le_z}
use Rattle.command.specs.Command.{Command, is_stop, legal_command, command_size, command_of}

-- The shortest buzz or ramp that can be felt, in ms: below it a motor does not spin up.
abbrev pub felt_least : ℕ
felt_least = 20

-- What may be proposed: of the legal commands a stop, and a buzz or ramp that can be felt. Of what a state or a message holds, and of a
-- command that is read or written alone, this is not asked.
unfoldable pub proposable : Command → Bool
proposable c = legal_command c && (is_stop c || le_z (pos felt_least) c.duration)

-- 16 bytes, and such a command's.
unfoldable pub is_proposal : List ℕ → Bool
is_proposal l = eqb (length l) command_size && proposable (command_of l)

-- The command of bytes that may be proposed; none for any others.
unfoldable pub read_proposal : List ℕ → Option Command
read_proposal l = cond (is_proposal l) (some (command_of l)) none
