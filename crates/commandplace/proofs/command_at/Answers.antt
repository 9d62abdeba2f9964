-- `commandplace::command_at` meets its contract: the motor, the kind, then what the kind asks for. Assumes nothing.
use borrow.Author.Rules.{rules}
use Rattle.commandplace.proofs.CommandLaws.{passed_err, command_no_motor, command_no_kind, command-rest}
use Rattle.commandplace.proofs.command_at.Goals as goal

-- The motor is wrong.
pub returns-in_err-motor : goal.returns-in_err-motor
returns-in_err-motor c = search (rules, passed_err, command_no_motor)

-- The kind is wrong.
pub returns-in_err-kind : goal.returns-in_err-kind
returns-in_err-kind c = search (rules, passed_err, command_no_kind)

-- The rest decides.
pub returns : goal.returns
returns c = command-rest _ _ _ c.hex_at.ensures c.in_ok-motor.was _ c.hex_at-2.ensures c.in_ok-kind.was _ c.rest_at.ensures
