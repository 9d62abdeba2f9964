-- `lawful::is_command` meets its contract: 16 bytes, and legal by their numbers. Assumes nothing.
use Rattle.command.specs.Command.{legal_command}
use Rattle.command.specs.Answers.{is_command}
use Rattle.lawful.proofs.LimitLaws.{told}
use Rattle.lawful.proofs.is_command.Goals as goal

pub returns : goal.returns
unfolding is_command
returns c = told legal_command c.args.bytes.now c.numbers_of.ensures c.is_some_and.ensures
