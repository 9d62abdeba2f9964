-- `commandplace::tail_place` meets its contract: the command, then the end of its line. Assumes nothing.
use borrow.Author.Rules.{rules}
use Rattle.commandplace.proofs.CommandLaws.{tail_no_command, tail_end}
use Rattle.commandplace.proofs.tail_place.Goals as goal

-- The line's end decides.
pub returns-in-Ok : goal.returns-in-Ok
returns-in-Ok c = search (rules, tail_end)

-- The command is wrong.
pub returns-in-Err : goal.returns-in-Err
returns-in-Err c = search (rules, tail_no_command)
