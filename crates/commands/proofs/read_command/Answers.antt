-- `commands::read_command` meets its contract: the motion is that of the numbers read. Assumes nothing.
use Rattle.command.proofs.AnswersLaws.{reads_legal}
use Rattle.commands.proofs.read_command.Goals as goal

pub returns : goal.returns
returns c = reads_legal _ _ c.in_ok-n.ensures _ c.motion.ensures
