-- `lawful::is_proposal` meets its contract: 16 bytes, and such a command by their numbers. Assumes nothing.
use Rattle.command.specs.Proposal.{proposable, is_proposal}
use Rattle.lawful.proofs.LimitLaws.{told}
use Rattle.lawful.proofs.is_proposal.Goals as goal

pub returns : goal.returns
unfolding is_proposal
returns c = told proposable c.args.bytes.now c.numbers_of.ensures c.is_some_and.ensures
