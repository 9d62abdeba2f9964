-- `lawful::may_propose` meets its contract: a legal command's kind and duration, by their bits. Assumes nothing.
use Rattle.command.proofs.ProposalLaws.{proposable_numbers}
use Rattle.lawful.proofs.may_propose.Goals as goal

pub returns : goal.returns
returns c = proposable_numbers c.args.n c.is_legal.ensures
