-- `voters::count_voters` meets its contract: the library counts as the definition does. Assumes nothing.
use borrow.Author.Rules.{rules}
use Rattle.state.proofs.LegalLaws.{count_is}
use Rattle.voters.proofs.count_voters.Goals as goal

pub returns : goal.returns
returns c = rw (← count_is) (search rules)
