-- `refuse::is_stale` meets its contract: the head has the state's term. Assumes nothing.
use Rattle.rules.specs.Receive.{is_stale}
use Rattle.refuse.proofs.TestsLaws.{term_is, lt_is}
use Rattle.refuse.proofs.is_stale.Goals as goal

-- Both tests.
pub returns : goal.returns
unfolding is_stale
returns c = λ s t e. rw (c.lt.ensures, lt_is, c.eq.ensures, c.is_request.ensures t, term_is _ s e)
