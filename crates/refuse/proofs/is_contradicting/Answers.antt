-- `refuse::is_contradicting` meets its contract, type by type. Assumes nothing.
use Rattle.refuse.proofs.TestsLaws.{lt_is, contradicts_yes, contradicts_append, contradicts_end, contradicts_never}
use Rattle.refuse.proofs.is_contradicting.Goals as goal

-- A vote-yes.
pub returns-in-VoteYes : goal.returns-in-VoteYes
returns-in-VoteYes c = λ s t e. rw (c.lt.ensures, lt_is, c.ne.ensures) (contradicts_yes _ s e _ t c.in-VoteYes.is)

-- An append.
pub returns-in-Append : goal.returns-in-Append
returns-in-Append c = λ s t e. contradicts_append _ s e _ t c.in-Append.is

-- An append-yes.
pub returns-in-AppendYes : goal.returns-in-AppendYes
returns-in-AppendYes c = λ s t e. rw (c.lt-in-AppendYes.ensures, lt_is) (contradicts_end _ s e _ t c.in-AppendYes.is)

-- Any other.
pub returns-in-VoteRequest : goal.returns-in-VoteRequest
returns-in-VoteRequest c = λ s t e. contradicts_never s t c.in-VoteRequest.is
