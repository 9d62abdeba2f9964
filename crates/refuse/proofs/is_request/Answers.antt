-- `refuse::is_request` meets its contract: a vote-request, or any other. Assumes nothing.
use Rattle.rules.specs.Receive.{is_request}
use Rattle.refuse.proofs.TestsLaws.{other_request}
use Rattle.refuse.proofs.is_request.Goals as goal

-- A vote-request.
pub returns-in-VoteRequest : goal.returns-in-VoteRequest
unfolding is_request
returns-in-VoteRequest c = λ s. rw c.in-VoteRequest.is

-- Any other.
pub returns-in_default : goal.returns-in_default
returns-in_default c = λ s. other_request _ s c.in_default.not-VoteRequest
