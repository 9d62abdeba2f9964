-- `receive::reply_stale` meets its contract, type by type. Assumes nothing.
use Rattle.receive.proofs.ReplyLaws.{said_replied, none_replied, stale_request, stale_append, no_reply}
use Rattle.receive.proofs.reply_stale.Goals as goal

-- A vote-request.
pub returns-in-VoteRequest : goal.returns-in-VoteRequest
returns-in-VoteRequest c = λ s. said_replied _ (stale_request _ _ _ s c.in-VoteRequest.is) c.say_no.ensures

-- An append.
pub returns-in-Append : goal.returns-in-Append
returns-in-Append c = λ s. said_replied _ (stale_append _ _ _ s c.in-Append.is) c.say_length.ensures

-- Any other.
pub returns-in-VoteYes : goal.returns-in-VoteYes
returns-in-VoteYes c = λ s. none_replied _ (no_reply _ _ _ s c.in-VoteYes.is)
