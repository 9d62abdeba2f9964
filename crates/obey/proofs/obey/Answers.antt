-- `obey::obey` meets its contract: each type's `return` is its rule. Assumes nothing.
use Rattle.obey.proofs.RuleLaws.{ready, may_say, may_vote, may_hear_yes, may_hear_append, may_hear_end}
use Rattle.obey.proofs.RuleLaws.{request_obeyed, yes_obeyed, append_obeyed, end_obeyed, nothing_obeyed}
use Rattle.obey.proofs.obey.Goals as goal

-- The bytes are ready.
pub of-hub-requires : goal.of-hub-requires
of-hub-requires c = ready _ _ _ _ c.requires

-- The sender may be answered, and the request is legal.
pub say_vote-requires : goal.say_vote-requires
say_vote-requires c =
    rw c.of-hub.ensures.state
    (record { answering = may_say _ _ _ _ c.requires; request = may_vote _ _ _ _ c.requires c.in-VoteRequest.is })

-- A vote-yes may be heard.
pub hear_yes-requires : goal.hear_yes-requires
hear_yes-requires c = rw c.new.ensures (may_hear_yes _ _ _ _ c.requires c.in-VoteYes.is)

-- An append may be taken, and its sender answered.
pub hear_append-requires : goal.hear_append-requires
hear_append-requires c = (rw c.new-in-Append.ensures (may_hear_append _ _ _ _ c.requires c.in-Append.is), may_say _ _ _ _ c.requires)

-- An append-yes may be heard.
pub hear_end-requires : goal.hear_end-requires
hear_end-requires c = may_hear_end _ _ _ _ c.requires c.in-AppendYes.is

-- A vote-request.
pub returns-in-VoteRequest : goal.returns-in-VoteRequest
returns-in-VoteRequest c = request_obeyed _ _ _ _ c.requires c.in-VoteRequest.is
    (rw (c.of-hub.ensures.caller, c.of-hub.ensures.state) at c.say_vote.ensures)

-- A vote-yes.
pub returns-in-VoteYes : goal.returns-in-VoteYes
returns-in-VoteYes c = yes_obeyed _ _ _ _ c.requires c.in-VoteYes.is c.new.ensures c.hear_yes.ensures c.then_some.ensures

-- An append.
pub returns-in-Append : goal.returns-in-Append
returns-in-Append c = append_obeyed _ _ _ _ c.requires c.in-Append.is c.new-in-Append.ensures c.hear_append.ensures

-- An append-yes.
pub returns-in-AppendYes : goal.returns-in-AppendYes
returns-in-AppendYes c = end_obeyed _ _ _ _ c.requires c.in-AppendYes.is c.hear_end.ensures c.then_some-in-AppendYes.ensures

-- A vote-no or an append-no.
pub returns-in-VoteNo : goal.returns-in-VoteNo
returns-in-VoteNo c = nothing_obeyed _ _ _ _ c.requires c.in-VoteNo.is
