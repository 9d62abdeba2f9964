-- `replace::take_append` meets its contract: what the follower answers and takes is what the hub has to that became it. Assumes nothing.
use Rattle.replace.proofs.FollowLaws.{follow_heard, follow_took}
use Rattle.replace.proofs.take_append.Goals as goal

-- The follower hears the append.
pub take_in-requires : goal.take_in-requires
take_in-requires c = follow_heard c.requires c.follow_in-h.ensures

-- What it takes.
pub returns : goal.returns
returns c =
    follow_took c.requires c.follow_in-h.ensures c.take_in.ensures
