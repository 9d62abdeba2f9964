-- `replace::follow_in` meets its contract: raised to its own term, the hub is a follower with the same kept parts. Assumes nothing.
use Rattle.promise.proofs.PromiseLaws.{ready_long}
use Rattle.replace.proofs.FollowLaws.{follow_steps}
use Rattle.replace.proofs.follow_in.Goals as goal

-- There is a head.
pub read_head-h-requires : goal.read_head-h-requires
read_head-h-requires c = ready_long _ _ c.requires

-- A follower's bytes and head.
pub returns : goal.returns
returns c =
    follow_steps _ _ c.requires c.read_head-h.ensures c.raise_in.ensures c.follow.ensures
