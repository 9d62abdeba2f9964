-- `Standing::of` meets its contract: there is a head. Assumes nothing.
use Rattle.promise.proofs.PromiseLaws.{ready_long}
use Rattle.standing.proofs.Standing.of.Goals as goal

pub read_head-requires : goal.read_head-requires
read_head-requires c = ready_long _ _ c.requires
