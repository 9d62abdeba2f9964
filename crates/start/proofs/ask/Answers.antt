-- `start::ask` meets its contract: a request of the head's length and ballot to hub 0, which is all. Assumes nothing.
use Rattle.start.proofs.StartLaws.{may_ask, said_asks}
use Rattle.start.proofs.ask.Goals as goal

-- The request may be written.
pub speak-requires : goal.speak-requires
speak-requires c = may_ask _ _ _ c.args.hub.now.tested _ c.requires c.from.ensures

-- It is what the hub asks.
pub returns : goal.returns
returns c = said_asks _ _ _ c.args.hub.now.tested _ c.requires c.from.ensures c.speak.ensures
