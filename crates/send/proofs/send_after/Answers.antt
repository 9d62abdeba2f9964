-- `send::send_after` meets its contract: an append with the term at prev, the chosen count and the entries after prev. Assumes nothing.
use native.Mathlib.Omega.{arith}
use Rattle.promise.proofs.AppendLaws.{tested_length}
use Rattle.send.proofs.SendLaws.{may_send, said_sends}
use Rattle.send.proofs.send_after.Goals as goal

-- Prev is a place of the log.
pub term_at-requires : goal.term_at-requires
term_at-requires c = omega (arith, c.requires.place, tested_length _ _ _ c.args.hub.now.tested)

-- The append may be written.
pub speak-requires : goal.speak-requires
speak-requires c = may_send _ _ _ c.args.hub.now.tested _ _ _ c.requires c.term_at.ensures c.entries_after.ensures

-- It is what the hub sends.
pub returns : goal.returns
returns c = said_sends _ _ _ c.args.hub.now.tested _ _ _ c.requires c.term_at.ensures c.speak.ensures
