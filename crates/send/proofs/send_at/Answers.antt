-- `send::send_at` meets its contract: each `return` is one outcome of the event. Assumes nothing.
use Rattle.send.proofs.SendLaws.{send_other, send_bad, send_sending, send_done}
use Rattle.send.proofs.send_at.Goals as goal

-- Another role.
pub returns-then-hub-ne-LEADER : goal.returns-then-hub-ne-LEADER
returns-then-hub-ne-LEADER c = send_other _ _ _ c.of-hub.ensures.tested _ _ c.if-hub-ne-LEADER.true

-- No such peer, or no such place.
pub returns-then-is_bad_send : goal.returns-then-is_bad_send
returns-then-is_bad_send c =
    send_bad _ _ _ c.of-hub.ensures.tested _ _ c.if-hub-ne-LEADER.false (rw c.of-hub.ensures.caller at c.is_bad_send.ensures) c.if-is_bad_send.true

-- The append may be written.
pub send_after-requires : goal.send_after-requires
send_after-requires c =
    rw (c.of-hub.ensures.caller, c.of-hub.ensures.state)
    (send_sending _ _ _ c.of-hub.ensures.tested _ _ c.if-hub-ne-LEADER.false (rw c.of-hub.ensures.caller at c.is_bad_send.ensures) c.if-is_bad_send.false
    c.requires.1)

-- It is written.
pub returns : goal.returns
returns c =
    send_done _ _ _ c.of-hub.ensures.tested _ _ c.if-hub-ne-LEADER.false (rw c.of-hub.ensures.caller at c.is_bad_send.ensures) c.if-is_bad_send.false
    (rw (c.of-hub.ensures.caller, c.of-hub.ensures.state) at c.send_after.ensures)
