-- `receive::receive_at` meets its contract: the text is a legal message and comes to what that does, or it is none and its place is told.
-- Assumes nothing.
use Rattle.std.proofs.Common.{rules}
use Rattle.receive.proofs.ReadLaws.{lines_stand}
use Rattle.receive.proofs.OutcomeLaws.{unread_told, read_told}
use Rattle.receive.proofs.receive_at.Goals as goal

-- Outcome 4, with its place.
pub returns-in_err-read : goal.returns-in_err-read
returns-in_err-read c = unread_told _ _ _ _ c.read_message.ensures c.in_err-read.was (search rules)

-- The message is legal, and the part has its entry lines.
pub invariant_of-m : goal.invariant_of-m
invariant_of-m c =
    let stands = lines_stand _ _ c.read_message.ensures c.in_ok-read.was c.lines_of.ensures in
    record { lie = stands.lie; legal = stands.legal }

-- What the message comes to.
pub returns : goal.returns
returns c =
    let stands = lines_stand _ _ c.read_message.ensures c.in_ok-read.was c.lines_of.ensures in
    read_told _ _ (record { fields = c.in_ok-read.read.fields; lines = c.lines_of.result; lie = stands.lie; legal = stands.legal }) _
    (record { ready = c.requires.0; room = c.requires.1 }) c.receive_message.ensures _ stands.read_is
