-- `confirm::hear_end` meets its contract: each `return` is one case of the rule for append-yes. Assumes nothing.
use native.Mathlib.Omega.{arith}
use Rattle.std.proofs.Common.{rules, tests}
use Rattle.promise.proofs.PromiseLaws.{ready_long, ready_who}
use Rattle.confirm.proofs.EndLaws.{heard_other, heard_known, heard_more}
use Rattle.confirm.proofs.hear_end.Goals.{then-h-ne-LEADER-via-then-h-ne-LEADER, then-h-ne-LEADER-via-else-h-ne-LEADER+then-le}
use Rattle.confirm.proofs.hear_end.Goals as goal

-- There is a head.
pub read_head-h-requires : goal.read_head-h-requires
read_head-h-requires c = ready_long _ _ c.requires.ready

-- Another role, or no greater end.
pub returns-then-h-ne-LEADER : goal.returns-then-h-ne-LEADER
returns-then-h-ne-LEADER c =
    elim c.then-h-ne-LEADER.branch [
      | then-h-ne-LEADER-via-then-h-ne-LEADER w ↦ heard_other _ _ _ _ c.requires c.read_head-h.ensures w.if-h-ne-LEADER.true
      | then-h-ne-LEADER-via-else-h-ne-LEADER+then-le w ↦ heard_known _ _ _ _ c.requires c.read_head-h.ensures w.if-h-ne-LEADER.false w.confirmed_of.ensures (search (rules, tests))
    ]

-- The sender is one of seven, and so is the group.
pub confirm-requires : goal.confirm-requires
confirm-requires c =
    let pre = c.requires in
    let most = (ready_who _ _ pre.ready).most in
    (pre.first, omega (arith, pre.last, most), most)

-- The head is still there.
pub write_head-requires : goal.write_head-requires
write_head-requires c = ready_long _ _ c.requires.ready

-- A greater end.
pub returns : goal.returns
returns c =
    heard_more _ _ _ _ c.requires c.read_head-h.ensures c.if-h-ne-LEADER.false c.confirmed_of.ensures (search (rules, tests))
    c.confirm.ensures c.write_head.ensures
