-- `gather::count_votes` meets its contract: without a majority the head is written; with one the gathered rows take the present term, and a leader's
-- head is written. Assumes nothing.
use native.Mathlib.Omega.{arith}
use Rattle.state.specs.Image.{state_size}
use Rattle.gather.proofs.CountedLaws.{counted_few, counted_majority}
use Rattle.gather.proofs.count_votes.Goals as goal

-- There is a head.
pub write_head-requires : goal.write_head-requires
unfolding state_size
write_head-requires c = omega (arith, c.requires.long)

-- The hub stands on.
pub returns-then-count_voters-g : goal.returns-then-count_voters-g
returns-then-count_voters-g c = counted_few _ _ _ c.count_voters.ensures c.if-count_voters-g.true c.write_head.ensures

-- The gathered rows lie within the table.
pub renumber-requires : goal.renumber-requires
unfolding state_size
renumber-requires c =
    let pre = c.requires in
    omega (arith, pre.long, pre.room, c.row_after.ensures, c.into.ensures)

-- The own number is a hub's, and the joined log is within the limit.
pub lead-requires : goal.lead-requires
lead-requires c =
    let pre = c.requires in
    (pre.own_first, pre.own_last, pre.room)

-- The head is still there.
pub write_head-requires-2 : goal.write_head-requires-2
unfolding state_size
write_head-requires-2 c = omega (arith, c.requires.long, c.renumber.auto)

-- The hub leads.
pub returns : goal.returns
returns c =
    counted_majority _ _ _ c.count_voters.ensures c.if-count_voters-g.false c.row_after.ensures c.into.ensures c.renumber.ensures c.lead.ensures
    c.write_head-2.ensures
