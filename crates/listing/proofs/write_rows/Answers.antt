-- `listing::write_rows` meets its contract: the lines of the rows, one after the other. Assumes nothing.
use Rattle.std.proofs.Common.{rules, arith, ◌∙◌}
use Rattle.listing.proofs.RowsLaws.{writing_none, writing_room, writing_again, writing_all}
use Rattle.listing.proofs.write_rows.Goals as goal

-- At first nothing stands.
pub loop-row-init : goal.loop-row-init
loop-row-init c = search (rules, writing_none)

-- There is room for the next line.
pub write_row-requires-clause-room : goal.write_row-requires-clause-room
write_row-requires-clause-room c =
    let next = c.in-Some.ensures.steps.1 in
    writing_room c.in-Some.row.now c.next.new.self.rest.now c.loop-row.invariant.3 next.0 (next.1 ∙ c.loop-row.invariant.2)

-- It stands too.
pub loop-row-preserved : goal.loop-row-preserved
loop-row-preserved c = search (rules, writing_again)

-- All stand.
pub returns : goal.returns
returns c = writing_all c.loop-row.invariant.3 (omega (arith, c.in-None.ensures.steps.1.0, c.loop-row.invariant.2))
