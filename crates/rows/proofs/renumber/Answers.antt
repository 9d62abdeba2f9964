-- `rows::renumber` meets its contract. The loop's invariant: the rows from the i-th on still take their number. Assumes nothing.
use mathlib.Core.Path.{sym, ◌∙◌}
use Rattle.rows.proofs.WordsLaws.{renumbered_next, renumbered_none}
use Rattle.rows.proofs.renumber.Goals as goal

-- One row more has its number.
pub loop-i-preserved : goal.loop-i-preserved
loop-i-preserved c =
    let loop = c.loop-i in
    loop.invariant ∙ renumbered_next loop.s _ loop.i _ _ c.loop-i-test.true c.into.ensures c.put32.ensures

-- All have it.
pub returns : goal.returns
returns c =
    let loop = c.loop-i in
    sym (loop.invariant ∙ renumbered_none loop.s _ loop.i _ _ c.loop-i-test.false)
