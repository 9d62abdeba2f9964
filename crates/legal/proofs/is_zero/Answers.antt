-- `legal::is_zero` meets its contract. The loop's invariant: the rows are zero exactly if what is passed is, and what is left of each quarter.
-- Assumes nothing.
use mathlib.Core.Path.{sym, ◌∙◌}
use native.Mathlib.Omega.{arith}
use Rattle.legal.proofs.CheckSteps.{quarters_begin, quarters_go, quarters_end}
use Rattle.legal.proofs.is_zero.Goals as goal

-- Nothing is passed yet.
pub loop-i-init : goal.loop-i-init
loop-i-init c = quarters_begin c.args.s.now c.args.from c.args.rows _ (omega arith)

-- A byte more of each quarter.
pub loop-i-preserved : goal.loop-i-preserved
loop-i-preserved c =
    let at-loop = c.loop-i in
    at-loop.invariant ∙ quarters_go c.args.s.now c.args.from _ at-loop.i at-loop.clean (omega (arith, c.requires)) c.loop-i-test.true

-- All is passed.
pub returns : goal.returns
returns c =
    let at-loop = c.loop-i in
    sym (at-loop.invariant ∙ quarters_end c.args.s.now c.args.from _ at-loop.i at-loop.clean (omega arith))
