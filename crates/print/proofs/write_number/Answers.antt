-- `print::write_number` meets its contract. The loop's invariant: the digits from the place i on are written, and those before it are those of what is
-- left. Assumes nothing.
use native.Mathlib.Omega.{arith}
use Rattle.text.proofs.DecimalLaws.{decimal_some}
use Rattle.print.proofs.NumberLaws.{digit_written, rest_more}
use Rattle.print.proofs.write_number.Goals as goal

-- There is room for one digit.
pub bounds-out-at : goal.bounds-out-at
bounds-out-at c = omega (arith, c.requires, decimal_some c.args.x)

-- A number of one digit.
pub returns-then-x-lt10 : goal.returns-then-x-lt10
returns-then-x-lt10 c = digit_written c.if-x-lt10.true

-- One digit more.
pub loop-i-preserved : goal.loop-i-preserved
loop-i-preserved c =
    let loop = c.loop-i in
    rest_more _ _ _ loop.out loop.i loop.left loop.invariant c.loop-i-test.true
