-- `print::write_number` meets its contract. The loop's invariant: the digits from the place i on are written, and those before it are those of what is
-- left. Assumes nothing.
use Rattle.print.proofs.NumberLaws.{Rest}
use Rattle.print.proofs.write_number.Given as goal

abbrev pub invariant-loop-i : goal.invariant-loop-i
invariant-loop-i l = Rest l.initial.out l.at l.x l.out l.i l.left
