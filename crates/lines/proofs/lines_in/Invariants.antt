-- `lines::lines_in` meets its contract. The loop's invariant: the lines of the fields so far were read, and these are their numbers. Assumes nothing.
use Rattle.lines.proofs.LinesLaws.{Reading}
use Rattle.lines.proofs.lines_in.Given as goal

abbrev pub invariant-loop-field : goal.invariant-loop-field
invariant-loop-field l = Reading l.s l.at l.kind l.field-items l.numbers l.next l.field-index
