-- `lines::lines_in` meets its contract: so many lines were read, and what is read from the first on is what is read from here on. Assumes nothing.
use borrow.Author.Rules.{rules}
use Rattle.lines.proofs.LinesLaws.{reading_none, reading_stuck, reading_again, reading_done}
use Rattle.lines.proofs.lines_in.Goals as goal

-- At first no line was read.
pub loop-field-init : goal.loop-field-init
loop-field-init c = search (rules, reading_none)

-- The next line is none.
pub returns-in_err-read : goal.returns-in_err-read
returns-in_err-read c = search (rules, reading_stuck)

-- It was read.
pub loop-field-preserved : goal.loop-field-preserved
loop-field-preserved c = search (rules, reading_again)

-- No line is left.
pub returns : goal.returns
returns c = search (rules, reading_done)
