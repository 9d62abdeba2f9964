-- `lines::opening_in` meets its contract: the type, then the lines of its fields. Assumes nothing.
use borrow.Author.Rules.{rules}
use Rattle.lines.proofs.OpeningLaws.{opening_all, opening_few, opening_inside, opening_no_type}
use Rattle.lines.proofs.opening_in.Goals as goal

-- No type.
pub returns-in_err-line : goal.returns-in_err-line
returns-in_err-line c = search (rules, opening_no_type)

-- Its line ends inside the text.
pub lines_in-requires : goal.lines_in-requires
lines_in-requires c = search (rules, opening_inside)

-- A line is none.
pub returns-in_err-lines : goal.returns-in_err-lines
returns-in_err-lines c = search (rules, opening_few)

-- They are all there.
pub returns : goal.returns
returns c = search (rules, opening_all)
