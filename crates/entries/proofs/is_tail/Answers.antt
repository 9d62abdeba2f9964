-- `entries::is_tail` meets its contract: the digits, then the end of the line. Assumes nothing.
use borrow.Author.Rules.{rules}
use Rattle.entries.proofs.CheckLaws.{tail_few, tail_not, tail_byte}
use Rattle.entries.proofs.is_tail.Goals as goal

-- Too little is left of the text.
pub returns-then-s-at-lt-TAIL : goal.returns-then-s-at-lt-TAIL
returns-then-s-at-lt-TAIL c = search (rules, tail_few)

-- No digits of a legal command.
pub returns-else-are_legal : goal.returns-else-are_legal
returns-else-are_legal c = search (rules, tail_not)

-- The byte behind them decides.
pub returns-then-are_legal : goal.returns-then-are_legal
returns-then-are_legal c = search (rules, tail_byte)
