-- `seek::more_at` meets its contract. Assumes nothing.
use borrow.Author.Rules.{rules}
use Rattle.seek.proofs.GrowLaws.{grow_most}
use Rattle.seek.proofs.NumberLaws.{more_out, more_stop, more_wrong, more_again}
use Rattle.seek.proofs.more_at.Goals as goal

-- A byte that is no digit.
pub returns-then-not-is_ascii_digit : goal.returns-then-not-is_ascii_digit
returns-then-not-is_ascii_digit c = search (rules, more_stop)

-- No number of the range begins so.
pub returns-then-not-can_grow : goal.returns-then-not-can_grow
returns-then-not-can_grow c = search (rules, more_wrong)

-- What begins one is at most its end.
pub overflow_cast-value : goal.overflow_cast-value
overflow_cast-value c = search (rules, grow_most)

-- One more digit.
pub loop-place-preserved : goal.loop-place-preserved
loop-place-preserved c = search (rules, more_again, grow_most)

-- The text ends.
pub returns : goal.returns
returns c = search (rules, more_out)
