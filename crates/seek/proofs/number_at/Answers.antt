-- `seek::number_at` meets its contract: each `return` is one case of `seek_number`. Assumes nothing.
use borrow.Author.Rules.{rules}
use Rattle.seek.proofs.GrowLaws.{grow_most}
use Rattle.seek.proofs.SoughtLaws.{number_err}
use Rattle.seek.proofs.NumberLaws.{number_out, number_stop, number_no_zero, number_zero, number_wrong, number_more}
use Rattle.seek.proofs.number_at.Goals as goal

-- The text ends.
pub returns-in_err-c : goal.returns-in_err-c
returns-in_err-c c = search (rules, number_err, number_out)

-- A byte that is no digit.
pub returns-then-not-is_ascii_digit : goal.returns-then-not-is_ascii_digit
returns-then-not-is_ascii_digit c = search (rules, number_stop)

-- The digit 0, where the range has none.
pub returns-then-range-ne0 : goal.returns-then-range-ne0
returns-then-range-ne0 c = search (rules, number_no_zero)

-- The digit 0.
pub returns-then-c-eq48 : goal.returns-then-c-eq48
returns-then-c-eq48 c = search (rules, number_zero)

-- No number of the range begins so.
pub returns-then-not-can_grow : goal.returns-then-not-can_grow
returns-then-not-can_grow c = search (rules, number_wrong)

-- The number's beginning is 1 or more, and at most the range's end.
pub more_at-requires : goal.more_at-requires
more_at-requires c = (search rules, search rules, search (rules, grow_most))

-- Another digit.
pub returns : goal.returns
returns c = search (rules, number_more)
