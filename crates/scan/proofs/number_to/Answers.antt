-- `scan::number_to` meets its contract: each `return` is one case of `number`. Assumes nothing.
use borrow.Author.Rules.{rules}
use Rattle.text.proofs.CaseLaws.{number_lost}
use Rattle.text.proofs.FoundLaws.{number_none, number_nought, number_stop, number_over, number_digits}
use Rattle.scan.proofs.number_to.Goals as goal

-- The text ends.
pub returns-in_err-c : goal.returns-in_err-c
returns-in_err-c c = search (rules, number_lost, number_none)

-- A byte that is no digit.
pub returns-then-not-is_ascii_digit : goal.returns-then-not-is_ascii_digit
returns-then-not-is_ascii_digit c = search (rules, number_stop)

-- The digit 0.
pub returns-then-c-eq48 : goal.returns-then-c-eq48
returns-then-c-eq48 c = search (rules, number_nought)

-- Another digit, too large by itself.
pub returns-then-hi-first : goal.returns-then-hi-first
returns-then-hi-first c = search (rules, number_over)

-- Another digit.
pub returns : goal.returns
returns c = search (rules, number_digits)
