-- `commandplace::hex_at` meets its contract. Assumes nothing.
use borrow.Author.Rules.{rules}
use Rattle.seek.proofs.SoughtLaws.{number_err}
use Rattle.commandplace.proofs.HexLaws.{fit_most, hex_done, hex_out, hex_none, hex_wrong, hex_again}
use Rattle.commandplace.proofs.hex_at.Goals as goal

-- The text ends.
pub returns-in_err-c : goal.returns-in_err-c
returns-in_err-c c = search (rules, number_err, hex_out)

-- No digit.
pub returns-in_err-digit : goal.returns-in_err-digit
returns-in_err-digit c = search (rules, number_err, hex_none)

-- No number of the range is so.
pub returns-then-not-can_fit : goal.returns-then-not-can_fit
returns-then-not-can_fit c = search (rules, hex_wrong)

-- What fits is at most the range's end.
pub overflow_cast-value : goal.overflow_cast-value
overflow_cast-value c = search (rules, fit_most)

-- One more digit.
pub loop-i-preserved : goal.loop-i-preserved
loop-i-preserved c = search (rules, hex_again, fit_most)

-- All of them stood.
pub returns : goal.returns
returns c = search (rules, hex_done)
