-- `commandplace::rest_at` meets its contract: the three numbers behind motor and kind, up to the first that is wrong. Assumes nothing.
use borrow.Author.Rules.{rules}
use Rattle.commandplace.proofs.CommandLaws.{passed_err, rest_no_duration, rest_no_a, rest_no_b, rest_all}
use Rattle.commandplace.proofs.rest_at.Goals as goal

-- The duration is wrong.
pub returns-in_err-duration : goal.returns-in_err-duration
returns-in_err-duration c = λ motor. search (rules, passed_err, rest_no_duration)

-- The number a is wrong.
pub returns-in_err-a : goal.returns-in_err-a
returns-in_err-a c = λ motor. search (rules, passed_err, rest_no_a)

-- The number b is wrong.
pub returns-in_err-b : goal.returns-in_err-b
returns-in_err-b c = λ motor. search (rules, passed_err, rest_no_b)

-- All three were found.
pub returns : goal.returns
returns c = search (rules, rest_all)
