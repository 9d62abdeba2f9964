-- `scan::digits_to` meets its contract. Assumes nothing.
use Prim.Native.Nat.{◌+◌, ◌*◌, ◌^◌, ◌≤◌}
use native.Mathlib.Omega.{arith}
use borrow.Author.Rules.{rules}
use Rattle.text.proofs.CaseLaws.{number_lost}
use Rattle.text.proofs.FoundLaws.{digits_end, digits_stop, digits_again, digits_over, digits_far}
use Rattle.scan.proofs.digits_to.Goals as goal

-- A byte that is no digit ends the number.
pub returns-then-not-is_ascii_digit : goal.returns-then-not-is_ascii_digit
returns-then-not-is_ascii_digit c = search (rules, digits_stop)

-- Ten times the number is too large.
pub returns-in_err-checked_mul : goal.returns-in_err-checked_mul
returns-in_err-checked_mul c =
    let far : 2 ^ 32 ≤ c.loop-next.value * 10 = omega (arith, c.in_err-checked_mul.ensures) in search (rules, number_lost, digits_far)

-- With the digit it is.
pub returns-in_err-value : goal.returns-in_err-value
returns-in_err-value c =
    let over : 2 ^ 32 ≤ c.loop-next.value * 10 + c.from.result = omega (arith, c.in_err-value.ensures) in search (rules, number_lost, digits_over)

-- The number is above the range.
pub returns-then-hi-value : goal.returns-then-hi-value
returns-then-hi-value c = search (rules, digits_over)

-- One more digit.
pub loop-next-preserved : goal.loop-next-preserved
loop-next-preserved c = search (rules, digits_again)

-- The end of the text ends the number.
pub returns : goal.returns
returns c = search (rules, digits_end)
