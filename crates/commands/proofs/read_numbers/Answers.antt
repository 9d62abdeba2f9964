-- `commands::read_numbers` meets its contract: too few numbers are lent, or the bytes are no legal command, or its numbers are put. Assumes nothing.
use Rattle.std.proofs.lemmas.List.{take-append-drop}
use Rattle.std.proofs.lemmas.Result.{err_from_is_err_and}
use Rattle.command.proofs.AnswersLaws.{numbers_read_short, numbers_read_illegal, numbers_read_done}
use Rattle.commands.proofs.read_numbers.Goals as goal

-- Fewer than five numbers are lent.
pub returns-in_default : goal.returns-in_default
returns-in_default c = numbers_read_short _ _ c.in_default.ensures.cases

-- The bytes are no legal command.
pub returns-in_err-numbers_in : goal.returns-in_err-numbers_in
returns-in_err-numbers_in c =
    let p = err_from_is_err_and c.from_residual.result c.from_residual.ensures.1 in
    let five = c.in-Some.ensures.cases in
    rw (p.1, p.2, five.same, take-append-drop) (numbers_read_illegal _ _ _ five.enough c.in_err-numbers_in.ensures)

-- The numbers are put.
pub returns : goal.returns
returns c =
    numbers_read_done _ _ _ _ c.in-Some.ensures.cases.enough (λ i. (c.type_inv.bytes i).fits) c.in_ok-numbers_in.ensures c.into.ensures
