-- `digits::are_legal` meets its contract: each eight bytes are digits, and the digits are a legal command's. Assumes nothing.
use Rattle.digits.proofs.TextLaws.{told_eights}
use Rattle.digits.proofs.are_legal.Goals as goal

pub returns : goal.returns
returns c =
    told_eights c.args.s.now c.args.at c.requires (λ i. (c.type_inv.s i).fits) _ _ _ _ _ _
    c.is_legal.ensures c.get32-motor.ensures c.get32-kind.ensures c.get64-duration.ensures c.get64-a.ensures c.get64-b.ensures
    c.get64-what.ensures c.are_digits.ensures c.are_digits-2.ensures c.are_digits-3.ensures c.are_digits-4.ensures
