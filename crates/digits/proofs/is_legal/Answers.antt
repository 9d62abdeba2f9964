-- `digits::is_legal` meets its contract: the law of its tests, with the limits that were picked. Assumes nothing.
use Rattle.digits.proofs.LegalLaws.{digits_tell}
use Rattle.digits.proofs.is_legal.Goals as goal

pub returns : goal.returns
returns c =
    digits_tell c.pick-least.ensures c.pick-most.ensures c.pick-a_most.ensures c.pick-b_most.ensures
