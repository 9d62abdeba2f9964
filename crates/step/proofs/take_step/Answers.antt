-- `step::take_step` meets its contract: the answer in one number. Assumes nothing.
use Rattle.step.proofs.ActsLaws.{acts_answers}
use Rattle.step.proofs.take_step.Goals as goal

-- It fits.
pub packed-requires : goal.packed-requires
packed-requires c = (c.act.ensures.place_fits, c.act.ensures.bytes_fit)

pub returns : goal.returns
returns c = acts_answers c.act.ensures c.packed.ensures
