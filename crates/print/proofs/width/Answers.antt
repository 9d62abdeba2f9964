-- `print::width` meets its contract: one digit more than the power of ten. Assumes nothing.
use Rattle.print.proofs.WidthLaws.{width_is}
use Rattle.print.proofs.width.Goals as goal

pub returns : goal.returns
returns c = width_is c.ilog10.result c.args.x c.max.result c.max.ensures c.ilog10.ensures.power_le c.ilog10.ensures.next_power_gt
