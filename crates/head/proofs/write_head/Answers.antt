-- `head::write_head` meets its contract: the numbers, the role, and what is held for each hub, each behind the one before. Assumes nothing.
use mathlib.Core.Path.{refl}
use native.Mathlib.Omega.{arith}
use lib.ListN.{length-set}
use Rattle.state.proofs.HeadLaws.{head_written}
use Rattle.head.proofs.write_head.Goals as goal

-- The bytes of the hubs end with the head.
pub put_hubs-requires : goal.put_hubs-requires
put_hubs-requires c = omega (arith, length-set c.put_numbers.new.s 20 c.args.h.role, c.put_numbers.auto, c.requires)

-- No write changes the length.
pub shape_of-s : goal.shape_of-s
shape_of-s c = omega (arith, c.put_hubs.auto, length-set c.put_numbers.new.s 20 c.args.h.role, c.put_numbers.auto)

pub returns : goal.returns
returns c = head_written c.args.h c.args.s.now c.put_numbers.ensures refl c.put_hubs.ensures
