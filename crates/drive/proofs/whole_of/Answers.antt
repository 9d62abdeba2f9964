-- `drive::whole_of` meets its contract: 0 is +0, and any other number's digits are moved by its leading zeros but 8. Assumes nothing.
use Rattle.std.proofs.Common.{arith}
use Rattle.drive.proofs.DigitsLaws.{zeros_moved, whole_none, digits_no_nan, digits_whole}
use Rattle.drive.proofs.whole_of.Goals as goal

pub returns-then-n-eq0 : goal.returns-then-n-eq0
returns-then-n-eq0 c = whole_none c.args.n c.if-n-eq0.true

pub digits_of-requires : goal.digits_of-requires
digits_of-requires c = zeros_moved c.args.n c.if-n-eq0.false c.requires

pub overflow_add-result : goal.overflow_add-result
overflow_add-result c = omega (arith, zeros_moved c.args.n c.if-n-eq0.false c.requires)

pub float_from_bits-result : goal.float_from_bits-result
float_from_bits-result c = digits_no_nan c.args.n c.if-n-eq0.false c.requires _ c.digits_of.ensures

pub returns : goal.returns
returns c = digits_whole c.args.n c.if-n-eq0.false c.requires _ c.digits_of.ensures
