-- `digits::are_digits` meets its contract: no sum leaves its word, since the low seven bits of each byte do not. Assumes nothing.
use native.Mathlib.Omega.{arith}
use lib.Bits.{and_le_r}
use Rattle.digits.proofs.MarkLaws.{marked_digits}
use Rattle.digits.proofs.are_digits.Goals as goal

pub overflow_add-between : goal.overflow_add-between
overflow_add-between c = omega (arith, and_le_r c.args.x 0x7f7f_7f7f_7f7f_7f7f)

pub overflow_add-between-2 : goal.overflow_add-between-2
overflow_add-between-2 c = omega (arith, and_le_r c.args.x 0x7f7f_7f7f_7f7f_7f7f)

pub overflow_add-outside : goal.overflow_add-outside
overflow_add-outside c = omega (arith, and_le_r c.args.x 0x7f7f_7f7f_7f7f_7f7f)

pub overflow_sub-outside : goal.overflow_sub-outside
overflow_sub-outside c = omega (arith, and_le_r c.args.x 0x7f7f_7f7f_7f7f_7f7f)

pub returns : goal.returns
returns c = marked_digits c.args.x c.ranges.x.fits
