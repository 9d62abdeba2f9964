-- `commands::put_numbers` meets its contract: four words, one after another, are the command's bytes. Assumes nothing.
use native.Mathlib.Omega.{arith}
use Rattle.command.proofs.AnswersLaws.{legal_small, numbers_written}
use Rattle.commands.proofs.put_numbers.Goals as goal

-- A legal command's motor and kind share a word.
pub overflow_mul-n : goal.overflow_mul-n
overflow_mul-n c = omega (arith, legal_small c.args.n c.requires.0)

pub overflow_add-n : goal.overflow_add-n
overflow_add-n c = omega (arith, legal_small c.args.n c.requires.0)

-- The words written, one after another.
pub returns : goal.returns
returns c = rw (c.put32-4.ensures, c.put32-3.ensures, c.put32-2.ensures, c.put32.ensures) (numbers_written c.args.n c.args.out.now c.requires.0)
