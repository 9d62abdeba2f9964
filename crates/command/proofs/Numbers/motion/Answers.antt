-- `command::Numbers::motion` meets its contract: a legal command's numbers are small. Assumes nothing.
use native.Mathlib.Omega.{arith}
use Rattle.command.specs.Case.{motion_of}
use Rattle.command.specs.Answers.{of_numbers}
use Rattle.command.proofs.WordsLaws.{to_z_signed}
use Rattle.command.proofs.AnswersLaws.{legal_small}
use Rattle.command.proofs.Numbers.motion.Goals as goal

pub overflow_cast-result : goal.overflow_cast-result
overflow_cast-result c = omega (arith, legal_small c.args.self c.requires)

pub overflow_cast-result-2 : goal.overflow_cast-result-2
overflow_cast-result-2 c = omega (arith, legal_small c.args.self c.requires)

pub case-requires : goal.case-requires
case-requires c = let l = legal_small c.args.self c.requires in (l.a_most, l.b_most)

pub returns : goal.returns
unfolding motion_of of_numbers
returns c = λ i. record { motor = c.args.self.motor; duration = to_z_signed c.args.self.duration i; case = c.case.ensures i }
