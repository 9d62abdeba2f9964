-- `command::Numbers::case` meets its contract: by cases on the kind; a gain's bits are no NaN's. Assumes nothing.
use native.Mathlib.Omega.{arith}
use mathlib.Core.Path.{sym}
use Rattle.std.proofs.Common.{rules}
use Rattle.command.specs.Case.{case_of}
use Rattle.command.proofs.CaseLaws.{case_of_ramp, gain_real}
use Rattle.command.proofs.Numbers.case.Goals as goal

pub returns-in-0 : goal.returns-in-0
unfolding case_of
returns-in-0 c = rw c.in-0.is

pub float_from_bits-result : goal.float_from_bits-result
float_from_bits-result c = search (rules, gain_real)

pub returns-in-1 : goal.returns-in-1
unfolding case_of
returns-in-1 c = rw c.in-1.is

pub float_from_bits-result-in_default : goal.float_from_bits-result-in_default
float_from_bits-result-in_default c = search (rules, gain_real)

pub float_from_bits-result-in_default-2 : goal.float_from_bits-result-in_default-2
float_from_bits-result-in_default-2 c = search (rules, gain_real)

pub returns-in_default : goal.returns-in_default
returns-in_default c = sym (case_of_ramp c.args.self.kind c.args.self.a c.args.self.b (omega arith))
