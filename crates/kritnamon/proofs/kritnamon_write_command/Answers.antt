-- `kritnamon_write_command` meets its contract: the bits of the duration stand for it. Assumes nothing.
use mathlib.Core.Path.{◌∙◌}
use Rattle.command.proofs.AnswersLaws.{of_numbers_with}
use Rattle.kritnamon.proofs.kritnamon_write_command.Goals as goal

pub returns : goal.returns
returns c =
    let same = of_numbers_with c.args.motor c.args.kind c.cast_unsigned.result c.args.a c.args.b c.args.duration c.ranges.duration c.cast_unsigned.ensures in
    let wrote = rw same at c.write_numbers.ensures in
    record { outcome_is = c.outcome_of.ensures ∙ wrote.outcome_is; out_is = wrote.out_is }
