-- `Numbers::from` meets its contract: by cases on the case. Assumes nothing.
use mathlib.Core.Path.{◌≡◌, sym, ap, ◌∙◌}
use Rattle.std.proofs.Common.{rules}
use Rattle.command.proofs.AnswersLaws.{values, of_numbers_from}
use Rattle.command.proofs.NumbersFromMotion.from.Goals.{in-Stop, in-Buzz, in-Ramp}
use Rattle.command.proofs.NumbersFromMotion.from.Goals as goal

pub returns : goal.returns
returns c =
    let told : c.match-m.kind ≡ values c.args.m.case =
    elim c.match-m.branch [
      | in-Stop w ↦ w.kind-is ∙ sym (ap values w.in-Stop.is)
      | in-Buzz w ↦ rw w.f32_to_bits_with_nan.ensures at w.kind-is ∙ sym (ap values w.in-Buzz.is)
      | in-Ramp w ↦ rw (w.f32_to_bits_with_nan-in-Ramp.ensures, w.f32_to_bits_with_nan-in-Ramp-2.ensures) at w.kind-is ∙ sym (ap values w.in-Ramp.is)
    ] in
    of_numbers_from c.args.m _ _ c.match-m.kind (search rules) c.into.ensures told c.cast_unsigned.ensures
