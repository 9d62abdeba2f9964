-- `acknowledge::hear_append` meets its contract: the append is taken if it fits, and one message or the other is said after it. Assumes nothing.
use native.Mathlib.Omega.{arith}
use mathlib.Core.Path.{ap}
use Rattle.kinds.specs.declared.Place.{Place}
use Rattle.kinds.proofs.SizesLaws.{limit_small}
use Rattle.acknowledge.proofs.AppendLaws.{end_within, ready_after, may_say_after, fitted_answered, missed_answered}
use Rattle.acknowledge.proofs.hear_append.Goals as goal

-- Its end fits.
pub end-end-requires : goal.end-end-requires
end-end-requires c = omega (arith, limit_small, end_within _ _ _ _ _ _ c.requires.0)

-- The bytes are ready again.
pub of-hub-requires : goal.of-hub-requires
of-hub-requires c = ready_after _ _ _ _ _ _ c.requires.0 _ _ c.requires.1 c.take_append-fitted.ensures.1

-- The sender may be told its end.
pub say_end-requires : goal.say_end-requires
say_end-requires c = (
  rw c.of-hub.ensures.state (may_say_after _ _ _ _ _ _ c.requires.0 _ _ c.requires.1 c.take_append-fitted.ensures.1),
  omega (arith, ap (λ (p : Place). p.0) c.end-end.ensures, end_within _ _ _ _ _ _ c.requires.0),
)

-- It fitted.
pub returns-then-fitted : goal.returns-then-fitted
returns-then-fitted c =
    fitted_answered _ _ _ _ _ _ c.requires.0 _ _ c.requires.1 c.take_append-fitted.ensures.1 c.take_append-fitted.ensures.0 c.if-fitted.true c.end-end.ensures
    (rw (c.of-hub.ensures.caller, c.of-hub.ensures.state) at c.say_end.ensures)

-- The sender may be told the own length.
pub say_length-requires : goal.say_length-requires
say_length-requires c =
    rw c.of-hub.ensures.state (may_say_after _ _ _ _ _ _ c.requires.0 _ _ c.requires.1 c.take_append-fitted.ensures.1)

-- It did not fit.
pub returns : goal.returns
returns c =
    missed_answered _ _ _ _ _ _ c.requires.0 _ _ c.requires.1 c.take_append-fitted.ensures.1 c.take_append-fitted.ensures.0 c.if-fitted.false
    (rw (c.of-hub.ensures.caller, c.of-hub.ensures.state) at c.say_length.ensures)
