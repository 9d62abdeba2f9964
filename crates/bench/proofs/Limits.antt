-- The examples at the limits, computed on values and carried over to whole calls. Assumes nothing.
use mathlib.Core.Path.{◌≡◌, refl}
use mathlib.Core.Bool.{true}
use Rattle.state.specs.Legal.{all}
use Rattle.bench.specs.Limits.{limits, LimitsHold}
use Rattle.rules.proofs.Computed.{computed}
use Rattle.rules.proofs.Values.{comes_out, all_hold}

on_values : all comes_out limits ≡ true
unfolding computed limits
on_values = refl

pub limits_hold : LimitsHold
limits_hold = all_hold limits on_values
