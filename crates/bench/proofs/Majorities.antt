-- The largest places that majorities have confirmed, computed. Assumes nothing.
use mathlib.Core.Path.{refl}
use Rattle.bench.specs.Majorities.{MajoritiesHold}
use Rattle.rules.proofs.Computed.{computed}

pub majorities_hold : MajoritiesHold
unfolding computed
majorities_hold =
    record { two_of_three = refl; three_of_five = refl; four_of_seven = refl; two_of_five = refl; above_n = refl; beyond_last = refl }
