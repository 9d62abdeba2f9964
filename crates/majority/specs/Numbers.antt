-- The numbers of places: the rules count confirmed lengths as numbers, the code holds them as places. Assumes nothing.
use Rattle.std.specs.Prelude.{ℕ, List, map}
use Rattle.kinds.specs.declared.Place.{Place}

abbrev pub place_numbers : List Place → List ℕ
place_numbers ps = map (λ q. q.0) ps
