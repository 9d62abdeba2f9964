-- The hub number, the place and the term of a number, as the code's own kinds. Assumes nothing.
use Rattle.std.specs.Prelude.{ℕ}
use Rattle.kinds.specs.declared.Hub.{Hub}
use Rattle.kinds.specs.declared.Place.{Place}
use Rattle.kinds.specs.declared.Term.{Term}

-- Hub n.
abbrev pub hub : ℕ → Hub
hub n = record { 0 = n }

-- Place n of the log.
abbrev pub place : ℕ → Place
place n = record { 0 = n }

-- Term n.
abbrev pub term : ℕ → Term
term n = record { 0 = n }
