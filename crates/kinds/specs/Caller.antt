-- Who is called, as the code has it. Assumes nothing.
use Rattle.kinds.specs.Sizes.{Who}
use Rattle.kinds.specs.declared.Caller.{Caller}

-- The group's size and the own number.
abbrev pub who_in : Caller → Who
who_in g = record { size = g.size; own = g.own.0 }
