-- The roles of a hub (rule R11) as numbers. Assumes nothing.
use Rattle.std.specs.Prelude.{ℕ}

abbrev pub as_follower : ℕ
as_follower = 0

abbrev pub as_candidate : ℕ
as_candidate = 1

abbrev pub as_leader : ℕ
as_leader = 2
