-- The first of the two parts that an append is tested for: that it follows the log. Assumes nothing.
use Rattle.std.specs.Prelude.{ℕ, Bool, ◌&&◌, ◌||◌, leb, eqb, length}
use Rattle.state.specs.State.{Kept}
use Rattle.rules.specs.Events.{term_at}

-- Prev is 0, or prev ≤ length and the entry there has term prevterm.
unfoldable pub follows : Kept → ℕ → ℕ → Bool
follows k prev prevterm = eqb prev 0 || (leb prev (length k.log) && eqb (term_at k.log prev) prevterm)
