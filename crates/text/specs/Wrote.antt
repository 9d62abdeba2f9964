-- What a write leaves in a lent text. Assumes nothing.
use Rattle.std.specs.Prelude.{ℕ, ◌+◌, List, ◌≡◌, length}
use Rattle.std.proofs.lemmas.List.Edits.{sets}

-- Of the bytes before, the text vs stands from `at` on in those after, which are otherwise the same; next is the place past it.
pub record Wrote (before : List ℕ) (at : ℕ) (vs : List ℕ) (next : ℕ) (after : List ℕ) : Type 0 where
  pub to : next ≡ at + length vs
  pub text : after ≡ sets before at vs
