-- An entry of a log or of a message: a term and a command. Assumes nothing.
use Rattle.std.specs.Prelude.{ℕ, Bool, true, ◌&&◌, List, [], ◌∷◌}
use Rattle.kinds.specs.Sizes.{between}
use Rattle.command.specs.Command.{Command, legal_command}

pub record Entry : Type 0 where
  pub term : ℕ
  pub command : Command

-- Entry terms from low on, never falling, at most high; commands legal.
unfoldable pub legal_entries : ℕ → ℕ → List Entry → Bool
legal_entries low high [] = true
legal_entries low high (e ∷ es) = between low high e.term && (legal_command e.command && legal_entries e.term high es)
