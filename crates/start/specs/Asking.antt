-- What holds where a hub asks for votes. Assumes nothing.
use Rattle.std.specs.Prelude.{ℕ, ◌≤◌, ◌≡◌, true, List, length}
use Rattle.kinds.specs.Sizes.{Who, text_room}
use Rattle.message.specs.Legal.{legal_message}
use Rattle.state.specs.Image.{state_in}
use Rattle.rules.specs.Events.{asks}

-- The request is legal, and the output has its room.
pub record Asking (w : Who) (l out : List ℕ) : Type 0 where
  pub legal : legal_message (asks w (state_in l)) ≡ true
  pub room : text_room ≤ length out
