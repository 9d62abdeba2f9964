-- What holds where a hub sends its log from a place on. Assumes nothing.
use Rattle.std.specs.Prelude.{ℕ, ◌≤◌, ◌≡◌, true, List, length}
use Rattle.kinds.specs.Sizes.{Who, text_room}
use Rattle.message.specs.Legal.{legal_message}
use Rattle.state.specs.Image.{state_in}
use Rattle.rules.specs.Events.{sends}

-- The place is one of its log; the append is legal, and the output has its room.
pub record Sending (w : Who) (l : List ℕ) (peer prev : ℕ) (out : List ℕ) : Type 0 where
  pub place : prev ≤ length (state_in l).kept.log
  pub legal : legal_message (sends w (state_in l) peer prev) ≡ true
  pub room : text_room ≤ length out
