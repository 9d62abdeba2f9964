-- What is promised of a message that a hub writes. Assumes nothing.
use Rattle.std.specs.Prelude.{ℕ, ◌≤◌, ◌≡◌, List, length}
use Rattle.kinds.specs.Sizes.{hubs_most, text_room}
use Rattle.message.specs.Message.{Message}
use Rattle.message.specs.Text.{text}
use Rattle.state.specs.State.{State}
use Rattle.rules.specs.Step.{over}

-- How many bytes are written, and the output with them; its other bytes stay.
pub record Said (m : Message) (out : List ℕ) (r : ℕ) (out' : List ℕ) : Type 0 where
  pub returned : r ≡ length (text m)
  pub output_left : out' ≡ over (text m) out

-- What holds where a hub answers another: its term is not 0, the other is one of the seven, and the output has its room.
pub record Answering (s : State) (to : ℕ) (out : List ℕ) : Type 0 where
  pub risen : 1 ≤ s.kept.term
  pub to_first : 1 ≤ to
  pub to_last : to ≤ hubs_most
  pub room : text_room ≤ length out
