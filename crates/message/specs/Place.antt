-- Where a message is wrong (rule R46): the place that is told of a text that is refused. Assumes nothing.
use Rattle.std.specs.Prelude.{ℕ, ◌≤◌, ◌<◌, List, ◌≡◌, length}
use Rattle.kinds.specs.Outcome.{bad_message}
use Rattle.kinds.specs.Sizes.{text_room}
use Rattle.text.specs.Place.{Begins, IsPlace}
use Rattle.message.specs.Legal.{legal_message}
use Rattle.message.specs.Text.{text}

-- s begins a legal message.
abbrev pub BeginsMessage : List ℕ → Type 0
BeginsMessage = Begins legal_message text

-- The place of a text that is no message: that of its first wrong byte; the limit for a text that is longer, whatever it holds.
pub record RefusedAt (s : List ℕ) (p : ℕ) : Type 0 where
  pub first_wrong : length s ≤ text_room → IsPlace BeginsMessage s p
  pub too_long : text_room < length s → p ≡ text_room

-- The place that goes with an outcome: with 4 that of the text, and 0 with all others.
pub record PlaceWith (outcome : ℕ) (s : List ℕ) (p : ℕ) : Type 0 where
  pub refused : outcome ≡ bad_message → RefusedAt s p
  pub others : (outcome ≡ bad_message → ⊥) → p ≡ 0
