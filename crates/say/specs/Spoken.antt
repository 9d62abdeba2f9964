-- A message of a hub by the code's body: the entries that it counts are those of the hub's log after a place. And what holds where a hub writes one.
-- Assumes nothing.
use Rattle.std.specs.Prelude.{ℕ, ◌≤◌, ◌≡◌, true, List, length, drop}
use Rattle.kinds.specs.Sizes.{Who, limit, text_room}
use Rattle.message.specs.Message.{Message, entries_of}
use Rattle.message.specs.Legal.{legal_message}
use Rattle.message.specs.Answer.{said_with, many_in}
use Rattle.message.specs.declared.Body.{Body}
use Rattle.state.specs.State.{State}
use Rattle.state.specs.Image.{state_in}
use Rattle.rules.specs.Events.{says}

-- What the hub says with this body and the entries of its log after a place.
abbrev pub spoken : Who → State → ℕ → Body → ℕ → Message
spoken w s to body after = says w s to (said_with body (drop after s.kept.log))

-- What holds where a hub writes a message: the place is one of a log; the body counts the entries that it gets; the message is legal, and the output
-- has its room.
pub record Speaks (w : Who) (l : List ℕ) (to : ℕ) (body : Body) (after : ℕ) (out : List ℕ) : Type 0 where
  pub place : after ≤ limit
  pub counted : many_in body ≡ length (entries_of (said_with body (drop after (state_in l).kept.log)))
  pub legal : legal_message (spoken w (state_in l) to body after) ≡ true
  pub room : text_room ≤ length out
