-- A received text: what it comes to, what the code answers then, and what is promised of a reply. Assumes nothing.
use Rattle.std.specs.Prelude.{ℕ, ◌≡◌, ◌<◌, List, length, Result, Ok, Err}
use Rattle.std.proofs.Math.Option.{Option, none, some}
use Rattle.kinds.specs.Sizes.{Who}
use Rattle.kinds.specs.Packed.{half, places_room}
use Rattle.kinds.specs.Refusal.{number_of}
use Rattle.message.specs.Message.{Message}
use Rattle.message.specs.Place.{PlaceWith}
use Rattle.state.specs.State.{State}
use Rattle.rules.specs.Outcome.{Next, refuses, done, bad_message, stale}
use Rattle.rules.specs.Receive.{receive}
use Rattle.rules.specs.Step.{over, written}
use Rattle.promise.specs.Promise.{left_by}
use Rattle.receive.specs.declared.Refused.{Refused}
use Rattle.receive.specs.declared.Refused.TheVariants.{Unread, Stale, Not}

-- What a received text comes to, once it is read: 4 if it is no legal message.
unfoldable pub heard : Who → State → Option Message → Next
heard w s none = refuses s bad_message
heard w s (some m) = receive w s m

-- ---- the code's answer

-- The outcome that it tells.
abbrev pub outcome_told : Result ℕ Refused → ℕ
outcome_told (Ok n) = done
outcome_told (Err (Unread p)) = bad_message
outcome_told (Err (Stale n)) = stale
outcome_told (Err (Not r)) = number_of r

-- The place that goes with it; 0 if none does.
abbrev pub place_told : Result ℕ Refused → ℕ
place_told (Ok n) = 0
place_told (Err (Unread p)) = p
place_told (Err (Stale n)) = 0
place_told (Err (Not r)) = 0

-- How many bytes of message were written.
abbrev pub bytes_told : Result ℕ Refused → ℕ
bytes_told (Ok n) = n
bytes_told (Err (Unread p)) = 0
bytes_told (Err (Stale n)) = n
bytes_told (Err (Not r)) = 0

-- It tells the outcome of what an event comes to, this place and the bytes written; and what is left.
pub record Told (n : Next) (place : ℕ) (l out : List ℕ) (r : Result ℕ Refused) (l' out' : List ℕ) : Type 0 where
  pub outcome : outcome_told r ≡ n.outcome
  pub place_is : place_told r ≡ place
  pub bytes : bytes_told r ≡ length (written n.message)
  pub state_left : l' ≡ left_by l n
  pub output_left : out' ≡ over (written n.message) out

-- So for a text, with the place of its first wrong byte if it is no message. What is told fits the one number that C is told.
pub record ToldOf (n : Next) (input l out : List ℕ) (r : Result ℕ Refused) (l' out' : List ℕ) : Type 0 where
  pub place : ℕ
  pub place_with : PlaceWith n.outcome input place
  pub told : Told n place l out r l' out'
  pub place_fits : place_told r < places_room
  pub bytes_fit : bytes_told r < half

-- ---- a reply

-- What is returned and left where at most one message is written.
pub record Replied (m : Option Message) (out : List ℕ) (r : ℕ) (out' : List ℕ) : Type 0 where
  pub returned : r ≡ length (written m)
  pub output_left : out' ≡ over (written m) out
