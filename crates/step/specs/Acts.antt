-- What the whole step answers before it is put in C's one number. Assumes nothing.
use Rattle.std.specs.Prelude.{ℕ, ◌≡◌, ◌<◌, List, Result}
use Rattle.kinds.specs.Packed.{half, places_room}
use Rattle.message.specs.Place.{PlaceWith}
use Rattle.rules.specs.Step.{Answer}
use Rattle.receive.specs.declared.Refused.{Refused}
use Rattle.receive.specs.Heard.{outcome_told, place_told, bytes_told}

-- The answer tells the outcome, the place of the input's first wrong byte, and the bytes written, each of which fits that number. The lent bytes are as
-- they have to be.
pub record Acts (a : Answer) (input : List ℕ) (r : Result ℕ Refused) (state output : List ℕ) : Type 0 where
  pub outcome : outcome_told r ≡ a.outcome
  pub place_is : PlaceWith a.outcome input (place_told r)
  pub bytes : bytes_told r ≡ a.wrote
  pub place_fits : place_told r < places_room
  pub bytes_fit : bytes_told r < half
  pub state_left : state ≡ a.state
  pub output_left : output ≡ a.output
