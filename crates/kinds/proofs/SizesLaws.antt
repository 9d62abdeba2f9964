-- What others need to know of the limit and of a text's room: they are numbers of 32 bits, and the text of a full log fits. Assumes nothing.
use Prim.Native.Nat.{◌+◌, ◌*◌, ◌≤◌, ◌<◌}
use native.Mathlib.Omega.{arith}
use Rattle.kinds.specs.Sizes.{limit, text_room, term_most}
use Rattle.kinds.specs.Packed.{half, places_room}

-- A log's places are counted in 16 bits, so that two of them together pass no number of the code.
pub limit_small : limit + limit < term_most
unfolding limit
limit_small = omega arith

-- A text's bytes are counted in 24 bits, as places of wrong bytes are, and so in half of 64.
pub room_placed : text_room < places_room
unfolding text_room
room_placed = omega arith

pub room_small : text_room < half
room_small = omega (arith, room_placed)

-- The lines of a message before its entries take at most 158 bytes, and each entry line at most 50: so the text of a message with an entry for
-- every place fits.
pub text_fits : 158 + limit * 50 ≤ text_room
unfolding limit text_room
text_fits = omega arith
