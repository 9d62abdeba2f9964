-- Three numbers in one of 64 bits, as C is told an outcome and what goes with it; and how they are taken apart. Assumes nothing.
use Rattle.std.specs.Prelude.{ℕ, ◌+◌, ◌*◌, ◌/◌, ◌%◌}

-- The upper half of 64 bits is counted in these.
abbrev pub half : ℕ
half = 4_294_967_296

-- The place of a wrong byte is counted in these: it stands in the lower half, above eight bits.
abbrev pub eight_bits : ℕ
eight_bits = 256

-- Places of wrong bytes are below this: the rest of the lower half.
abbrev pub places_room : ℕ
places_room = 16_777_216

-- The lower half: the outcome in eight bits, and above it the place of the first wrong byte.
abbrev pub placed : ℕ → ℕ → ℕ
placed outcome place = outcome + place * eight_bits

-- The lower half, an outcome that has no place; in the upper half how many bytes or places go with it.
abbrev pub packed : ℕ → ℕ → ℕ
packed lower many = lower + many * half

-- ---- taken apart

abbrev pub outcome_in : ℕ → ℕ
outcome_in answer = answer % eight_bits

abbrev pub place_in : ℕ → ℕ
place_in answer = answer / eight_bits % places_room

abbrev pub many_in : ℕ → ℕ
many_in answer = answer / half
