-- Lines, and the lines of a message's fields by their ranges, sought. Assumes nothing.
use Rattle.std.specs.Prelude.{ℕ, List, [], ◌∷◌}
use Rattle.message.specs.Fields.{MessageType, Field, with_number}
use Rattle.message.specs.Text.{key}
use Rattle.message.specs.Range.{range}
use Rattle.begins.specs.Seek.{found, Seeker, ◌>>=◌, ◌>>◌, seek_literal}
use Rattle.begins.specs.Digits.{seek_number}

-- A line whose number lies in lo..hi.
unfoldable pub seek_line : List ℕ → ℕ → ℕ → Seeker ℕ
seek_line key lo hi = do
  seek_literal key
  seek_number lo hi 10

-- The line of a field, its number in its range.
abbrev pub seek_field : MessageType → Field → List ℕ → Seeker ℕ
seek_field t f ns = seek_line (key f) (range t f ns).lo (range t f ns).hi

-- A line for each field, its number in its range; ns are the numbers so far.
unfoldable pub seek_lines : MessageType → List Field → List ℕ → Seeker (List ℕ)
seek_lines t [] ns = found ns
seek_lines t (f ∷ fs) ns = do
  n ← seek_field t f ns
  seek_lines t fs (with_number f n ns)
