-- What the code's answers say: of a hex digit, of a range, and of what a seeker finds in a text s, where the value is not told. Assumes nothing.
use Rattle.std.specs.Prelude.{ℕ, ◌<◌, ◌≡◌, List, Option, Some, None, Result, Ok, Err}
use Rattle.text.specs.Line.{LF}
use Rattle.text.specs.declared.Bounds.{Bounds}
use Rattle.message.specs.Range.{Range, from_to}
use Rattle.begins.specs.Seek.{Sought, found, wrong, Seeker, ◌>>◌, seek_literal}
use Rattle.begins.specs.Commands.{digit_of}
use Rattle.begins.specs.Entries.{seek_command}
use Rattle.seek.specs.Spotted.{At}
use Rattle.seek.specs.declared.Wrong.{Wrong}

-- The value of the hex digit c, or that it is none.
abbrev pub IsDigit : ℕ → Option ℕ → Type 0
IsDigit c (Some d) = (d < 16) × (digit_of c ≡ d)
IsDigit c None = digit_of c ≡ 16

-- The range that the code's bounds are.
abbrev pub range_is : Bounds → Range
range_is b = from_to b.lo b.hi

-- Something was found, and n is the place past it.
pub record Past {A : Type 0} (s : List ℕ) (g : Sought A) (n : ℕ) : Type 0 where
  pub value : A
  pub at : At s g (found value) n

abbrev pub Passed : {A : Type 0} → List ℕ → Sought A → Result ℕ Wrong → Type 0
Passed s g (Ok n) = Past s g n
Passed s g (Err w) = At s g wrong w.place

-- A legal command and the end of its line.
abbrev pub seek_tail : Seeker (Unit {0})
seek_tail = do
  seek_command
  seek_literal LF
