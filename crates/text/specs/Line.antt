-- Lines `key=value`, each ended by LF, byte 10 (rule R27). A line whose value is a number, written and read.
-- A key is given with its `=`. Assumes nothing.
use Rattle.std.specs.Prelude.{ℕ, List, [], ◌∷◌, ◌++◌}
use Rattle.text.specs.Decimal.{decimal, number}
use Rattle.text.specs.Reader.{Reader, ◌>>=◌, ◌>>◌, pure, literal}

-- The end of a line.
abbrev pub LF : List ℕ
LF = 10 ∷ []

unfoldable pub line_text : List ℕ → ℕ → List ℕ
line_text key x = key ++ (decimal x ++ LF)

unfoldable pub line : List ℕ → Reader ℕ
line key = do
  literal key
  x ← number
  literal LF
  pure x
