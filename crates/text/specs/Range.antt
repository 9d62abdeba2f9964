-- A number that has to lie in a range lo..hi, both ends included: read with the byte that ends it, or as a line. Assumes nothing.
use Rattle.std.specs.Prelude.{ℕ, true, false, List, [], ◌∷◌}
use Rattle.kinds.specs.Sizes.{between}
use Rattle.text.specs.Decimal.{number}
use Rattle.text.specs.Reader.{got, lost, Reader, ◌>>=◌, ◌>>◌, literal}

-- The value x, if it lies in lo..hi. It stands for no text.
unfoldable pub within : ℕ → ℕ → ℕ → Reader ℕ
within lo hi x s = elim (between lo hi x) [ true ↦ got x s | false ↦ lost ]

-- A number in lo..hi and the byte that ends it.
unfoldable pub number_in : ℕ → ℕ → ℕ → Reader ℕ
number_in lo hi end = do
  x ← number
  literal (end ∷ [])
  within lo hi x

-- A line whose number lies in lo..hi.
unfoldable pub line_in : List ℕ → ℕ → ℕ → Reader ℕ
line_in key lo hi = do
  literal key
  number_in lo hi 10
