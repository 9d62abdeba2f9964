-- The table of a state's bytes as one list of rows: the log's, the gathered ones behind them, and zeros up to the limit. Assumes nothing.
use Rattle.std.specs.Prelude.{ℕ, ◌-◌, ◌*◌, List, ◌++◌, map, length, replicate}
use Rattle.kinds.specs.Sizes.{limit, row_size}
use Rattle.state.specs.State.{Pair, State}
use Rattle.rows.specs.Rows.{bytes_of, Row, row_bytes, entry_row}
use Rattle.state.specs.Image.{gathered_of}

-- The row of a gathered pair.
abbrev pub pair_row : Pair → Row
pair_row g = record { number = g.ballot; command = g.command }

-- The rows of a state.
unfoldable pub rows_of : State → List Row
rows_of s = map entry_row s.kept.log ++ map pair_row (gathered_of s.lost)

-- The bytes of a table that holds these rows and no others.
unfoldable pub table : List Row → List ℕ
table rs = bytes_of row_bytes rs ++ replicate ((limit - length rs) * row_size) 0
