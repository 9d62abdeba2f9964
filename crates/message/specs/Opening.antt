-- A message up to its entries, read by ranges: its type and its numbers. Assumes nothing.
use Rattle.std.specs.Prelude.{ℕ, List}
use Rattle.text.specs.Reader.{Reader, ◌>>=◌, ◌>>◌, pure, literal}
use Rattle.message.specs.Fields.{MessageType, fields, unset}
use Rattle.message.specs.Text.{type=, type_among, types}
use Rattle.message.specs.Range.{lines_in}

pub record Opening : Type 0 where
  pub type : MessageType
  pub numbers : List ℕ

-- The line `type`.
unfoldable pub type_line : Reader MessageType
type_line = do
  literal type=
  type_among types

-- All lines before the entries.
unfoldable pub opening : Reader Opening
opening = do
  t ← type_line
  ns ← lines_in t (fields t) unset
  pure (record { type = t; numbers = ns })
