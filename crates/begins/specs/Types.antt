-- The line `type`, sought: one of six names. Assumes nothing.
use Rattle.std.specs.Prelude.{cond, List, [], ◌∷◌, ◌++◌, leb, length}
use Rattle.text.specs.Line.{LF}
use Rattle.message.specs.Fields.{MessageType}
use Rattle.message.specs.Text.{type=, name, types}
use Rattle.begins.specs.Seek.{Sought, found, wrong, Seeker, ◌>>◌, seek_literal}

-- What either finds; where neither does, what is wrong later.
unfoldable pub later : {A : Type 0} → Sought A → Sought A → Sought A
later (found a r) y = found a r
later (wrong r) (found a q) = found a q
later (wrong r) (wrong q) = wrong (cond (leb (length r) (length q)) r q)

-- The name of a type, with the line's end.
abbrev pub seek_name : MessageType → Seeker MessageType
seek_name t = do
  seek_literal (name t ++ LF)
  found t

-- One of these types.
unfoldable pub seek_types : List MessageType → Seeker MessageType
seek_types [] s = wrong s
seek_types (t ∷ ts) s = later (seek_name t s) (seek_types ts s)

-- The line `type`.
unfoldable pub seek_type : Seeker MessageType
seek_type = do
  seek_literal type=
  seek_types types
