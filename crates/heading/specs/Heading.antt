-- The lines with which every message begins, as the code's own fields give them. Assumes nothing.
use Rattle.std.specs.Prelude.{ℕ, List, [], ◌∷◌, ◌++◌}
use Rattle.text.specs.Line.{LF}
use Rattle.message.specs.Fields.{term=, from=, to=}
use Rattle.message.specs.Text.{type=, name, lines_text}
use Rattle.message.specs.Answer.{type_in}
use Rattle.message.specs.declared.Body.{Body}
use Rattle.message.specs.declared.Fields.{Fields}

-- The line of the type.
unfoldable pub type_text : Body → List ℕ
type_text b = type= ++ (name (type_in b) ++ LF)

-- The lines term, from and to.
unfoldable pub head_text : Fields → List ℕ
head_text f = lines_text (term= ∷ from= ∷ to= ∷ []) (f.term.0 ∷ f.from.0 ∷ f.to.0 ∷ [])
