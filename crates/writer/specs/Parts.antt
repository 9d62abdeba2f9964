-- The lines of a message's own fields, as the code's own body gives them. Assumes nothing.
use Rattle.std.specs.Prelude.{ℕ, List, ◌∷◌}
use Rattle.message.specs.Fields.{own_fields}
use Rattle.message.specs.Text.{lines_text}
use Rattle.message.specs.Answer.{type_in, own_in}
use Rattle.message.specs.declared.Body.{Body}

-- The lines of the type's own fields, whose slots come behind three others.
unfoldable pub own_text : Body → List ℕ
own_text b = lines_text (own_fields (type_in b)) (0 ∷ 0 ∷ 0 ∷ own_in b)
