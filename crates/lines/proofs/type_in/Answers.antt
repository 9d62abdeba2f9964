-- `lines::type_in` meets its contract: the key, then the name of a type. Assumes nothing.
use borrow.Author.Rules.{rules}
use Rattle.lines.proofs.TypeLaws.{type_inside, type_named, type_none}
use Rattle.lines.proofs.type_in.Goals as goal

-- The line has another key.
pub returns-in_err-at : goal.returns-in_err-at
returns-in_err-at c = search (rules, type_none)

-- The name stands inside the text.
pub kind_in-requires : goal.kind_in-requires
kind_in-requires c = search (rules, type_inside)

-- The type is that of the name.
pub returns : goal.returns
returns c = search (rules, type_named)
