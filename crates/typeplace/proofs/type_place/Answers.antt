-- `typeplace::type_place` meets its contract: the key, then the name of a type. Assumes nothing.
use borrow.Author.Rules.{rules}
use Rattle.typeplace.proofs.NameLaws.{type_no_key, type_no_name, type_name}
use Rattle.typeplace.proofs.type_place.Goals as goal

-- Behind the key, inside the text, no name stands.
pub name_place-requires : goal.name_place-requires
name_place-requires c = (search rules, search (rules, type_no_name))

-- The first wrong byte is that of the names.
pub returns-in-Ok : goal.returns-in-Ok
returns-in-Ok c = search (rules, type_name)

-- Another key stands there.
pub returns-in-Err : goal.returns-in-Err
returns-in-Err c = search (rules, type_no_key)
