-- `typeplace::name_place` meets its contract: none of the six names stands there, and the last of their first wrong bytes is told. Assumes nothing.
use Rattle.message.specs.Text.{types}
use Rattle.typeplace.proofs.NameLaws.{six-names}
use Rattle.typeplace.proofs.name_place.Goals as goal

-- The last of the six.
pub returns : goal.returns
unfolding types
returns c = six-names _ _ c.requires.0 _ c.last_stop.ensures c.requires.1
