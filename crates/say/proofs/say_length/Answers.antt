-- `say::say_length` meets its contract: append-no may be written, and the head's length is the log's. Assumes nothing.
use Rattle.say.proofs.AnswerLaws.{may_say_length, said_length}
use Rattle.say.proofs.say_length.Goals as goal

-- The message may be written.
pub speak-requires : goal.speak-requires
speak-requires c = may_say_length _ _ _ c.args.hub.now.tested _ _ c.requires

-- It says the log's length.
pub returns : goal.returns
returns c = said_length _ _ _ c.args.hub.now.tested _ _ c.requires c.speak.ensures
