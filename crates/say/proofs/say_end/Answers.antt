-- `say::say_end` meets its contract: append-yes with the end may be written. Assumes nothing.
use Rattle.say.proofs.AnswerLaws.{may_say_end}
use Rattle.say.proofs.say_end.Goals as goal

pub speak-requires : goal.speak-requires
speak-requires c = may_say_end _ _ _ c.args.hub.now.tested _ _ c.requires.0 _ c.requires.1
