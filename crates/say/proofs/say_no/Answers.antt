-- `say::say_no` meets its contract: vote-no may be written. Assumes nothing.
use Rattle.say.proofs.AnswerLaws.{may_say_no}
use Rattle.say.proofs.say_no.Goals as goal

pub speak-requires : goal.speak-requires
speak-requires c = may_say_no _ _ _ c.args.hub.now.tested _ _ c.requires
