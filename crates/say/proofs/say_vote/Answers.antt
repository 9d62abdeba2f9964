-- `say::say_vote` meets its contract: each `return` is one answer of the rule. Assumes nothing.
use Rattle.std.proofs.Common.{arith}
use Rattle.std.proofs.lemmas.Bool.Decides.{nat_tests}
use Rattle.say.proofs.AnswerLaws.{said_no, may_say_yes, said_yes}
use Rattle.say.proofs.say_vote.Goals as goal

-- The ballot told is higher.
pub returns-then-lt : goal.returns-then-lt
returns-then-lt c =
    said_no _ _ _ c.args.hub.now.tested _ _ c.requires.answering c.ballot_told-told.ensures _ _ (grind (arith, nat_tests)) c.say_no.ensures

-- It is not, and the vote may be written.
pub speak-requires : goal.speak-requires
speak-requires c =
    may_say_yes _ _ _ c.args.hub.now.tested _ _ c.requires.answering c.ballot_told-told.ensures _ _ c.requires.request (grind (arith, nat_tests))
    c.entries_after.ensures

-- That is the vote.
pub returns : goal.returns
returns c =
    said_yes _ _ _ c.args.hub.now.tested _ _ c.requires.answering c.ballot_told-told.ensures _ _ c.requires.request (grind (arith, nat_tests))
    c.speak.ensures
