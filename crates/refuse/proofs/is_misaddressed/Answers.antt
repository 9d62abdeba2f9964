-- `refuse::is_misaddressed` meets its contract: the tests of the definition, in its order. Assumes nothing.
use Rattle.rules.specs.Receive.{is_misaddressed}
use Rattle.refuse.proofs.is_misaddressed.Goals as goal

-- All of them.
pub returns : goal.returns
unfolding is_misaddressed
returns c = λ s. rw (c.from.ensures, c.eq.ensures, c.eq-2.ensures, c.from-2.ensures)
