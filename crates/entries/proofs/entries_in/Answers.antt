-- `entries::entries_in` meets its contract: so many lines were read, and the next begins where those end. Assumes nothing.
use borrow.Author.Rules.{rules}
use Rattle.entries.proofs.EntryLaws.{walking_none, walking_done, walking_open, walking_stuck, walking_again}
use Rattle.entries.proofs.entries_in.Goals as goal

-- At first no line was read.
pub loop-init : goal.loop-init
loop-init c = search (rules, walking_none)

-- The next line begins inside the text, and may have some term.
pub entry_in-requires : goal.entry_in-requires
entry_in-requires c = (search rules, search (rules, walking_open))

-- The next line is none.
pub returns-in_err-term : goal.returns-in_err-term
returns-in_err-term c = walking_stuck c.loop.invariant c.loop-test.true (search rules) c.entry_in.result c.entry_in.ensures c.in_err-term.was (search rules)

-- It was read.
pub loop-preserved : goal.loop-preserved
loop-preserved c = search (rules, walking_again)

-- No line is left.
pub returns : goal.returns
returns c = search (rules, walking_done)
