-- `entries::entry_in` meets its contract: the parts of a line, one after the other, up to the first that is none. Assumes nothing.
use borrow.Author.Rules.{rules}
use Rattle.entries.proofs.CheckLaws.{entry-no-key, entry-no-term, entry-no-tail, entry_is}
use Rattle.entries.proofs.entry_in.Goals as goal

-- Another key stands there.
pub returns-in_err-p : goal.returns-in_err-p
returns-in_err-p c = search (rules, entry-no-key)

-- No term of the range.
pub returns-in_err-term : goal.returns-in_err-term
returns-in_err-term c = search (rules, entry-no-term)

-- No legal command, or the line does not end there.
pub returns-then-not-is_tail : goal.returns-then-not-is_tail
returns-then-not-is_tail c =
    entry-no-tail _ _ _ _ _ c.literal_in.ensures c.in_ok-p.was c.requires.1 _ c.number_in.ensures c.in_ok-term.was _ c.is_tail.ensures c.if-not-is_tail.true c.tail_place.ensures

-- All of it stands there.
pub returns : goal.returns
returns c =
    entry_is _ _ _ _ _ c.literal_in.ensures c.in_ok-p.was c.requires.1 _ c.number_in.ensures c.in_ok-term.was _ c.is_tail.ensures c.if-not-is_tail.false
