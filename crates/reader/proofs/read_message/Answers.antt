-- `reader::read_message` meets its contract: the text is too long, a line is none, more text follows, or it is a message. Assumes nothing.
use borrow.Author.Rules.{rules}
use Rattle.reader.proofs.AnswerLaws.{entries_open, read_all, read_long, read_more, read_no_entries, read_no_opening}
use Rattle.reader.proofs.read_message.Goals as goal

-- The text is too long.
pub returns-then-room-s : goal.returns-then-room-s
returns-then-room-s c = search (rules, read_long)

-- A line before the entries is none.
pub returns-in_err-opening : goal.returns-in_err-opening
returns-in_err-opening c = search (rules, read_no_opening)

-- Entries that are counted have some term.
pub entries_end-requires : goal.entries_end-requires
entries_end-requires c = search (rules, entries_open)

-- An entry line is none.
pub returns-in_err-end : goal.returns-in_err-end
returns-in_err-end c = search (rules, read_no_entries)

-- More text follows.
pub returns-then-end-s : goal.returns-then-end-s
returns-then-end-s c = search (rules, read_more)

-- It is a message.
pub returns : goal.returns
returns c = search (rules, read_all)
