-- `reader::entries_end` meets its contract: no entries are counted, or some. Assumes nothing.
use borrow.Author.Rules.{rules}
use Rattle.reader.proofs.AnswerLaws.{none_follow}
use Rattle.reader.proofs.entries_end.Goals as goal

-- No entries are counted.
pub returns-in-0 : goal.returns-in-0
returns-in-0 c = search (rules, none_follow)
