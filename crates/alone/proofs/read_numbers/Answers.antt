-- `alone::read_numbers` meets its contract: too few numbers are lent, or the text's numbers are put, or it is no legal message. Assumes nothing.
use borrow.Author.Rules.{rules}
use Rattle.reader.proofs.AnswerLaws.{place_small}
use Rattle.alone.proofs.ToldLaws.{tells_short, tells_refused, tells_message, entries_small}
use Rattle.alone.proofs.read_numbers.Goals as goal

-- Fewer than eight numbers are lent.
pub returns-then-numbers-lt-MANY : goal.returns-then-numbers-lt-MANY
returns-then-numbers-lt-MANY c = search (rules, tells_short)

-- Where the entry lines begin fits.
pub packed-requires : goal.packed-requires
packed-requires c = search (rules, entries_small)

-- The numbers are put.
pub returns-in-Ok : goal.returns-in-Ok
returns-in-Ok c = search (rules, tells_message)

-- The place has its bits.
pub placed-requires : goal.placed-requires
placed-requires c = search (rules, place_small)

-- The text is no legal message.
pub returns-in-Err : goal.returns-in-Err
returns-in-Err c = search (rules, tells_refused)
