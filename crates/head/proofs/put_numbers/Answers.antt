-- `head::put_numbers` meets its contract: five writes, each behind the one before. Assumes nothing.
use Rattle.state.proofs.HeadLaws.{numbers_written}
use Rattle.head.proofs.put_numbers.Goals as goal

pub returns : goal.returns
returns c =
    numbers_written c.args.h c.args.s.now
    (rw c.into.ensures at c.put32.ensures)
    (rw c.into-2.ensures at c.put32-2.ensures)
    (rw c.into-3.ensures at c.put32-3.ensures)
    (rw c.into-4.ensures at c.put32-4.ensures)
    (rw c.into-5.ensures at c.put32-5.ensures)
