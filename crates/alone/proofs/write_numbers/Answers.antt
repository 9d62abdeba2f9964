-- `alone::write_numbers` meets its contract: the answer of the writer is told. Assumes nothing.
use Rattle.alone.proofs.LeftLaws.{bytes_small}
use Rattle.alone.proofs.write_numbers.Goals as goal

-- How many bytes the text has fits.
pub packed-requires : goal.packed-requires
packed-requires c = bytes_small c.args.numbers.now c.args.rows.now c.args.out.now c.write_by_numbers.ensures c.in-Ok.is
