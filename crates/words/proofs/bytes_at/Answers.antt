-- `words::bytes_at` meets its contract: the slice is as long as the array. Assumes nothing.
use Rattle.std.proofs.Common.{rules}
use Rattle.command.specs.Words.{part}
use Rattle.words.proofs.bytes_at.Goals as goal

pub returns : goal.returns
unfolding part
returns g c = search rules
