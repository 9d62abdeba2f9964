-- `print::put` meets its contract. The loop's invariant: the first i bytes are written. Assumes nothing.
use mathlib.Core.Path.{refl}
use Rattle.text.proofs.WroteLaws.{put_again}
use Rattle.print.proofs.put.Goals as goal

-- One more byte.
pub loop-i-preserved : goal.loop-i-preserved
loop-i-preserved c =
    let loop = c.loop-i in
    put_again _ _ _ loop.i _ _ refl loop.invariant c.loop-i-test.true
