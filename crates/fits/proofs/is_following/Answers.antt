-- `fits::is_following` meets its contract: each `return` is one case of the test. Assumes nothing.
use Rattle.std.proofs.Common.{arith}
use Rattle.std.proofs.lemmas.Grind.{common_steps}
use Rattle.std.proofs.lemmas.Bool.Decides.{nat_tests}
use Rattle.promise.proofs.AppendLaws.{tested_length}
use Rattle.fits.specs.Follows.{follows}
use Rattle.fits.proofs.is_following.Goals as goal

pub returns-then-from-eq0 : goal.returns-then-from-eq0
unfolding follows
returns-then-from-eq0 c = grind (arith, common_steps)

pub returns-then-le : goal.returns-then-le
unfolding follows
returns-then-le c =
    let long = tested_length _ _ _ c.args.hub.now.tested in
    grind (arith, common_steps, nat_tests)

pub returns-else-le : goal.returns-else-le
unfolding follows
returns-else-le c =
    let long = tested_length _ _ _ c.args.hub.now.tested in
    grind (arith, common_steps, nat_tests)
