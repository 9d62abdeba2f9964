-- `fits::is_fitting` meets its contract. Assumes nothing.
use Rattle.std.proofs.Common.{arith}
use Rattle.std.proofs.lemmas.Grind.{common_steps}
use Rattle.std.proofs.lemmas.Bool.Decides.{nat_tests}
use Rattle.promise.proofs.AppendLaws.{tested_length, tested_ballot, tested_term}
use Rattle.rules.specs.Receive.{fits}
use Rattle.fits.specs.Follows.{follows}
use Rattle.fits.proofs.is_fitting.Goals as goal

pub returns-then-eq : goal.returns-then-eq
unfolding fits follows
returns-then-eq c =
    let ballot = tested_ballot _ _ _ c.args.hub.now.tested in
    let term = tested_term _ _ _ c.args.hub.now.tested in
    grind (arith, common_steps, nat_tests)

pub returns-else-eq : goal.returns-else-eq
unfolding fits follows
returns-else-eq c =
    let ballot = tested_ballot _ _ _ c.args.hub.now.tested in
    let term = tested_term _ _ _ c.args.hub.now.tested in
    let long = tested_length _ _ _ c.args.hub.now.tested in
    grind (arith, common_steps, nat_tests)

pub returns-else-is_following : goal.returns-else-is_following
unfolding fits follows
returns-else-is_following c = grind (arith, common_steps, nat_tests)
