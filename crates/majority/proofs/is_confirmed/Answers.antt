-- `majority::is_confirmed` meets its contract: the library counts as the definition does. Assumes nothing.
use mathlib.Core.Path.{◌≡◌}
use borrow.Author.Rules.{rules}
use lib.Dec.{leb}
use lib.ListN.{take}
use Rattle.std.specs.List.{count_by}
use Rattle.kinds.specs.declared.Place.{Place}
use Rattle.rules.specs.Majority.{confirmed_by}
use Rattle.majority.proofs.ConfirmedLaws.{numbers_counted}
use Rattle.majority.proofs.is_confirmed.Goals as goal

pub returns : goal.returns
unfolding confirmed_by
returns c =
    let found : c.count.result ≡ count_by (λ (q : Place). leb c.args.p.0 q.0) (take c.args.n c.args.confirmed) = search rules in
    rw (found, numbers_counted (leb c.args.p.0) c.args.n c.args.confirmed)
