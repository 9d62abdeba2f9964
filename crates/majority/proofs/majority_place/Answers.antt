-- `majority::majority_place` meets its contract: the library's `filter` and `max` give the best, and the cut one is what is asked. Assumes nothing.
use mathlib.Core.Path.{◌≡◌, ◌∙◌}
use lib.ListN.{length, take}
use native.Mathlib.Omega.{arith}
use borrow.Author.Rules.{rules}
use Rattle.std.proofs.Common.{tests}
use Rattle.std.specs.List.{filter, reduce}
use Rattle.std.proofs.lemmas.Iterator.{YieldsList-from_slice}
use Rattle.std.proofs.lemmas.Iterator.Consumers.{YieldsList-from_copied, YieldsList-from_filter, reduce_from_yields_List}
use Rattle.majority.proofs.BestLaws.{later, is_confirmed, best_cut}
use Rattle.majority.proofs.majority_place.Goals as goal

pub returns : goal.returns
returns c =
    let ps = c.args.confirmed in
    let test = is_confirmed c.args.n ps in
    let found : c.max-best.result ≡ reduce later (filter test (take c.args.n ps)) =
    reduce_from_yields_List later _ _ c.max-best.ensures.ran
    (YieldsList-from_filter _ test (YieldsList-from_copied (YieldsList-from_slice (take c.args.n ps) (search rules)))
    c.filter.ensures.closure (λ x b q k. search (rules, tests))) in
    let long : length ps ≡ 7 = search rules in
    c.min.ensures
    ∙ rw (c.unwrap_or.ensures, found, c.from.ensures, c.from-2.ensures, c.places.ensures) (best_cut c.args.n ps (omega arith))
