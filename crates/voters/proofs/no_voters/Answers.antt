-- `voters::no_voters` meets its contract: the library asks all as the definition does. Assumes nothing.
use mathlib.Core.Path.{◌∙◌}
use mathlib.Core.Bool.{not}
use lib.ListN.{drop}
use Rattle.std.proofs.Common.{rules, tests}
use Rattle.std.proofs.lemmas.Iterator.{YieldsList-from_slice}
use Rattle.std.proofs.lemmas.Iterator.Adapters.{YieldsList-from_skip}
use Rattle.std.proofs.lemmas.Iterator.Search.{all_from_yields_List}
use Rattle.state.proofs.LegalLaws.{all_is}
use Rattle.voters.proofs.no_voters.Goals as goal

pub returns : goal.returns
returns c =
    all_from_yields_List not _ _ c.all.result c.all.ensures.ran (YieldsList-from_skip c.args.at (YieldsList-from_slice c.args.vs cc) cc)
    (λ x b q k. search (rules, tests))
    ∙ all_is not (drop c.args.at c.args.vs)
