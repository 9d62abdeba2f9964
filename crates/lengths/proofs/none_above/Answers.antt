-- `lengths::none_above` meets its contract: the library asks all as the definition does. Assumes nothing.
use mathlib.Core.Path.{◌∙◌}
use lib.Dec.{leb}
use Rattle.std.proofs.Common.{rules, tests}
use Rattle.std.proofs.lemmas.Iterator.{YieldsList-from_slice}
use Rattle.std.proofs.lemmas.Iterator.Search.{all_from_yields_List}
use Rattle.kinds.specs.declared.Place.{Place}
use Rattle.state.proofs.LegalLaws.{all_is}
use Rattle.lengths.proofs.none_above.Goals as goal

pub returns : goal.returns
returns c =
    let within = λ (p : Place). leb p.0 c.args.n.0 in
    all_from_yields_List within _ _ c.all.result c.all.ensures.ran (YieldsList-from_slice c.args.ps cc) (λ x b q k. search (rules, tests)) ∙ all_is within c.args.ps
