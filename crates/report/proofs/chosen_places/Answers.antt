-- `report::chosen_places` meets its contract. Assumes nothing.
use mathlib.Core.Path.{sym, ◌∙◌, ap}
use native.Mathlib.Omega.{arith}
use Rattle.state.specs.declared.Head.{Head}
use Rattle.state.specs.Image.{state_size}
use Rattle.promise.proofs.LostLaws.{kept_size}
use Rattle.report.proofs.ReportLaws.{chosen_bad, chosen_counted}
use Rattle.kinds.specs.Packed.{packed}
use Rattle.kinds.specs.Outcome.{done}
use Rattle.report.proofs.chosen_places.Goals as goal

-- Kept parts that are not legal.
pub returns-then-not-is_kept_legal : goal.returns-then-not-is_kept_legal
returns-then-not-is_kept_legal c = sym (chosen_bad _ (sym c.is_kept_legal.ensures ∙ c.if-not-is_kept_legal.true))

-- There is a head.
pub read_head-requires : goal.read_head-requires
unfolding state_size
read_head-requires c =
    omega (arith, kept_size c.args.state.now (λ i. (c.type_inv.state i).fits) (sym c.is_kept_legal.ensures ∙ c.if-not-is_kept_legal.false))

-- The head's count.
pub returns : goal.returns
returns c =
    ap (packed done) (c.into.ensures ∙ ap (λ (h : Head). h.chosen.0) c.read_head.ensures)
    ∙ sym (chosen_counted _ (sym c.is_kept_legal.ensures ∙ c.if-not-is_kept_legal.false))
