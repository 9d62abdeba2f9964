-- `turns::start_in` meets its contract: the gathered rows are cleared, then a candidate's head is written. Assumes nothing.
use mathlib.Core.Path.{◌∙◌, ap}
use native.Mathlib.Omega.{arith}
use Rattle.state.specs.declared.Head.{Head}
use Rattle.promise.proofs.PromiseLaws.{ready_size, ready_long, ready_who}
use Rattle.promise.proofs.LostLaws.{rows_within}
use Rattle.turns.proofs.ClearedLaws.{start_steps}
use Rattle.turns.proofs.start_in.Goals as goal

-- The gathered rows lie within the table.
pub clear_gathered-requires : goal.clear_gathered-requires
clear_gathered-requires c =
    let pre = c.requires in
    (omega (arith, rows_within _ _ pre.ready, ap (λ (h : Head). h.length.0) pre.head, ap (λ (h : Head). h.gathered.0) pre.head), ready_size _ _ pre.ready)

-- The own number is a hub's, and the term does not wrap.
pub stand-requires : goal.stand-requires
stand-requires c =
    let pre = c.requires in
    let who = ready_who _ _ pre.ready in
    (who.first, omega (arith, who.last, who.most), pre.low)

-- The head is still there.
pub write_head-requires : goal.write_head-requires
write_head-requires c = omega (arith, ready_long _ _ c.requires.ready, c.clear_gathered.auto)

-- A candidate's bytes.
pub returns : goal.returns
returns c =
    let pre = c.requires in
    let role = ap (λ (h : Head). h.role) pre.head in
    let term = ap (λ (h : Head). h.term.0) pre.head in
    start_steps _ _ pre.ready (λ e. pre.role (role ∙ e)) (omega (arith, pre.low, term)) pre.head c.clear_gathered.ensures c.stand.ensures c.write_head.ensures
