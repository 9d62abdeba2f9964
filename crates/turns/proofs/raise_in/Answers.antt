-- `turns::raise_in` meets its contract: the gathered rows are cleared, then a follower's head is written. Assumes nothing.
use mathlib.Core.Path.{ap}
use native.Mathlib.Omega.{arith}
use Rattle.state.specs.declared.Head.{Head}
use Rattle.promise.proofs.PromiseLaws.{ready_size, ready_long}
use Rattle.promise.proofs.LostLaws.{rows_within}
use Rattle.turns.proofs.ClearedLaws.{raise_steps}
use Rattle.turns.proofs.raise_in.Goals as goal

-- The gathered rows lie within the table.
pub clear_gathered-requires : goal.clear_gathered-requires
clear_gathered-requires c =
    let pre = c.requires in
    (omega (arith, rows_within _ _ pre.ready, ap (λ (h : Head). h.length.0) pre.head, ap (λ (h : Head). h.gathered.0) pre.head), ready_size _ _ pre.ready)

-- The head is still there.
pub write_head-requires : goal.write_head-requires
write_head-requires c = omega (arith, ready_long _ _ c.requires.ready, c.clear_gathered.auto)

-- A follower's bytes.
pub returns : goal.returns
returns c =
    let pre = c.requires in
    let term = ap (λ (h : Head). h.term.0) pre.head in
    raise_steps _ _ pre.ready _ (omega (arith, pre.up, term)) pre.last pre.head c.clear_gathered.ensures c.follow.ensures c.write_head.ensures
