-- `turns::restart_in` meets its contract: zeros behind the log, then a follower's head. Assumes nothing.
use mathlib.Core.Path.{ap}
use native.Mathlib.Omega.{arith}
use borrow.Author.Rules.{rules}
use Rattle.state.specs.declared.Head.{Head}
use Rattle.state.specs.Image.{state_size}
use Rattle.promise.proofs.LostLaws.{kept_size}
use Rattle.turns.proofs.ClearedLaws.{kept_inside, restart_steps}
use Rattle.turns.proofs.restart_in.Goals as goal

-- There is a head.
pub read_head-h-requires : goal.read_head-h-requires
unfolding state_size
read_head-h-requires c = omega (arith, kept_size c.args.state.now (λ i. search rules) c.requires)

-- The log's rows lie within the bytes.
pub clear-requires : goal.clear-requires
clear-requires c =
    let within = kept_inside c.args.state.now (λ i. search rules) c.requires in
    (omega (arith, within, ap (λ (h : Head). h.length.0) c.read_head-h.ensures, c.row_after.ensures), omega arith)

-- The head is still there.
pub write_head-requires : goal.write_head-requires
unfolding state_size
write_head-requires c = omega (arith, kept_size c.args.state.now (λ i. search rules) c.requires, c.clear.auto)

-- A restart's bytes.
pub returns : goal.returns
returns c =
    restart_steps c.args.state.now (λ i. search rules) c.requires c.read_head-h.ensures c.row_after.ensures c.clear.ensures c.follow.ensures
    c.write_head.ensures
