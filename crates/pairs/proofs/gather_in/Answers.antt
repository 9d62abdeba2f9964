-- `pairs::gather_in` meets its contract. The loop's invariant: the whole answer is what gathering the entries that are left comes to, in the rows behind
-- the first ones. Assumes nothing.
use Prim.Native.Nat.{ℕ, ◌+◌, ◌-◌, ◌*◌}
use mathlib.Core.Path.{◌≡◌, ◌∙◌, ap, ap₂}
use native.Mathlib.Omega.{arith}
use lib.ListN.{length}
use Rattle.std.proofs.Common.{rules}
use Rattle.std.specs.Iterator.Adapters.{enumerate_source, enumerate_count}
use Rattle.kinds.specs.Sizes.{row_size}
use Rattle.pairs.specs.Gather.{gathered_into}
use Rattle.pairs.proofs.GatheringLaws.{row_length, gathering_next, gathering_ends}
use Rattle.pairs.proofs.gather_in.Goals as goal

-- One entry more is gathered.
pub loop-i-preserved : goal.loop-i-preserved
loop-i-preserved c =
    let loop = c.loop-i in
    let step = c.in-Some.ensures.steps in
    let one = ap length step.0 in
    let long : length c.gather_row.new.state ≡ length loop.state = ap length c.gather_row.ensures ∙ row_length _ _ _ _ _ in
    let at : c.args.first + enumerate_count loop.i-iterator * row_size ≡ c.args.first + c.in-Some.i * row_size = omega (arith, step.1) in
    let n : c.from-held.result - enumerate_count loop.i-iterator ≡ c.from-held.result - c.in-Some.i = omega (arith, step.1) in
    let next : c.args.first + c.in-Some.i * row_size + row_size ≡ c.args.first + enumerate_count c.next.new.self * row_size = omega (arith, step.1, step.2) in
    let fewer : c.from-held.result - (c.in-Some.i + 1) ≡ c.from-held.result - enumerate_count c.next.new.self = omega (arith, step.1, step.2) in
    let others = enumerate_source c.next.new.self in (
      search rules,
      search rules,
      loop.invariant.2
          ∙ ap₂ (λ (a : ℕ) (m : ℕ). gathered_into loop.state a m c.args.ballot.0 (enumerate_source loop.i-iterator)) at n
          ∙ gathering_next loop.state _ c.from-held.result c.args.ballot.0 c.in-Some.i c.in-Some.entry others step.0 (search rules) (search rules)
          c.gather_row.ensures
          ∙ ap₂ (λ (a : ℕ) (m : ℕ). gathered_into c.gather_row.new.state a m c.args.ballot.0 others) next fewer,
    )

-- All are gathered.
pub returns : goal.returns
returns c =
    let none = gathering_ends c.loop-i.state (c.args.first + enumerate_count c.loop-i.i-iterator * row_size) (c.from-held.result - enumerate_count c.loop-i.i-iterator) c.args.ballot.0 c.in-None.ensures.steps.0.0 in
    search rules
