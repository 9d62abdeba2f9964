-- `fill::put_entries` meets its contract. The loop's invariant: the entries that are left still go into the rows behind the first ones. Assumes nothing.
use Prim.Native.Nat.{ℕ, ◌+◌, ◌*◌}
use mathlib.Core.Path.{◌≡◌, ◌∙◌, ap}
use native.Mathlib.Omega.{arith}
use lib.ListN.{length}
use lib.Seq.{sets}
use Rattle.std.proofs.Common.{rules}
use Rattle.std.specs.Iterator.Adapters.{enumerate_source, enumerate_count}
use Rattle.kinds.specs.Sizes.{row_size}
use Rattle.rows.specs.Rows.{bytes_of}
use Rattle.state.specs.Image.{log_row}
use Rattle.fill.proofs.EntriesLaws.{put_next}
use Rattle.fill.proofs.put_entries.Goals as goal

-- One entry more is in its row.
pub loop-i-preserved : goal.loop-i-preserved
loop-i-preserved c =
    let loop = c.loop-i in
    let step = c.in-Some.ensures.steps in
    let one = ap length step.0 in
    let at : c.args.row + enumerate_count loop.i-iterator * row_size ≡ c.args.row + c.in-Some.i * row_size = omega (arith, step.1) in
    let next : c.args.row + c.in-Some.i * row_size + row_size ≡ c.args.row + enumerate_count c.next.new.self * row_size = omega (arith, step.1, step.2) in
    let others = bytes_of log_row (enumerate_source c.next.new.self) in (
      search rules,
      search rules,
      loop.invariant.2
          ∙ ap (λ (to : ℕ). sets loop.state to (bytes_of log_row (enumerate_source loop.i-iterator))) at
          ∙ put_next loop.state (c.args.row + c.in-Some.i * row_size) c.in-Some.entry (enumerate_source c.next.new.self) step.0 (search rules)
          c.put_row.ensures
          ∙ ap (λ (to : ℕ). sets c.put_row.new.s to others) next,
    )

-- All are in their rows.
pub returns : goal.returns
unfolding bytes_of
returns c =
    let none = c.in-None.ensures.steps in
    search rules
