-- `rows::are_legal` meets its contract. The loop's invariant: the rows that are left decide as all of them do. Assumes nothing.
use native.Mathlib.Omega.{arith}
use mathlib.Core.Path.{sym, ◌∙◌, ap}
use Rattle.std.specs.Slice.Iter.{chunks_exact_size, chunks_exact_rest}
use Rattle.rows.specs.Rows.{legal_rows}
use Rattle.rows.proofs.LegalLaws.{whole_rows, rows_whole, row_stops, row_goes, rows_end}
use Rattle.rows.proofs.are_legal.Goals as goal

-- All rows are left.
pub loop-row-init : goal.loop-row-init
loop-row-init c =
    let args = c.args in
    let chunks = c.chunks_exact-row-items in
    let same = c.into_iter-row-iterator.ensures.into_iter_gives in
    let size = ap chunks_exact_size same ∙ chunks.ensures.size in
    let rest = ap chunks_exact_rest same ∙ chunks.ensures.rest in
    (omega (arith, size), tt, size, ap (legal_rows args.rising args.low args.high) (rows_whole args.from args.n args.s.now c.requires ∙ ap whole_rows (sym rest)))

-- A row that is not legal.
pub returns-then-not-least-t : goal.returns-then-not-least-t
returns-then-not-least-t c =
    let loop = c.loop-row in
    let steps = c.in-Some.ensures.steps in
    sym
    (loop.invariant.3
    ∙ row_stops c.in-Some.row.now (chunks_exact_rest c.next.new.self) c.get32-t.result c.is_legal_at.result (steps.1.1 ∙ loop.invariant.2)
    c.get32-t.ensures c.is_legal_at.ensures c.args.rising loop.least c.args.high (chunks_exact_rest loop.row-iterator) steps.1.0 c.if-not-least-t.true)

-- A legal row, and numbers rise.
pub loop-row-preserved-then-rising : goal.loop-row-preserved-then-rising
loop-row-preserved-then-rising c =
    let loop = c.loop-row in
    let steps = c.in-Some.ensures.steps in
    let size = steps.0 ∙ loop.invariant.2 in (
      omega (arith, size),
      tt,
      size,
      loop.invariant.3
          ∙ row_goes c.in-Some.row.now (chunks_exact_rest c.next.new.self) c.get32-t.result c.is_legal_at.result (steps.1.1 ∙ loop.invariant.2)
          c.get32-t.ensures c.is_legal_at.ensures c.args.rising loop.least c.args.high (chunks_exact_rest loop.row-iterator) _ steps.1.0 (rw c.if-rising.true) c.if-not-least-t.false,
    )

-- Or need not.
pub loop-row-preserved : goal.loop-row-preserved
loop-row-preserved c =
    let loop = c.loop-row in
    let steps = c.in-Some.ensures.steps in
    let size = steps.0 ∙ loop.invariant.2 in (
      omega (arith, size),
      tt,
      size,
      loop.invariant.3
          ∙ row_goes c.in-Some.row.now (chunks_exact_rest c.next.new.self) c.get32-t.result c.is_legal_at.result (steps.1.1 ∙ loop.invariant.2)
          c.get32-t.ensures c.is_legal_at.ensures c.args.rising loop.least c.args.high (chunks_exact_rest loop.row-iterator) _ steps.1.0 (rw c.if-rising.false) c.if-not-least-t.false,
    )

-- All are passed.
pub returns : goal.returns
returns c =
    let loop = c.loop-row in
    let few = c.in-None.ensures.steps.1.0 in
    sym (loop.invariant.3 ∙ rows_end c.args.rising loop.least c.args.high (chunks_exact_rest loop.row-iterator) (omega (arith, few, loop.invariant.2)))
