-- `report::reported_at` meets its contract: each `return` is one answer. Assumes nothing.
use Prim.Native.Nat.{◌+◌, ◌*◌}
use mathlib.Core.Path.{refl, sym, ◌∙◌, ap}
use native.Mathlib.Omega.{arith}
use Rattle.std.proofs.lemmas.Bool.Decides.{nat_tests}
use Rattle.kinds.specs.declared.Place.{Place}
use Rattle.kinds.specs.Sizes.{row_size}
use Rattle.state.specs.declared.Head.{Head}
use Rattle.state.specs.Image.{head_size, state_size}
use Rattle.promise.proofs.LostLaws.{kept_size}
use Rattle.report.proofs.ReportLaws.{reported_bad, reported_short, reported_outside, reported_inside, reported_done}
use Rattle.report.proofs.reported_at.Goals as goal

-- Kept parts that are not legal.
pub returns-then-not-is_kept_legal : goal.returns-then-not-is_kept_legal
returns-then-not-is_kept_legal c = reported_bad _ _ _ (sym c.is_kept_legal.ensures ∙ c.if-not-is_kept_legal.true)

-- Too little room.
pub returns-then-out-lt-SIZE : goal.returns-then-out-lt-SIZE
returns-then-out-lt-SIZE c = reported_short _ _ _ (sym c.is_kept_legal.ensures ∙ c.if-not-is_kept_legal.false) c.if-out-lt-SIZE.true

-- There is a head.
pub read_head-requires : goal.read_head-requires
unfolding state_size
read_head-requires c =
    omega (arith, kept_size c.args.state.now (λ i. (c.type_inv.state i).fits) (sym c.is_kept_legal.ensures ∙ c.if-not-is_kept_legal.false))

-- A place that is not reported.
pub returns-then-not-contains : goal.returns-then-not-contains
returns-then-not-contains c =
    let legal = sym c.is_kept_legal.ensures ∙ c.if-not-is_kept_legal.false in
    let chosen = c.from-chosen.ensures ∙ ap (λ (h : Head). h.chosen.0) c.read_head.ensures in
    reported_outside _ _ _ (λ i. (c.type_inv.state i).fits) legal c.if-out-lt-SIZE.false
    (λ first last. grind (arith, nat_tests, c.if-not-contains.ensures.value, c.new.ensures.start, c.new.ensures.end, c.new.ensures.exhausted))

-- The row lies within the bytes.
pub words_at-requires : goal.words_at-requires
words_at-requires c =
    let legal = sym c.is_kept_legal.ensures ∙ c.if-not-is_kept_legal.false in
    let chosen = c.from-chosen.ensures ∙ ap (λ (h : Head). h.chosen.0) c.read_head.ensures in
    let inside =
    reported_inside c.args.state.now c.args.out.now c.args.place (λ i. (c.type_inv.state i).fits) legal c.if-out-lt-SIZE.false
    (grind (arith, nat_tests, c.if-not-contains.ensures.cases.0, c.new.ensures.start))
    (grind (arith, nat_tests, c.if-not-contains.ensures.cases.1, c.new.ensures.end)) in
    omega (arith, c.row_after-row.ensures, ap (λ (p : Place). p.0) c.from.ensures, inside)

-- The command at the place.
pub returns : goal.returns
returns c =
    let legal = sym c.is_kept_legal.ensures ∙ c.if-not-is_kept_legal.false in
    let chosen = c.from-chosen.ensures ∙ ap (λ (h : Head). h.chosen.0) c.read_head.ensures in
    reported_done c.args.state.now c.args.out.now c.args.place (λ i. (c.type_inv.state i).fits) legal c.if-out-lt-SIZE.false
    (grind (arith, nat_tests, c.if-not-contains.ensures.cases.0, c.new.ensures.start))
    (grind (arith, nat_tests, c.if-not-contains.ensures.cases.1, c.new.ensures.end))
    (c.row_after-row.ensures ∙ ap (λ (p : Place). head_size + p.0 * row_size) c.from.ensures) refl c.words_at.ensures c.put_words.ensures
