-- `replace::take_in` meets its contract: it does not fit; the log stays, and only the head is written; or rows from prev on are written first.
-- Assumes nothing.
use Prim.Native.Nat.{◌<◌, ◌≤◌, max}
use mathlib.Core.Path.{◌≡◌, sym, ◌∙◌, ap}
use native.Mathlib.Omega.{arith}
use Rattle.std.proofs.Common.{rules, tests}
use Rattle.kinds.specs.Of.{place}
use Rattle.kinds.specs.declared.Place.{Place}
use Rattle.kinds.proofs.SizesLaws.{limit_small}
use Rattle.promise.proofs.PromiseLaws.{ready_long}
use Rattle.replace.proofs.FittingLaws.{end_within, rows_inside, fits_test, log_stays, log_older, log_shorter, taken_not, taken_stays, taken_put}
use Rattle.replace.proofs.take_in.Goals as goal
use Rattle.replace.proofs.take_in.Goals.{else-eq-via-then-eq+else-le, else-eq-via-else-eq}

-- The end is within the limit.
pub end-end-requires : goal.end-end-requires
end-end-requires c = omega (arith, limit_small, end_within c.requires)

-- It does not fit.
pub returns-then-not-is_fitting : goal.returns-then-not-is_fitting
returns-then-not-is_fitting c =
    let test = fits_test c.requires c.end-end.ensures c.is_fitting.ensures in
    let no-fit = sym test ∙ c.if-not-is_fitting.true in
    (sym no-fit, taken_not c.requires no-fit)

-- There is a head.
pub write_head-requires : goal.write_head-requires
write_head-requires c = ready_long _ _ c.requires.tested.ready

-- It fits, and the log stays.
pub returns-then-le : goal.returns-then-le
returns-then-le c =
    let test = fits_test c.requires c.end-end.ensures c.is_fitting.ensures in
    let fit = sym test ∙ c.if-not-is_fitting.false in
    let own : c.args.h.ballot.0 ≡ c.args.h.term.0 = search (rules, tests) in
    let end = ap (λ (p : Place). p.0) c.end-end.ensures in
    let within : c.end-end.result.0 ≤ c.args.h.length.0 = search (rules, tests) in
    let most : c.max-most.result ≡ place (max c.args.h.chosen.0 c.args.append.chosen.0) = search rules in
    (sym fit, taken_stays c.requires fit (log_stays c.requires own (omega (arith, end, within))) most c.take_head.ensures c.write_head.ensures)

-- The rows of the message's entries lie within the table.
pub put_entries-requires : goal.put_entries-requires
put_entries-requires c = omega (arith, rows_inside c.requires, c.row_after.ensures)

-- The head is still there.
pub write_head-requires-2 : goal.write_head-requires-2
write_head-requires-2 c = omega (arith, ready_long _ _ c.requires.tested.ready, c.put_entries.auto)

-- It fits, and entries after prev are replaced.
pub returns : goal.returns
returns c =
    let test = fits_test c.requires c.end-end.ensures c.is_fitting.ensures in
    let fit = sym test ∙ c.if-not-is_fitting.false in
    let end = ap (λ (p : Place). p.0) c.end-end.ensures in
    let most : c.max-most.result ≡ place (max c.args.h.chosen.0 c.args.append.chosen.0) = search rules in (
      sym fit,
      taken_put c.requires fit
          (elim c.else-eq.branch [
            | else-eq-via-then-eq+else-le w ↦
                let beyond : c.args.h.length.0 < c.end-end.result.0 = search (rules, tests) in log_shorter c.requires (omega (arith, end, beyond))
            | else-eq-via-else-eq w ↦ log_older c.requires (λ e. search (rules, tests))
          ])
          most c.end-end.ensures c.row_after.ensures c.put_entries.ensures c.take_head-2.ensures c.write_head-2.ensures,
    )
