-- `player::play` meets its contract: of a legal command each return is one case of `played`. Assumes nothing.
use mathlib.Core.Path.{sym, ◌∙◌, ap}
use Rattle.std.specs.Prelude.{Ok}
use lib.IntN.{ℤ}
use mir.Facts.{to_z-of_z}
use Rattle.play.specs.Answer.{drives}
use Rattle.play.proofs.AnswerLaws.{played_bad_calibration, played_bad_elapsed, played_drives}
use Rattle.player.proofs.ElapsedLaws.{elapsed_kept, elapsed_is}
use Rattle.player.proofs.play.Goals as goal

pub returns-then-not-is_calibration : goal.returns-then-not-is_calibration
returns-then-not-is_calibration c = played_bad_calibration _ _ c.in-Ok.ensures c.args.elapsed c.args.cal (sym c.if-not-is_calibration.ensures)

pub returns-then-not-is_elapsed : goal.returns-then-not-is_elapsed
returns-then-not-is_elapsed c =
    played_bad_elapsed _ _ c.in-Ok.ensures c.args.elapsed c.args.cal (sym c.if-not-is_calibration.ensures)
    (rw (to_z-of_z c.ranges.elapsed) at (sym c.if-not-is_elapsed.ensures))

pub overflow_cast-elapsed : goal.overflow_cast-elapsed
overflow_cast-elapsed c = elapsed_kept _ (sym c.if-not-is_elapsed.ensures)

pub returns : goal.returns
returns c =
    let back = to_z-of_z c.ranges.elapsed in
    let ms = elapsed_is _ (sym c.if-not-is_elapsed.ensures) ∙ back in
    ap Ok (c.drives.ensures ∙ ap (λ (z : ℤ). drives c.in-Ok.m z c.args.cal) ms)
    ∙ played_drives _ _ c.in-Ok.ensures c.args.elapsed c.args.cal (sym c.if-not-is_calibration.ensures) (rw back at (sym c.if-not-is_elapsed.ensures))
