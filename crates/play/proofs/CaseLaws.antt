-- Laws of a ramp's level, and of what is refused of a motion that is played (docs/landings/W-205.md names them). Assumes nothing.
use Prim.Native.Nat.{ℕ}
use mathlib.Core.Path.{◌≡◌, sym, ◌∙◌, ap}
use mathlib.Core.Bool.{true, false}
use lib.IntN.{ℤ, pos}
use lib.Ieee.{Float, binary32, div}
use Rattle.std.specs.Prelude.{Err}
use Rattle.kinds.specs.declared.Refusal.TheVariants.{BadCalibration, BadElapsed}
use Rattle.command.specs.declared.Case.{Case}
use Rattle.command.specs.declared.Case.TheVariants.{Ramp}
use Rattle.command.specs.declared.Motion.{Motion}
use Rattle.play.specs.Play.{whole, between, held, level_of, is_calibration, is_elapsed}
use Rattle.play.specs.Answer.{motion_played}
use Rattle.play.specs.declared.Calibration.{Calibration}

-- A ramp's level, by what the two times and the moving come to.
pub level_ramp
    : (case : Case) (duration elapsed : ℕ) (from to past whole-time level : Float)
    → case ≡ Ramp from to
    → past ≡ whole (pos elapsed)
    → whole-time ≡ whole (pos duration)
    → level ≡ held (between from to (div binary32 past whole-time))
    → level ≡ level_of case (pos duration) (pos elapsed)
unfolding level_of
level_ramp case duration elapsed from to past whole-time level e f g h =
    h ∙ (λ i. held (between from to (div binary32 (f i) (g i)))) ∙ sym (ap (λ k. level_of k (pos duration) (pos elapsed)) e)

module _ (m : Motion) (elapsed : ℤ) (cal : Calibration) where
  pub motion_bad_calibration : is_calibration cal ≡ false → Err BadCalibration ≡ motion_played m elapsed cal
  unfolding motion_played
  motion_bad_calibration h = rw h

  pub motion_bad_elapsed : is_calibration cal ≡ true → is_elapsed elapsed ≡ false → Err BadElapsed ≡ motion_played m elapsed cal
  unfolding motion_played
  motion_bad_elapsed g h = rw (g, h)
