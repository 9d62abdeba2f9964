-- Laws of what is held, and of no drive. Assumes nothing.
use mathlib.Core.Path.{◌≡◌}
use mathlib.Core.Bool.{true, false}
use lib.Ieee.{Float, lt, le}
use Rattle.play.specs.Play.{nought, one, held, drive_of}
use Rattle.play.specs.declared.Calibration.{Calibration}

-- ---- held within 0 and 1

module _ (x : Float) where
  pub held_low : le x nought ≡ true → nought ≡ held x
  unfolding held
  held_low h = rw h

  pub held_same : le x nought ≡ false → lt one x ≡ false → x ≡ held x
  unfolding held
  held_same g h = rw (g, h)

-- ---- the drive

pub drive_none : (cal : Calibration) (level : Float) → lt nought level ≡ false → nought ≡ drive_of cal level
unfolding drive_of
drive_none cal level h = rw h
