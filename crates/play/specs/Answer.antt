-- What playing answers (rule R47): the answer, for each of its cases the outcome and what it gives, and the promise to C. Assumes nothing.
use Rattle.std.specs.Prelude.{ℕ, cond, not, List, Result, Ok, Err, ◌≡◌, ℤ, pos}
use Rattle.std.specs.Float.{binary32}
use Rattle.std.specs.Float.Ieee.{to_bits}
use Rattle.kinds.specs.Outcome.{done}
use Rattle.kinds.specs.Refusal.{number_of}
use Rattle.kinds.specs.declared.Refusal.{Refusal}
use Rattle.kinds.specs.declared.Refusal.TheVariants.{NotPlayable, BadCalibration, BadElapsed}
use Rattle.command.specs.Command.{command_of}
use Rattle.command.specs.Case.{motion_of}
use Rattle.command.specs.Answers.{is_command}
use Rattle.command.specs.declared.Motion.{Motion}
use Rattle.play.specs.Play.{gain, nought, time_left, drive_at, is_calibration, is_elapsed}
use Rattle.play.specs.declared.Calibration.{Calibration}
use Rattle.play.specs.declared.Drives.{Drives}

-- ---- the answer

-- The time left and the drive of a motion.
unfoldable pub drives : Motion → ℤ → Calibration → Drives
drives m elapsed cal = record { left = time_left m.duration elapsed; drive = drive_at cal m.case m.duration elapsed }

-- A motion played: a bad calibration is refused first, then an elapsed time out of range.
unfoldable pub motion_played : Motion → ℤ → Calibration → Result Drives Refusal
motion_played m elapsed cal =
    cond (not (is_calibration cal)) (Err BadCalibration)
    (cond (not (is_elapsed elapsed)) (Err BadElapsed)
    (Ok (drives m elapsed cal)))

-- Bytes played: those of no legal command are refused before.
unfoldable pub played : List ℕ → ℤ → Calibration → Result Drives Refusal
played l elapsed cal = cond (not (is_command l)) (Err NotPlayable) (motion_played (motion_of (command_of l)) elapsed cal)

-- ---- its numbers

-- The outcome, the time left, and the drive by its bits.
pub record PlayResult : Type 0 where
  pub outcome : ℕ
  pub left : ℤ
  pub drive : ℕ

-- A refusal "gives time left 0 and drive +0".
abbrev pub refused_with : ℕ → PlayResult
refused_with outcome = record { outcome = outcome; left = pos 0; drive = to_bits binary32 nought }

-- The outcome of an answer, and what it gives.
abbrev pub result_of : Result Drives Refusal → PlayResult
result_of (Ok d) = record { outcome = done; left = d.left; drive = to_bits binary32 d.drive }
result_of (Err r) = refused_with (number_of r)

-- The calibration of two gains' bits, whatever bits they are.
abbrev pub calibration_of : ℕ → ℕ → Calibration
calibration_of floor ceiling = record { floor = gain floor; ceiling = gain ceiling }

-- ---- the promise

-- An outcome, and what is left in the two lent numbers, are as they have to be.
pub record IsPlayed (w : PlayResult) (outcome : ℕ) (left : ℤ) (drive : ℕ) : Type 0 where
  pub outcome_is : outcome ≡ w.outcome
  pub left_is : left ≡ w.left
  pub drive_is : drive ≡ w.drive
