-- What holds of every time left and every drive (rule R47): the statements. Their proofs stand in proofs/Theorems. Assumes nothing.
use Rattle.std.specs.Prelude.{ℕ, ◌≤◌, ◌<◌, true, false, List, Ok, ◌≡◌, ℤ, pos, Float}
use Rattle.std.specs.Int.Signed.{le_z}
use Rattle.std.specs.Float.{binary32}
use Rattle.std.specs.Float.Ieee.{div, lt, le}
use Rattle.command.specs.Command.{is_gain, duration_most, command_of}
use Rattle.command.specs.Case.{motion_of}
use Rattle.command.specs.Answers.{is_command}
use Rattle.command.specs.declared.Case.TheVariants.{Ramp}
use Rattle.play.specs.Play.{gain, nought, whole, IsNumber, between, time_left, level_of, drive_of, is_calibration, is_elapsed}
use Rattle.play.specs.Answer.{played, result_of, calibration_of}
use Rattle.play.specs.declared.Calibration.{Calibration}

-- ---- whole numbers

-- "Whole numbers up to 600,000 become binary32 exactly."
abbrev pub WholeIsExact : Type 0
WholeIsExact = (n : ℕ) → n ≤ duration_most → IsNumber (whole (pos n)) n

-- ---- a ramp's level

-- A ramp between two gains, given by their bits, at a time before its end.
pub record OnRamp (from to duration elapsed : ℕ) : Type 0 where
  pub from_in : is_gain from ≡ true
  pub to_in : is_gain to ≡ true
  pub during : elapsed < duration
  pub most : duration ≤ duration_most

abbrev pub ramp_level : ℕ → ℕ → ℕ → ℕ → Float
ramp_level from to duration elapsed = level_of (Ramp (gain from) (gain to)) (pos duration) (pos elapsed)

-- A ramp falls, or it does not.
abbrev pub Falls : ℕ → ℕ → Type 0
Falls from to = lt (gain to) (gain from) ≡ true

abbrev pub FallsNot : ℕ → ℕ → Type 0
FallsNot from to = lt (gain to) (gain from) ≡ false

-- x ≤ y ≤ z.
abbrev pub Within : Float → Float → Float → Type 0
Within x y z = (le x y ≡ true) × (le y z ≡ true)

-- Holding within 0 and 1 never acts on the level.
abbrev pub LevelIsUnheld : Type 0
LevelIsUnheld =
    (from to duration elapsed : ℕ) → OnRamp from to duration elapsed
    → ramp_level from to duration elapsed ≡ between (gain from) (gain to) (div binary32 (whole (pos elapsed)) (whole (pos duration)))

-- It begins at from,
abbrev pub LevelBegins : Type 0
LevelBegins =
    (from to duration : ℕ) → OnRamp from to duration 0
    → Within (gain from) (ramp_level from to duration 0) (gain from)

-- lies between from and to, whichever is the lower,
abbrev pub LevelRisesWithin : Type 0
LevelRisesWithin =
    (from to duration elapsed : ℕ) → OnRamp from to duration elapsed → FallsNot from to
    → Within (gain from) (ramp_level from to duration elapsed) (gain to)

abbrev pub LevelFallsWithin : Type 0
LevelFallsWithin =
    (from to duration elapsed : ℕ) → OnRamp from to duration elapsed → Falls from to
    → Within (gain to) (ramp_level from to duration elapsed) (gain from)

-- and does not turn back as time goes on.
abbrev pub LevelRises : Type 0
LevelRises =
    (from to duration elapsed later : ℕ) → OnRamp from to duration elapsed → OnRamp from to duration later → elapsed ≤ later → FallsNot from to
    → le (ramp_level from to duration elapsed) (ramp_level from to duration later) ≡ true

abbrev pub LevelFalls : Type 0
LevelFalls =
    (from to duration elapsed later : ℕ) → OnRamp from to duration elapsed → OnRamp from to duration later → elapsed ≤ later → Falls from to
    → le (ramp_level from to duration later) (ramp_level from to duration elapsed) ≡ true

-- ---- the drive of a level

-- A calibration that is not refused and a level, given by their bits.
pub record OnMotor (floor ceiling level : ℕ) : Type 0 where
  pub calibrated : is_calibration (calibration_of floor ceiling) ≡ true
  pub level_in : is_gain level ≡ true

abbrev pub motor_drive : ℕ → ℕ → ℕ → Float
motor_drive floor ceiling level = drive_of (calibration_of floor ceiling) (gain level)

-- Where the level is above 0, holding within 0 and 1 never acts on the drive,
abbrev pub DriveIsUnheld : Type 0
DriveIsUnheld =
    (floor ceiling level : ℕ) → OnMotor floor ceiling level → lt nought (gain level) ≡ true
    → motor_drive floor ceiling level ≡ between (gain floor) (gain ceiling) (gain level)

-- and it is not below the floor. (Above the ceiling it may be, by a rounding: see the vectors.)
abbrev pub DriveIsNotBelowFloor : Type 0
DriveIsNotBelowFloor =
    (floor ceiling level : ℕ) → OnMotor floor ceiling level → lt nought (gain level) ≡ true
    → le (gain floor) (motor_drive floor ceiling level) ≡ true

-- A higher level does not drive less.
abbrev pub DriveFollowsLevel : Type 0
DriveFollowsLevel =
    (floor ceiling level higher : ℕ) → OnMotor floor ceiling level → OnMotor floor ceiling higher → le (gain level) (gain higher) ≡ true
    → le (motor_drive floor ceiling level) (motor_drive floor ceiling higher) ≡ true

-- ---- every call

-- Whatever bytes, elapsed time and calibration come, the drive that is told is a legal gain: never a NaN, never -0, never above 1.0.
abbrev pub DriveIsGain : Type 0
DriveIsGain = (l : List ℕ) (elapsed : ℤ) (floor ceiling : ℕ) → is_gain (result_of (played l elapsed (calibration_of floor ceiling))).drive ≡ true

-- What is not refused and is at its end or past it drives +0; its time left, 0 or below, says how long it is overdue.
abbrev pub OverdueIsNoError : Type 0
OverdueIsNoError =
    (l : List ℕ) (elapsed : ℤ) (cal : Calibration) → is_command l ≡ true → is_calibration cal ≡ true → is_elapsed elapsed ≡ true
    → le_z (motion_of (command_of l)).duration elapsed ≡ true
    → played l elapsed cal ≡ Ok (record { left = time_left (motion_of (command_of l)).duration elapsed; drive = nought })
