-- What a motor is driven at while it plays a command (rule R47): the time left, the level, the drive. Floats are IEEE 754's binary32. Each operation on
-- them is the library's own, which rounds once, to the nearest, a tie to the even one. Times are in ms. Assumes nothing.
use Rattle.std.specs.Prelude.{ℕ, ◌≤◌, Bool, false, cond, not, ◌&&◌, ◌≡◌, ℤ, pos, ◌-ℤ◌, Float}
use Rattle.std.specs.Int.Signed.{le_z}
use Rattle.std.specs.Float.{binary32}
use Rattle.std.specs.Float.Ieee.{add, sub, mul, div, lt, le, of_int, of_bits, to_bits}
use Rattle.std.specs.Float.Ieee.Exact.{HasValue}
use Rattle.command.specs.Command.{gain_most, is_gain, duration_most}
use Rattle.command.specs.declared.Case.{Case}
use Rattle.command.specs.declared.Case.TheVariants.{Stop, Buzz, Ramp}
use Rattle.play.specs.declared.Calibration.{Calibration}

-- ---- floats

-- The float of these bits; of a gain's, the gain.
abbrev pub gain : ℕ → Float
gain bits = of_bits binary32 bits

-- +0 and 1.0.
abbrev pub nought : Float
nought = gain 0

abbrev pub one : Float
one = gain gain_most

-- A whole number as a binary32,
abbrev pub whole : ℤ → Float
whole n = of_int binary32 n

-- and that a float is this very number: finite, not negative, and n / 1 in size.
abbrev pub IsNumber : Float → ℕ → Type 0
IsNumber x n = HasValue x false n 1

-- x + (y - x) * part, "each operation rounded once in that order".
abbrev pub between : Float → Float → Float → Float
between x y part = add binary32 x (mul binary32 (sub binary32 y x) part)

-- "Held within 0 and 1": +0 for what is not above 0, 1.0 for what is above 1.
unfoldable pub held : Float → Float
held x = cond (le x nought) nought (cond (lt one x) one x)

-- ---- the time left

-- "Time left is duration minus elapsed, and a result below zero means overdue by that much, not an error."
abbrev pub time_left : ℤ → ℤ → ℤ
time_left duration elapsed = duration -ℤ elapsed

-- ---- the level

-- "A buzz has its gain as level. A ramp has from + (to - from) * (elapsed / duration), ... then held within 0 and 1." A stop has none, +0.
unfoldable pub level_of : Case → ℤ → ℤ → Float
level_of Stop duration elapsed = nought
level_of (Buzz level) duration elapsed = level
level_of (Ramp from to) duration elapsed = held (between from to (div binary32 (whole elapsed) (whole duration)))

-- ---- the drive

-- "Where the level is above 0 the drive is floor + (ceiling - floor) * level, rounded likewise and held within 0 and 1; at level 0 it is +0."
unfoldable pub drive_of : Calibration → Float → Float
drive_of cal level = cond (lt nought level) (held (between cal.floor cal.ceiling level)) nought

-- "A stop, or elapsed at or past the duration, drives +0." (A stop's duration is 0.)
unfoldable pub drive_at : Calibration → Case → ℤ → ℤ → Float
drive_at cal case duration elapsed = cond (le_z duration elapsed) nought (drive_of cal (level_of case duration elapsed))

-- ---- what is refused, and what is not

-- A time of so many ms, up to a limit.
pub record Lasts (limit : ℕ) (time : ℤ) : Type 0 where
  pub ms : ℕ
  pub is : time ≡ pos ms
  pub most : ms ≤ limit

-- So is the duration of a legal command.
abbrev pub Timed : ℤ → Type 0
Timed duration = Lasts duration_most duration

-- Two gains, the floor not above the ceiling.
unfoldable pub is_calibration : Calibration → Bool
is_calibration cal =
    is_gain (to_bits binary32 cal.floor) && (is_gain (to_bits binary32 cal.ceiling) && not (lt cal.ceiling cal.floor))

-- The greatest elapsed time.
abbrev pub elapsed_most : ℕ
elapsed_most = 2_147_483_647

-- 0 to 2,147,483,647 ms.
unfoldable pub is_elapsed : ℤ → Bool
is_elapsed elapsed = le_z (pos 0) elapsed && le_z elapsed (pos elapsed_most)
