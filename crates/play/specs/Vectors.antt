-- Commands played, by examples (rule R47): a table of calls, and what each answers. With a floor of 0 and a ceiling of 1.0 the drive is the level. And
-- a table of whole numbers. Assumes nothing.
use Rattle.std.specs.Prelude.{ℕ, List, [], ◌∷◌, ◌++◌, map, ◌≡◌, ℤ, pos, negsuc}
use Rattle.std.specs.Float.{binary32}
use Rattle.std.specs.Float.Ieee.{to_bits}
use Rattle.kinds.specs.Outcome.{done, not_playable, bad_calibration, bad_elapsed}
use Rattle.command.specs.Command.{Command, command_bytes}
use Rattle.play.specs.Play.{whole}
use Rattle.play.specs.Answer.{PlayResult, result_of, played, calibration_of, refused_with}
use Rattle.play.specs.Theorems.{OnRamp, OnMotor}

-- A call, and what it answers.
pub record Vector : Type 0 where
  pub command : Command
  pub elapsed : ℤ
  pub floor : ℕ
  pub ceiling : ℕ
  pub answers : PlayResult

-- ---- commands of motor 3

abbrev stop : Command
stop = record { motor = 3; kind = 0; duration = pos 0; a = 0; b = 0 }

abbrev buzz : ℕ → ℕ → Command
buzz duration gain = record { motor = 3; kind = 1; duration = pos duration; a = gain; b = 0 }

abbrev ramp : ℕ → ℕ → ℕ → Command
ramp from to duration = record { motor = 3; kind = 2; duration = pos duration; a = from; b = to }

-- No motor has this number.
abbrev nobodys : Command
nobodys = record { motor = 65; kind = 0; duration = pos 0; a = 0; b = 0 }

-- ---- gains by their bits

abbrev full : ℕ
full = 0x3f80_0000

abbrev half : ℕ
half = 0x3f00_0000

abbrev minus_nought : ℕ
minus_nought = 0x8000_0000

abbrev infinity : ℕ
infinity = 0x7f80_0000

abbrev not_a_number : ℕ
not_a_number = 0x7fc0_0000

-- ---- answers

-- This time left, and this drive.
abbrev gives : ℤ → ℕ → PlayResult
gives left drive = record { outcome = done; left = left; drive = drive }

-- A call at a calibration from 0 to 1.0, at which the drive is the level.
abbrev at_full : Command → ℕ → ℤ → ℕ → Vector
at_full c elapsed left level = record { command = c; elapsed = pos elapsed; floor = 0; ceiling = full; answers = gives left level }

-- A call at any calibration.
abbrev calibrated : ℕ → ℕ → Command → ℤ → PlayResult → Vector
calibrated floor ceiling c elapsed answers = record { command = c; elapsed = elapsed; floor = floor; ceiling = ceiling; answers = answers }

-- ---- levels

-- "A ramp 0.0 to 1.0 of 1,000 ms has level 0.25 at 250." Then three ramps at which other ways to work it out come to other bits: with a fused
-- multiply-add 3d6c7449, 3dc962ff, 3d522c4a; with the product before the quotient 3d6c7450, 3dc96300, 3d522c4c; by the reciprocal of the duration
-- 3d6c7450, 3dc962ff, 3d522c44; in double precision 3d6c744b, 3dc962ff, 3d522c4a. Then half of the least float, a tie, and a little more of it; the
-- shortest buzz; and the last ms of the longest ramp downwards, in double precision 35dfb23b.
abbrev levels : List Vector
levels =
    at_full (ramp 0 full 1_000) 250 (pos 750) 0x3e80_0000
    ∷ at_full (ramp full 0x3c87_6a25 1_862) 1_784 (pos 78) 0x3d6c_7450
    ∷ at_full (ramp 0x3da1_f259 0x3e80_0000 167_358) 18_856 (pos 148_502) 0x3dc9_62ff
    ∷ at_full (ramp 0x3e7e_aea0 0x0c93_cfa0 124_803) 99_055 (pos 25_748) 0x3d52_2c48
    ∷ at_full (ramp 0 1 600_000) 300_000 (pos 300_000) 0
    ∷ at_full (ramp 0 1 600_000) 300_001 (pos 299_999) 1
    ∷ at_full (buzz 1 half) 0 (pos 1) half
    ∷ at_full (ramp full 0 600_000) 599_999 (pos 1) 0x35e0_0000
    ∷ []

-- ---- the end

-- The last ms, the end, and past it; a stop at the greatest elapsed time.
abbrev ends : List Vector
ends =
    at_full (buzz 250 half) 249 (pos 1) half
    ∷ at_full (buzz 250 half) 250 (pos 0) 0
    ∷ at_full (buzz 250 half) 251 (negsuc 0) 0
    ∷ at_full stop 2_147_483_647 (negsuc 2_147_483_646) 0
    ∷ []

-- ---- drives

-- At level 0 there is no floor. Floor and ceiling the same. A rounding lifts the drive above its ceiling. Half between half and 1.0.
abbrev driven : List Vector
driven =
    calibrated half full (buzz 250 0) (pos 0) (gives (pos 250) 0)
    ∷ calibrated half full (ramp 0 full 1_000) (pos 0) (gives (pos 1_000) 0)
    ∷ calibrated half half (ramp 0 full 1_000) (pos 250) (gives (pos 750) half)
    ∷ calibrated 0x3eaa_aaab 0x3f7f_ffff (buzz 250 full) (pos 0) (gives (pos 250) full)
    ∷ calibrated half full (buzz 250 half) (pos 0) (gives (pos 250) 0x3f40_0000)
    ∷ []

-- ---- refusals

-- Three that are wrong in all three ways, in two, and in one; then each way of a calibration and of an elapsed time.
abbrev refusals : List Vector
refusals =
    calibrated 0 not_a_number nobodys (negsuc 0) (refused_with not_playable)
    ∷ calibrated 0 not_a_number stop (negsuc 0) (refused_with bad_calibration)
    ∷ calibrated 0 full stop (negsuc 0) (refused_with bad_elapsed)
    ∷ calibrated minus_nought full stop (pos 0) (refused_with bad_calibration)
    ∷ calibrated 0 0x3f80_0001 stop (pos 0) (refused_with bad_calibration)
    ∷ calibrated 0 infinity stop (pos 0) (refused_with bad_calibration)
    ∷ calibrated full half stop (pos 0) (refused_with bad_calibration)
    ∷ calibrated 0 full stop (pos 2_147_483_648) (refused_with bad_elapsed)
    ∷ []

-- What a call comes to.
abbrev pub comes_to : Vector → PlayResult
comes_to v = result_of (played (command_bytes v.command) v.elapsed (calibration_of v.floor v.ceiling))

-- The table.
abbrev pub vectors : List Vector
vectors = levels ++ (ends ++ (driven ++ refusals))

-- ---- whole numbers

-- A number, and its bits as a binary32.
pub record Whole : Type 0 where
  pub number : ℕ
  pub bits : ℕ

abbrev is : ℕ → ℕ → Whole
is number bits = record { number = number; bits = bits }

-- The least, both sides of a power of two, and the greatest.
abbrev pub wholes : List Whole
wholes =
    is 0 0
    ∷ is 1 0x3f80_0000
    ∷ is 3 0x4040_0000
    ∷ is 524_287 0x48ff_ffe0
    ∷ is 524_288 0x4900_0000
    ∷ is 599_999 0x4912_7bf0
    ∷ is 600_000 0x4912_7c00
    ∷ []

-- ---- what the tables say

-- Each call comes to what its row answers, each number to its bits; and the theorems are about something: half-way up a ramp, and a motor that is driven.
pub record VectorsHold : Type 0 where
  pub calls : map comes_to vectors ≡ map (λ v. v.answers) vectors
  pub conversions : map (λ w. to_bits binary32 (whole (pos w.number))) wholes ≡ map (λ w. w.bits) wholes
  pub on_ramp : OnRamp 0 full 1_000 500
  pub on_motor : OnMotor half full half
