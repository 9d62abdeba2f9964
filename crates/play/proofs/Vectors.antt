-- The tables, computed. Assumes nothing.
use native.Mathlib.Omega.{arith}
use mathlib.Core.Path.{refl}
use lib.Ieee.{add, sub, mul, div, lt, le, of_int, of_bits, to_bits}
use Rattle.kinds.specs.Sizes.{between}
use Rattle.command.specs.Words.{word, value, part, word_at, signed, unsigned}
use Rattle.command.specs.Command.{is_gain, is_duration, is_zero, is_stop, is_buzz, is_ramp, legal_command, command_bytes, command_of}
use Rattle.command.specs.Case.{case_of, motion_of}
use Rattle.command.specs.Answers.{is_command}
use Rattle.play.specs.Play.{held, level_of, drive_of, drive_at, is_calibration, is_elapsed}
use Rattle.play.specs.Answer.{drives, motion_played, played}
use Rattle.play.specs.Vectors.{VectorsHold}

pub vectors_hold : VectorsHold
unfolding add sub mul div lt le of_int of_bits to_bits between word value part word_at signed unsigned
    is_gain is_duration is_zero is_stop is_buzz is_ramp legal_command command_bytes command_of case_of motion_of is_command
    held level_of drive_of drive_at is_calibration is_elapsed drives motion_played played
vectors_hold =
    record {
      calls = refl;
      conversions = refl;
      on_ramp = record { from_in = refl; to_in = refl; during = omega arith; most = omega arith };
      on_motor = record { calibrated = refl; level_in = refl };
    }
