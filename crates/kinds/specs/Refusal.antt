-- The number of each refusal, and the outcome of an answer (rule R32). Assumes nothing.
use Rattle.std.specs.Prelude.{ℕ, Result, Ok, Err}
use Rattle.kinds.specs.Outcome.{
  done,
  not_known,
  bad_state,
  short_output,
  bad_message,
  not_addressed,
  stale,
  contradicting,
  wrong_role,
  no_term_left,
  bad_command,
  log_full,
  out_of_range,
  nothing_new,
  not_playable,
  bad_calibration,
  bad_elapsed,
}
use Rattle.kinds.specs.declared.Refusal.{Refusal}
use Rattle.kinds.specs.declared.Refusal.TheVariants.{
  NotKnown,
  BadState,
  ShortOutput,
  BadMessage,
  NotAddressed,
  Stale,
  Contradicting,
  WrongRole,
  NoTermLeft,
  BadCommand,
  LogFull,
  OutOfRange,
  NothingNew,
  NotPlayable,
  BadCalibration,
  BadElapsed,
}

abbrev pub number_of : Refusal → ℕ
number_of NotKnown = not_known
number_of BadState = bad_state
number_of ShortOutput = short_output
number_of BadMessage = bad_message
number_of NotAddressed = not_addressed
number_of Stale = stale
number_of Contradicting = contradicting
number_of WrongRole = wrong_role
number_of NoTermLeft = no_term_left
number_of BadCommand = bad_command
number_of LogFull = log_full
number_of OutOfRange = out_of_range
number_of NothingNew = nothing_new
number_of NotPlayable = not_playable
number_of BadCalibration = bad_calibration
number_of BadElapsed = bad_elapsed

-- Done, or refused.
abbrev pub outcome_of : {A : Type 0} → Result A Refusal → ℕ
outcome_of (Ok _) = done
outcome_of (Err r) = number_of r
