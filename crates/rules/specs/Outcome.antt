-- What an event comes to. Assumes nothing.
use Rattle.std.specs.Prelude.{ℕ}
use Rattle.std.proofs.Math.Option.{Option, none}
use Rattle.message.specs.Message.{Message}
use Rattle.state.specs.State.{State}
pub use Rattle.kinds.specs.Outcome.{
  done,
  not_known,
  bad_state,
  short_output,
  bad_message,
  not_addressed,
  stale,
  contradicting,
  wrong_role,
  no_term_left,
  bad_command,
  log_full,
  out_of_range,
  nothing_new,
}

-- An outcome, the next state, and at most one message.
pub record Next : Type 0 where
  pub outcome : ℕ
  pub state : State
  pub message : Option Message

-- The event takes effect.
abbrev pub goes : State → Option Message → Next
goes s m = record { outcome = done; state = s; message = m }

-- A refusal leaves the state and writes nothing.
abbrev pub refuses : State → ℕ → Next
refuses s k = record { outcome = k; state = s; message = none }
