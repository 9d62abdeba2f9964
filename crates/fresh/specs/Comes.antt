-- What a message comes to: its outcome and the bytes written apart. And what holds where one is handed on that is not stale. Assumes nothing.
use Rattle.std.specs.Prelude.{ℕ, ◌≡◌, false, List, length, Result, Ok, Err}
use Rattle.kinds.specs.Sizes.{Who}
use Rattle.kinds.specs.Refusal.{outcome_of}
use Rattle.kinds.specs.declared.Refusal.{Refusal}
use Rattle.state.specs.declared.Head.{Head}
use Rattle.state.specs.Head.{head_in}
use Rattle.state.specs.Image.{state_in}
use Rattle.rules.specs.Outcome.{Next}
use Rattle.rules.specs.Receive.{is_misaddressed, is_stale}
use Rattle.rules.specs.Step.{over, written}
use Rattle.promise.specs.Promise.{left_by}
use Rattle.refuse.specs.Received.{message_heard}
use Rattle.obey.specs.declared.heard.Heard.{Heard}
use Rattle.obey.specs.Obeyed.{Receives}

-- How many bytes an answer says were written: none where the message is refused.
abbrev pub bytes_of : Result ℕ Refusal → ℕ
bytes_of (Ok n) = n
bytes_of (Err r) = 0

-- What the event of a message returns, its outcome and the bytes written apart, and what it leaves.
pub record Comes (n : Next) (l out : List ℕ) (r : Result ℕ Refusal) (l' out' : List ℕ) : Type 0 where
  pub outcome : outcome_of r ≡ n.outcome
  pub bytes : bytes_of r ≡ length (written n.message)
  pub state_left : l' ≡ left_by l n
  pub output_left : out' ≡ over (written n.message) out

-- The message is for this hub and not stale; h is the state's head.
pub record Addressed (w : Who) (h : Head) (l : List ℕ) (m : Heard) (out : List ℕ) : Type 0 where
  pub receives : Receives w l out
  pub head : h ≡ head_in l
  pub addressed : is_misaddressed w (message_heard m.fields m.lines.now) ≡ false
  pub fresh : is_stale (state_in l) (message_heard m.fields m.lines.now) ≡ false
