-- What holds where a message is handed on to be obeyed, and what its rule returns and leaves. Assumes nothing.
use Rattle.std.specs.Prelude.{ℕ, ◌≤◌, ◌≡◌, false, List, length, Option, Some, None}
use Rattle.kinds.specs.Sizes.{Who, text_room}
use Rattle.state.specs.Image.{state_in}
use Rattle.rules.specs.Receive.{Effect, idle, effect, is_misaddressed, contradicts}
use Rattle.rules.specs.Step.{over, written}
use Rattle.promise.specs.Promise.{Ready, ruled_by, said_by}
use Rattle.refuse.specs.Received.{body_in, message_heard}
use Rattle.obey.specs.declared.heard.Heard.{Heard}

-- ---- what holds

-- A ready state, and an output's room.
pub record Receives (w : Who) (l out : List ℕ) : Type 0 where
  pub ready : Ready w l
  pub room : text_room ≤ length out

-- The message is for this hub, has the hub's term and does not contradict.
pub record Obeys (w : Who) (l : List ℕ) (m : Heard) (out : List ℕ) : Type 0 where
  pub receives : Receives w l out
  pub addressed : is_misaddressed w (message_heard m.fields m.lines.now) ≡ false
  pub own_term : m.fields.term.0 ≡ (state_in l).kept.term
  pub agrees : contradicts (state_in l) (body_in m.fields.body m.lines.now) ≡ false

-- ---- what is promised

-- What the code says of a rule: nothing where it did nothing; where it made a next state, how many bytes of message it wrote.
unfoldable pub did_by : Effect → Option ℕ
did_by idle = None
did_by (effect next message) = Some (length (written message))

-- What a rule returns and leaves.
pub record Obeyed (e : Effect) (l out : List ℕ) (r : Option ℕ) (l' out' : List ℕ) : Type 0 where
  pub returned : r ≡ did_by e
  pub state_left : l' ≡ ruled_by l e
  pub output_left : out' ≡ over (written (said_by e)) out
