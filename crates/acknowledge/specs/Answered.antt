-- What is promised of a rule that always acts and answers. Assumes nothing.
use Rattle.std.specs.Prelude.{ℕ, ◌≡◌, true, List, length}
use Rattle.rules.specs.Receive.{Effect}
use Rattle.rules.specs.Step.{over, written}
use Rattle.promise.specs.Promise.{is_effect, ruled_by, said_by}

-- It acts; how many bytes of message it wrote, and what it leaves.
pub record Answered (e : Effect) (l out : List ℕ) (r : ℕ) (l' out' : List ℕ) : Type 0 where
  pub acts : is_effect e ≡ true
  pub returned : r ≡ length (written (said_by e))
  pub state_left : l' ≡ ruled_by l e
  pub output_left : out' ≡ over (written (said_by e)) out
