-- The tests that stand before every event, in the order of rule R32. Assumes nothing.
use Rattle.std.specs.Prelude.{ℕ, Bool, cond, ◌&&◌, List, Result, Ok, Err, ltb, length}
use Rattle.kinds.specs.Sizes.{Who, is_size, is_hub, text_room}
use Rattle.kinds.specs.Event.{event_with}
use Rattle.kinds.specs.declared.Event.{Event}
use Rattle.kinds.specs.declared.Event.TheVariants.{Start, Propose, Send, Restart, Receive}
use Rattle.kinds.specs.declared.Refusal.{Refusal}
use Rattle.kinds.specs.declared.Refusal.TheVariants.{NotKnown, BadState, ShortOutput}
use Rattle.state.specs.Image.{read_state, read_kept}
use Rattle.state.specs.Check.{is_some}

-- N is 3, 5 or 7, and the own number in 1..N.
unfoldable pub is_in : Who → Bool
is_in w = is_size w.size && is_hub w.size w.own

-- The state that the event needs is legal: restart needs the kept parts alone.
unfoldable pub is_fit : Who → Event → List ℕ → Bool
is_fit w Start l = is_some (read_state w l)
is_fit w Propose l = is_some (read_state w l)
is_fit w Send l = is_some (read_state w l)
is_fit w Restart l = is_some (read_kept l)
is_fit w Receive l = is_some (read_state w l)

-- An event that is known, or its refusal.
unfoldable pub let_in : Who → List ℕ → List ℕ → Result Event Refusal → Result Event Refusal
let_in w l out (Err r) = Err r
let_in w l out (Ok e) = cond (is_fit w e l) (cond (ltb (length out) text_room) (Err ShortOutput) (Ok e)) (Err BadState)

-- The event of a number, or the refusal.
unfoldable pub gate : Who → ℕ → List ℕ → List ℕ → Result Event Refusal
gate w n l out = cond (is_in w) (let_in w l out (event_with n)) (Err NotKnown)
