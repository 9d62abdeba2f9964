-- What an append makes of a hub of its term, apart from the message that it writes. Assumes nothing.
use Rattle.std.specs.Prelude.{ℕ, ◌+◌, ◌≡◌, true, cond, List, length}
use Rattle.kinds.specs.Sizes.{Who}
use Rattle.command.specs.Entry.{Entry}
use Rattle.message.specs.Message.{append}
use Rattle.message.specs.Legal.{legal_body}
use Rattle.state.specs.declared.Head.{Head}
use Rattle.state.specs.State.{follower, State}
use Rattle.state.specs.Image.{state_in}
use Rattle.rules.specs.Receive.{fits, taken}
use Rattle.promise.specs.Append.{Tested}

-- A follower, whether the append fits or not; only if it fits its entries are taken.
unfoldable pub taken_by : State → ℕ → ℕ → ℕ → List Entry → State
taken_by s prev prevterm chosen entries =
    let k = s.kept in
    record { kept = cond (fits k prev prevterm (prev + length entries)) (taken k prev chosen entries) k; lost = follower }

-- What is left where a hub becomes a follower of its own term, its lost parts cleared: bytes that are ready, and their head.
pub record Followed (w : Who) (l : List ℕ) (h : Head) (l' : List ℕ) : Type 0 where
  pub tested : Tested w h l'
  pub state_is : state_in l' ≡ record { kept = (state_in l).kept; lost = follower }

-- What holds where a follower with this head hears an append: it is legal at the hub's term.
pub record HearsTaking (w : Who) (h : Head) (l : List ℕ) (prev prevterm chosen : ℕ) (entries : List Entry) : Type 0 where
  pub tested : Tested w h l
  pub follows : (state_in l).lost ≡ follower
  pub legal : legal_body (state_in l).kept.term (append prev prevterm chosen entries) ≡ true
