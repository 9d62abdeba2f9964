-- The same run on values: what happens to states and messages, turn by turn. Assumes nothing.
use Prim.Native.Nat.{ℕ}
use mathlib.Core.Path.{◌≡◌}
use mathlib.Core.List.{List, [], ◌∷◌}
use mathlib.Core.Option.{Option, none, some}
use Rattle.kinds.specs.Sizes.{Group, hub_of}
use Rattle.message.specs.Message.{Message}
use Rattle.state.specs.State.{State}
use Rattle.rules.specs.Outcome.{goes}
use Rattle.rules.specs.Happens.{Occasion, to_start, to_propose, to_send, happens, received}
use Rattle.paxos.specs.Put.{put}
use Rattle.reaches.specs.Run.{Act, starts, proposes, sends_to, hears, Turn}

-- Each hub's state, and the message that waits on each line, if there is one.
pub record Stage : Type 0 where
  pub states : ℕ → State
  pub lines : ℕ → Option Message

-- Nothing waits yet.
abbrev pub opening : (ℕ → State) → Stage
opening S = record { states = S; lines = λ l. none }

-- The event that a hub is called for; none where nothing waits.
unfoldable pub meant : Stage → Act → Option Occasion
meant W starts = some to_start
meant W (proposes bytes) = some (to_propose bytes)
meant W (sends_to peer) = some (to_send peer 0)
meant W (hears line) = received (W.lines line)

-- Hub h has another state, and line l another message or none.
unfoldable pub changed : Stage → ℕ → ℕ → State → Option Message → Stage
changed W h l s m = record { states = put W.states h s; lines = put W.lines l m }

-- A turn takes effect: to this state, with this message.
pub record Takes (G : Group) (W : Stage) (t : Turn) (s : State) (m : Option Message) : Type 0 where
  pub occasion : Occasion
  pub means : meant W t.act ≡ some occasion
  pub comes : happens (hub_of G t.hub) (W.states t.hub) occasion ≡ goes s m

-- The turns take effect one after the other; `Before` holds before each of them, `After` after the last.
pub data Goes (G : Group) (Before After : Stage → Type 0) : Stage → List Turn → Type 0 where
  ends : {W : Stage} → After W → Goes G Before After W []
  next :
      {W : Stage} {t : Turn} {ts : List Turn} {s : State} {m : Option Message} → Before W → Takes G W t s m
      → Goes G Before After (changed W t.hub t.onto s m) ts → Goes G Before After W (t ∷ ts)
