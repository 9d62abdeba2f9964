-- What holds of all states and messages of a household by themselves, and all facts together, as any engine has them. Assumes nothing.
use Rattle.std.specs.Prelude.{ℕ, ◌≤◌, ◌≡◌, true, List}
use Rattle.kinds.specs.Sizes.{Group, hub_of}
use Rattle.message.specs.Message.{Message, Body, vote_request, vote_yes, vote_no, append, append_yes, append_no}
use Rattle.message.specs.Legal.{legal_message}
use Rattle.state.specs.State.{State}
use Rattle.state.specs.Legal.{legal_state}
use Rattle.rules.specs.Events.{is_candidate, len}
use Rattle.paxos.specs.Paxos.{◌∈◌}
use Rattle.engine.specs.Facts.{Facts}
use Rattle.home.specs.View.{machine}
use Rattle.home.specs.Hub.{hub_rules}
use Rattle.home.specs.Stands.{Logs, Ground, True, Rooted}

-- ---- states and messages by themselves

-- A hub of the state s asked for votes at the term t, naming last and a ballot not below this one.
pub record Stood (s : State) (t last ballot : ℕ) : Type 0 where
  -- It has reached that term.
  pub up : t ≤ s.kept.term
  -- As long as it stands for it, last is its length and the ballot not above its own.
  pub still : t ≡ s.kept.term → is_candidate s ≡ true → (last ≡ len s) × (ballot ≤ s.kept.ballot)

-- What a vote-request, and the yes to one, tell of the hub that asked is so.
abbrev pub Echoes : (ℕ → State) → ℕ → ℕ → ℕ → Body → Type 0
Echoes states t from to (vote_request last ballot) = Stood (states from) t last ballot
Echoes states t from to (vote_yes last ballot entries) = Stood (states to) t last ballot
Echoes states t from to vote_no = Unit {0}
Echoes states t from to (append prev prevterm chosen entries) = Unit {0}
Echoes states t from to (append_yes end) = Unit {0}
Echoes states t from to (append_no n) = Unit {0}

-- All states and messages are as they have to be.
pub record Proper (G : Group) (states : ℕ → State) (sent : List Message) : Type 0 where
  pub legal : (h : ℕ) → legal_state (hub_of G h) (states h) ≡ true
  pub well : (m : Message) → m ∈ sent → legal_message m ≡ true
  pub echoes : (m : Message) → m ∈ sent → Echoes states m.term m.from m.to m.body

-- ---- the facts

-- What the argument rests on, for any household of the group.
abbrev pub hub_facts : (G : Group) → Facts hub_rules (machine G)
hub_facts G =
    record { Ghost = Logs; Ground = Ground G; faithful = λ H made x. x.faithful; Rooted = Rooted G; True = True G; Among = Proper G }
