-- Request W-213 as it stands: the turns come phase by phase, the others in any order in each, and the ballot of the hub that asks is not below any of
-- theirs, whether they hold an entry or not. Assumes nothing.
use Rattle.std.specs.Prelude.{ℕ, ◌≤◌, ◌≡◌, ◌↔◌, List, ◌∷◌, ◌++◌, map, length}
use Rattle.std.proofs.Math.Option.{some}
use Rattle.kinds.specs.Sizes.{Group, text_room}
use Rattle.command.specs.Command.{Command}
use Rattle.command.specs.Proposal.{read_proposal}
use Rattle.state.specs.State.{State}
use Rattle.paxos.specs.Paxos.{◌∈◌}
use Rattle.home.specs.Hub.{HomeOfHubs}
use Rattle.reaches.specs.Run.{starts, proposes, sends_to, hears, Turn, quiet, deeds_of}
use Rattle.reaches.specs.Reaches.{Distinct, turn, Schedule, Ready, place_of, Arrives}

-- An order of the others: the same hubs, each once.
pub record Order (others : List ℕ) : Type 0 where
  pub hubs : List ℕ
  pub once : Distinct hubs
  pub as_many : length hubs ≡ length others
  pub same : (g : ℕ) → (g ∈ hubs) ↔ (g ∈ others)

-- One for each phase.
pub record Orders (others : List ℕ) : Type 0 where
  pub asked : Order others
  pub answering : Order others
  pub sent : Order others
  pub taking : Order others
  pub confirming : Order others

-- It starts; the others receive the request; it receives their answers; it proposes a command; it sends to each from prev 0, each
-- receives, and it receives each answer.
unfoldable pub phases : ℕ → {others : List ℕ} → Orders others → List ℕ → List Turn
phases c o bytes =
    turn c starts 0
    ∷ (map (λ g. turn g (hears 0) g) o.asked.hubs
    ++ (map (λ g. turn c (hears g) g) o.answering.hubs
    ++ (turn c (proposes bytes) 0
    ∷ (map (λ g. turn c (sends_to g) g) o.sent.hubs
    ++ (map (λ g. turn g (hears g) g) o.taking.hubs
    ++ map (λ g. turn c (hears g) g) o.confirming.hubs)))))

-- That is one of the ways to mix them.
abbrev pub PhasesMix : Type 0
PhasesMix = (c : ℕ) (others : List ℕ) (o : Orders others) (bytes : List ℕ) → Schedule c others bytes (phases c o bytes)

-- So it gets there.
abbrev pub GetsThereAsAsked : Type 0
GetsThereAsAsked =
    (G : Group) (H : HomeOfHubs) (c : ℕ) (others : List ℕ) (S : ℕ → State) → Ready G H c others S
    → ((g : ℕ) → g ∈ others → (S g).kept.ballot ≤ (S c).kept.ballot)
    → (bytes : List ℕ) (command : Command) → read_proposal bytes ≡ some command → (o : Orders others)
    → (lent : ℕ → List ℕ) → ((n : ℕ) → text_room ≤ length (lent n))
    → Arrives G H c others (place_of c others S) command (deeds_of G lent (quiet H) (phases c o bytes))
