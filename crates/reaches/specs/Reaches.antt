-- Request W-213, it does get there: from any legal states of a majority, one of whom asks, a command is chosen after 2 + 5(m - 1) steps. Who believes
-- the home (`engine`, `home`), MultiPaxos (`paxos`), the run (Run) and this page need not open the proof. Assumes nothing.
use Rattle.std.specs.Prelude.{ℕ, zero, suc, ◌+◌, ◌*◌, ◌-◌, ◌≤◌, ◌<◌, max, ◌≡◌, true, false, List, [], ◌∷◌, ◌++◌, length, take}
use Rattle.std.proofs.Math.Option.{none, some}
use Rattle.kinds.specs.Sizes.{Group, is_group, is_hub, hub_of, majority, term_most, limit, text_room}
use Rattle.command.specs.Command.{Command}
use Rattle.command.specs.Proposal.{read_proposal}
use Rattle.state.specs.State.{Kept, State}
use Rattle.state.specs.Image.{read_state, read_kept, reported_in}
use Rattle.rules.specs.Outcome.{done}
use Rattle.rules.specs.Events.{is_leader, len}
use Rattle.rules.specs.Step.{step_of}
use Rattle.paxos.specs.Put.{put}
use Rattle.paxos.specs.Paxos.{History, ◌∈◌, Chosen}
use Rattle.engine.specs.Engine.{machine_of}
use Rattle.engine.specs.Home.{after_all, AllFair, Reached}
use Rattle.engine.specs.Safe.{Reports, Explains}
use Rattle.home.specs.Hub.{Deed, call_for, hub_engine, HomeOfHubs}
use Rattle.reaches.specs.Run.{Act, starts, proposes, sends_to, hears, Turn, quiet, deeds_of}

-- ---- the turns: hub c, which asks; the others; a command's bytes

-- A hub's turn.
abbrev pub turn : ℕ → Act → ℕ → Turn
turn hub act onto = record { hub = hub; act = act; onto = onto }

-- Turns for each of the others, as many as are left for each, mixed in any way: `t g n` is the one for hub g that leaves n.
pub data Mixed (others : List ℕ) (t : ℕ → ℕ → Turn) : (ℕ → ℕ) → List Turn → Type 0 where
  none_left : {left : ℕ → ℕ} → ((g : ℕ) → g ∈ others → left g ≡ 0) → Mixed others t left []
  one_less :
      {left : ℕ → ℕ} {g n : ℕ} {ts : List Turn} → g ∈ others → left g ≡ suc n → Mixed others t (put left g n) ts
      → Mixed others t left (t g n ∷ ts)

-- Hub g receives the request, and the hub that asks receives its answer. The request waits on line 0, what goes between the two on line g.
abbrev pub electing : ℕ → ℕ → ℕ → Turn
electing c g zero = turn c (hears g) g
electing c g (suc n) = turn g (hears 0) g

-- It sends to hub g from prev 0, hub g receives, and it receives the answer.
abbrev pub choosing : ℕ → ℕ → ℕ → Turn
choosing c g zero = turn c (hears g) g
choosing c g (suc zero) = turn g (hears g) g
choosing c g (suc (suc n)) = turn c (sends_to g) g

-- It starts; each of the others receives the request, and it receives each answer; it proposes a command; it sends to each from prev 0, each
-- receives, and it receives each answer.
pub record Schedule (c : ℕ) (others bytes : List ℕ) (ts : List Turn) : Type 0 where
  pub first : List Turn
  pub second : List Turn
  pub elects : Mixed others (electing c) (λ g. 2) first
  pub chooses : Mixed others (choosing c) (λ g. 3) second
  pub whole : ts ≡ turn c starts 0 ∷ (first ++ (turn c (proposes bytes) 0 ∷ second))

-- ---- the premise

-- No repetition.
abbrev pub Distinct : List ℕ → Type 0
Distinct [] = Unit {0}
Distinct (g ∷ gs) = (g ∈ gs → ⊥) × Distinct gs

-- The longest log of some hubs.
unfoldable pub longest : (ℕ → State) → List ℕ → ℕ
longest S [] = 0
longest S (g ∷ gs) = max (len (S g)) (longest S gs)

-- Hub c and the others are a majority, in any legal states, and hub c may ask.
pub record Ready (G : Group) (H : HomeOfHubs) (c : ℕ) (others : List ℕ) (S : ℕ → State) : Type 0 where
  -- They are hubs of the group, each once, as many as are a majority.
  pub group : is_group G ≡ true
  pub hubs : (h : ℕ) → h ∈ (c ∷ others) → is_hub G.size h ≡ true
  pub once : Distinct (c ∷ others)
  pub many : length (c ∷ others) ≡ majority G.size
  -- What each has stored are the bytes of a legal state.
  pub legal : (h : ℕ) → h ∈ (c ∷ others) → read_state (hub_of G h) (H.stored h) ≡ some (S h)
  -- Hub c isn't leading; its term is not the last, and not below any of theirs.
  pub role : is_leader (S c) ≡ false
  pub term_left : (S c).kept.term < term_most
  pub terms : (g : ℕ) → g ∈ others → (S g).kept.term ≤ (S c).kept.term
  -- There is room for one command beyond the longest log among them all.
  pub room : longest S (c ∷ others) < limit

-- A hub's ballot is not below that of another one, if that holds an entry.
abbrev pub NotBelow : State → State → Type 0
NotBelow s other = 1 ≤ len other → other.kept.ballot ≤ s.kept.ballot

-- ---- what is claimed

-- Hub c reports nothing at that place.
abbrev pub Silent : ℕ → ℕ → HomeOfHubs → Type 0
Silent c place H = reported_in (H.stored c) place ≡ none

-- It reports the command there, at the last place of its log, all of which is chosen; and the others of the majority hold that log at the same
-- ballot, so that a majority has voted for it.
pub record ReportsLast (c : ℕ) (others : List ℕ) (place : ℕ) (command : Command) (H : HomeOfHubs) : Type 0 where
  pub reports : Reports hub_engine H c place command
  pub kept : Kept
  pub stored : read_kept (H.stored c) ≡ some kept
  pub chosen : kept.chosen ≡ length kept.log
  pub last : length kept.log ≡ place
  pub held : (g : ℕ) → g ∈ others → (k : Kept) × (read_kept (H.stored g) ≡ some k) × (k.ballot ≡ kept.ballot) × (k.log ≡ kept.log)

-- These deeds get it there.
pub record Arrives (G : Group) (H : HomeOfHubs) (c : ℕ) (others : List ℕ) (place : ℕ) (command : Command) (ds : List Deed) : Type 0 where
  -- They are so many steps.
  pub steps : length ds ≡ 2 + 5 * (majority G.size - 1)
  -- Each may happen in the home: what is received was written there.
  pub fair : AllFair hub_engine G H ds
  -- Each has outcome 0.
  pub effect : (d : Deed) → d ∈ ds → (step_of (call_for G d)).outcome ≡ done
  -- Before the last of them hub c reports nothing at the place; after it, the command.
  pub not_before : (n : ℕ) → n < length ds → Silent c place (after_all hub_engine G H (take n ds))
  pub at_last : ReportsLast c others place command (after_all hub_engine G H ds)

-- The place that the command will have.
abbrev pub place_of : ℕ → List ℕ → (ℕ → State) → ℕ
place_of c others S = suc (longest S (c ∷ others))

-- It does get there: from every home in the premise, in whatever order the turns for different hubs come, whatever the command that may be
-- proposed, and whatever output is lent if it has the room.
abbrev pub GetsThere : Type 0
GetsThere =
    (G : Group) (H : HomeOfHubs) (c : ℕ) (others : List ℕ) (S : ℕ → State) → Ready G H c others S
    → ((g : ℕ) → g ∈ others → NotBelow (S c) (S g))
    → (bytes : List ℕ) (command : Command) → read_proposal bytes ≡ some command → (ts : List Turn) → Schedule c others bytes ts
    → (lent : ℕ → List ℕ) → ((n : ℕ) → text_room ≤ length (lent n))
    → Arrives G H c others (place_of c others S) command (deeds_of G lent (quiet H) ts)

-- In a home that started fresh the command is then chosen, as MultiPaxos has it: in a history that explains the home.
abbrev pub ThenItIsChosen : Type 0
ThenItIsChosen =
    (G : Group) (H : HomeOfHubs) (c : ℕ) (others : List ℕ) (place : ℕ) (command : Command) (ds : List Deed) → Reached hub_engine G H
    → Arrives G H c others place command ds
    → (s : History Command) × Explains hub_engine G (after_all hub_engine G H ds) s × Chosen (machine_of hub_engine G) s place command
