-- Demand 3, for any engine: what is claimed of every home that started fresh. Each step of a hub stands for zero or more steps of
-- MultiPaxos; a hub reports only what is chosen; no two hubs ever report different commands at one place; a reported command never
-- changes, and somebody proposed it. Who believes Home, MultiPaxos (`paxos`) and this page need not open the proof. Assumes nothing.
use Rattle.std.specs.Prelude.{ℕ, ◌≡◌, ◌⊎◌, true, []}
use Rattle.std.proofs.Math.Option.{some}
use Rattle.kinds.specs.Sizes.{Group}
use Rattle.paxos.specs.Paxos.{History, ◌∈◌, promise, Highest, Steps, Run, Chosen}
use Rattle.engine.specs.Engine.{Engine, machine_of}
use Rattle.engine.specs.Home.{Home, fresh_home, after, Fair, Runs, Reached}

-- Hub h reports the command c at the place p: its stored bytes say so.
abbrev pub Reports : (E : Engine) → Home E → ℕ → ℕ → E.Command → Type 0
Reports E H h p c = E.reports (H.stored h) p ≡ some c

-- ---- each step stands for steps of the machine

-- A history of the machine explains the home.
pub record Explains (E : Engine) (G : Group) (H : Home E) (s : History E.Command) : Type 0 where
  -- The machine can come to it.
  pub run : Run (machine_of E G) s
  -- Each hub has promised what its stored bytes say.
  pub promised : (h : ℕ) → promise s h ≡ (E.view (H.stored h)).term
  -- And its highest vote at each place is what they say, or it has none there.
  pub votes : (h p : ℕ) → Highest s h p ((E.view (H.stored h)).holds p)
  -- What a hub reports is chosen.
  pub chosen : (h p : ℕ) (c : E.Command) → Reports E H h p c → Chosen (machine_of E G) s p c

-- For every home that started fresh there is such a history.
abbrev pub Explained : (E : Engine) → Group → Type 0
Explained E G = (H : Home E) → Reached E G H → (s : History E.Command) × Explains E G H s

-- The machine runs along with the home: a home stands for a history that explains it, a fresh one for nothing yet, and behind each deed
-- the machine takes zero or more steps.
pub record Simulation (E : Engine) (G : Group) : Type 1 where
  pub StandsFor : Home E → History E.Command → Type 0
  pub fresh : StandsFor (fresh_home E) []
  pub deed :
      (H : Home E) (s : History E.Command) (d : E.Deed) → StandsFor H s → Fair E H d
      → (t : History E.Command) × Steps (machine_of E G) s t × StandsFor (after E G H d) t
  pub explains : (H : Home E) (s : History E.Command) → StandsFor H s → Explains E G H s

-- ---- what follows

-- No two hubs, at any two moments of a run, report different commands at one place.
abbrev pub Agreement : (E : Engine) → Group → Type 0
Agreement E G =
    (H I : Home E) (g h p : ℕ) (c d : E.Command) → Reached E G H → Runs E G H I → Reports E H g p c → Reports E I h p d → c ≡ d

-- A command once reported at a place is reported there by that hub ever after, restarts included.
abbrev pub Stability : (E : Engine) → Group → Type 0
Stability E G = (H I : Home E) (h p : ℕ) (c : E.Command) → Reached E G H → Runs E G H I → Reports E H h p c → Reports E I h p c

-- A hub took every reported command from a client, unless it is the machine's own.
abbrev pub Validity : (E : Engine) → Group → Type 0
Validity E G =
    (H : Home E) (h p : ℕ) (c : E.Command) → Reached E G H → Reports E H h p c → (c ∈ H.orders) ⊎ (E.own c ≡ true)

-- All of it.
pub record Safety (E : Engine) (G : Group) : Type 1 where
  pub simulation : Simulation E G
  pub explained : Explained E G
  pub agreement : Agreement E G
  pub stability : Stability E G
  pub validity : Validity E G
