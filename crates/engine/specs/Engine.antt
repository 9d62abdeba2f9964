-- What an engine of hubs is, as far as a home has to know it. A call is what a deed brings; the step answers it; states and messages
-- are bytes. The hub of `home` is one engine. Assumes nothing.
use Rattle.std.specs.Prelude.{ℕ, Bool, List}
use Rattle.std.proofs.Math.Option.{Option}
use Rattle.kinds.specs.Sizes.{Group}
use Rattle.paxos.specs.Paxos.{Machine}
use Rattle.views.specs.Hall.{View}

-- What comes of a call: whether it took effect, the bytes of the state that it leaves, and the text that it wrote, empty if it wrote none.
pub record Given : Type 0 where
  pub took_effect : Bool
  pub state : List ℕ
  pub text : List ℕ

pub record Engine : Type 1 where
  -- What clients ask for, and what a hub is called for.
  pub Command : Type 0
  pub Deed : Type 0
  -- The hub that is called, and the bytes of the state that it is called with.
  pub hub : Deed → ℕ
  pub state : Deed → List ℕ
  -- The hub comes back after a loss of power.
  pub restarts : Deed → Bool
  -- The text that the hub receives, if that can be read as a message.
  pub hears : Deed → Option (List ℕ)
  -- The command that the hub is asked to propose, if it may be proposed.
  pub asks : Deed → Option Command
  -- What comes of it.
  pub step : Group → Deed → Given
  -- The bytes of a fresh hub's state.
  pub fresh : List ℕ
  -- The bytes have the same kept parts: those that are there after a loss of power.
  pub SameKept : List ℕ → List ℕ → Type 0
  -- The command that the hub of these bytes reports at a place; none elsewhere.
  pub reports : List ℕ → ℕ → Option Command
  -- The hub of these bytes, seen from the machine.
  pub view : List ℕ → View Command
  -- The commands that the machine may propose of itself, where nothing was reported.
  pub own : Command → Bool

-- The machine that a group of such hubs is mapped to.
abbrev pub machine_of : (E : Engine) → Group → Machine E.Command
machine_of E G = record { size = G.size; own = E.own }
