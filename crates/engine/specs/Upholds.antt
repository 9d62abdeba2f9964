-- What an engine proves to get all of Safe: over each home stands a hall that is faithful to the machine, and each deed is zero or more actions.
-- Assumes nothing.
use Rattle.std.specs.Prelude.{ℕ, ◌≡◌, ◌↔◌, List}
use Rattle.std.proofs.Math.Option.{some}
use Rattle.kinds.specs.Sizes.{Group}
use Rattle.paxos.specs.Paxos.{asked, ◌∈◌}
use Rattle.views.specs.Hall.{Hall, first, Says}
use Rattle.views.specs.Acts.{Acts}
use Rattle.views.specs.Faithful.{Faithful}
use Rattle.engine.specs.Engine.{Engine, machine_of}
use Rattle.engine.specs.Home.{Home, fresh_home, after, Fair}

-- A later hall that stands over a home.
pub record Going (E : Engine) (G : Group) (Over : Home E → Hall E.Command → Type 0) (H : Home E) (J : Hall E.Command) : Type 0 where
  pub hall : Hall E.Command
  pub acts : Acts (machine_of E G) J hall
  pub over : Over H hall

pub record Upholds (E : Engine) (G : Group) : Type 1 where
  -- The hall stands over the home.
  pub Over : Home E → Hall E.Command → Type 0
  -- A fresh one over a fresh home.
  pub fresh : Over (fresh_home E) first
  -- Each deed is zero or more actions.
  pub deed : (H : Home E) (J : Hall E.Command) (d : E.Deed) → Over H J → Fair E H d → Going E G Over (after E G H d) J
  -- The hall is faithful to the machine.
  pub faithful : (H : Home E) (J : Hall E.Command) → Over H J → Faithful (machine_of E G) J
  -- Each hub's view is that of its stored bytes.
  pub views : (H : Home E) (J : Hall E.Command) → Over H J → (h : ℕ) → J.view h ≡ E.view (H.stored h)
  -- What clients asked for a hub took.
  pub orders : (H : Home E) (J : Hall E.Command) → Over H J → (c : E.Command) → asked c ∈ J.past → c ∈ H.orders
  -- What bytes report is what their view says.
  pub says : (l : List ℕ) (p : ℕ) (c : E.Command) → (E.reports l p ≡ some c) ↔ Says (E.view l) p c
