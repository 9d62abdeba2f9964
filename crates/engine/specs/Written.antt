-- A home is its household, written out: states as bytes, messages as texts. More than one text may be read as one message.
-- Assumes nothing.
use Rattle.std.specs.Prelude.{ℕ, ◌≡◌, ◌↔◌, true, List}
use Rattle.std.proofs.Math.Option.{Option, some}
use Rattle.kinds.specs.Sizes.{Group, is_hub}
use Rattle.paxos.specs.Paxos.{◌∈◌}
use Rattle.views.specs.Hall.{Hall, Says}
use Rattle.engine.specs.Engine.{Engine, machine_of}
use Rattle.engine.specs.Home.{Home, fresh_home, after, Fair}
use Rattle.engine.specs.Rules.{Rules, Household, fresh_household, Heard, met}
use Rattle.engine.specs.Facts.{Facts, Stands}

-- How states are written and texts are read.
pub record Writing {C : Type 0} (R : Rules C) : Type 0 where
  pub image : R.State → List ℕ
  pub read : List ℕ → Option R.Message

module _ (E : Engine) (R : Rules E.Command) (X : Writing R) where
  pub record IsWritten (H : Home E) (W : Household R) : Type 0 where
    -- What is stored are the images of the states.
    pub states : (h : ℕ) → H.stored h ≡ X.image (W.states h)
    -- Every text sent is read as a message of the household.
    pub texts : (t : List ℕ) → t ∈ H.sent → (m : R.Message) × (X.read t ≡ some m) × (m ∈ W.sent)
    -- Every such message has a text.
    pub messages : (m : R.Message) → m ∈ W.sent → (t : List ℕ) × (t ∈ H.sent) × (X.read t ≡ some m)
    -- Hubs took the same commands.
    pub orders : H.orders ≡ W.orders

  -- The home is what the household has come to: it is as it was, or a hub of the group has met an event.
  pub data Becomes (G : Group) (W : Household R) (H : Home E) : Type 0 where
    stays : IsWritten H W → Becomes G W H
    meets : (h : ℕ) (o : R.Occasion) → is_hub G.size h ≡ true → Heard R W.sent o → IsWritten H (met R G W h o) → Becomes G W H

-- What an engine proves of its bytes.
pub record WritesOut (E : Engine) (R : Rules E.Command) (X : Writing R) (G : Group) (F : Facts R (machine_of E G)) : Type 0 where
  -- A fresh home is a fresh household, written out.
  pub fresh : IsWritten E R X (fresh_home E) (fresh_household R)
  -- After each deed the household is as it was, or has met an event.
  pub deed :
      (H : Home E) (W : Household R) (J : Hall E.Command) (d : E.Deed) → IsWritten E R X H W → Stands F W J → Fair E H d → Becomes E R X G W (after E G H d)
  -- A hub's view is that of its state's image.
  pub views : (W : Household R) (J : Hall E.Command) → Stands F W J → (h : ℕ) → J.view h ≡ E.view (X.image (W.states h))
  -- What bytes report is what their view says.
  pub says : (l : List ℕ) (p : ℕ) (c : E.Command) → (E.reports l p ≡ some c) ↔ Says (E.view l) p c
