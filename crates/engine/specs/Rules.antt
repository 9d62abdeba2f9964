-- An engine's rules on values: what hubs do once states and messages are read. A household is a home once its bytes and texts are read.
-- Assumes nothing.
use Rattle.std.specs.Prelude.{ℕ, ◌≡◌, Bool, true, cond, List, []}
use Rattle.std.proofs.Math.Option.{Option, some}
use Rattle.kinds.specs.Sizes.{Group, is_hub}
use Rattle.paxos.specs.Put.{put}
use Rattle.paxos.specs.Paxos.{◌∈◌}
use Rattle.engine.specs.Home.{adding}

-- What an event comes to: whether it takes effect, the next state, and at most one message.
pub record Came (S M : Type 0) : Type 0 where
  pub took_effect : Bool
  pub state : S
  pub message : Option M

pub record Rules (C : Type 0) : Type 1 where
  pub State : Type 0
  pub Message : Type 0
  -- An event with what comes in with it.
  pub Occasion : Type 0
  pub fresh : State
  -- What an event comes to at a hub of a group.
  pub happens : Group → ℕ → State → Occasion → Came State Message
  -- The message that the hub receives, and the command that it is asked to propose, if there is one.
  pub hears : Occasion → Option Message
  pub asks : Occasion → Option C

module _ {C : Type 0} (R : Rules C) where
  -- Each hub's state, all messages that hubs wrote, and all commands that clients proposed and a hub took.
  pub record Household : Type 0 where
    pub states : ℕ → R.State
    pub sent : List R.Message
    pub orders : List C

  -- Fresh hubs, and nothing written.
  abbrev pub fresh_household : Household
  fresh_household = record { states = λ h. R.fresh; sent = []; orders = [] }

  -- The household after hub h has met an event.
  unfoldable pub met : Group → Household → ℕ → R.Occasion → Household
  met G W h o =
      let came = R.happens G h (W.states h) o in
      record {
        states = put W.states h came.state;
        sent = adding came.message W.sent;
        orders = cond came.took_effect (adding (R.asks o) W.orders) W.orders;
      }

  -- What is received is one of these messages.
  abbrev pub Heard : List R.Message → R.Occasion → Type 0
  Heard sent o = (m : R.Message) → R.hears o ≡ some m → m ∈ sent

  -- A household that a fresh one can come to: one event after the other, each met by a hub of the group.
  pub data Meetings (G : Group) : Household → Type 0 where
    none_yet : Meetings G fresh_household
    meeting : {W : Household} → Meetings G W → (h : ℕ) → is_hub G.size h ≡ true → (o : R.Occasion) → Heard W.sent o → Meetings G (met G W h o)
