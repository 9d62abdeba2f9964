-- A home: a group of hubs, each with its stored bytes, and every text that was ever written. A hub is called for anything, with any
-- arguments, at any time. A text that was written may be received by anybody, any number of times, or never: so it is lost, repeated,
-- delayed and reordered. A text that was damaged on its way is received too, as long as it can't be read as a message any more.
-- A hub that loses power keeps what its engine keeps, and comes back with anything in place of the rest. Assumes nothing.
use Rattle.std.specs.Prelude.{ℕ, ◌≡◌, ◌⊎◌, true, cond, List, [], ◌∷◌}
use Rattle.std.proofs.Math.Option.{Option, none, some}
use Rattle.kinds.specs.Sizes.{Group, is_group}
use Rattle.paxos.specs.Put.{put}
use Rattle.paxos.specs.Paxos.{◌∈◌}
use Rattle.engine.specs.Engine.{Engine}

-- The stored bytes of each hub, the texts that hubs wrote, and the commands that clients proposed and a hub took; the last two newest first.
pub record Home (E : Engine) : Type 0 where
  pub stored : ℕ → List ℕ
  pub sent : List (List ℕ)
  pub orders : List E.Command

-- Fresh hubs, and nothing written.
abbrev pub fresh_home : (E : Engine) → Home E
fresh_home E = record { stored = λ h. E.fresh; sent = []; orders = [] }

-- ---- one deed

-- A text of no bytes is none.
unfoldable pub joining : List ℕ → List (List ℕ) → List (List ℕ)
joining [] sent = sent
joining (b ∷ bs) sent = (b ∷ bs) ∷ sent

-- A command, if there is one, joins the others.
unfoldable pub adding : {C : Type 0} → Option C → List C → List C
adding none orders = orders
adding (some c) orders = c ∷ orders

-- The home after a deed. What is stored is what the step left if it took effect, else what was stored before; a text that it wrote
-- is sent in either case; a proposal counts if it took effect.
unfoldable pub after : (E : Engine) → Group → Home E → E.Deed → Home E
after E G H d =
    let given = E.step G d in
    let h = E.hub d in
    record {
      stored = put H.stored h (cond given.took_effect given.state (H.stored h));
      sent = joining given.text H.sent;
      orders = cond given.took_effect (adding (E.asks d) H.orders) H.orders;
    }

-- What may happen in a home.
pub record Fair (E : Engine) (H : Home E) (d : E.Deed) : Type 0 where
  -- A text that is read as a message was written by a hub of this home: nobody makes one up.
  pub honest : (t : List ℕ) → E.hears d ≡ some t → t ∈ H.sent
  -- The hub is called with the bytes that it stored; after a loss of power, with any bytes whose kept parts are the stored ones.
  pub stored :
      (E.state d ≡ H.stored (E.hub d)) ⊎ ((E.restarts d ≡ true) × E.SameKept (E.state d) (H.stored (E.hub d)))

-- ---- runs

-- The home after these deeds, one after the other.
abbrev pub after_all : (E : Engine) → Group → Home E → List E.Deed → Home E
after_all E G H [] = H
after_all E G H (d ∷ ds) = after_all E G (after E G H d) ds

-- Each of them may happen when it does.
abbrev pub AllFair : (E : Engine) → Group → Home E → List E.Deed → Type 0
AllFair E G H [] = Unit {0}
AllFair E G H (d ∷ ds) = Fair E H d × AllFair E G (after E G H d) ds

-- One home comes to be the other; how many deeds that takes is their number.
pub record Runs (E : Engine) (G : Group) (H I : Home E) : Type 0 where
  pub deeds : List E.Deed
  pub fair : AllFair E G H deeds
  pub ends : after_all E G H deeds ≡ I

-- A home that started fresh.
pub record Reached (E : Engine) (G : Group) (H : Home E) : Type 0 where
  pub group : is_group G ≡ true
  pub runs : Runs E G (fresh_home E) H
