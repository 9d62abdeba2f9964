-- How an engine's proof is laid out: facts about hubs and messages, over a hall and a ghost of the engine's own, that hold of every
-- household which can come about. What one hub does must leave all that is known of the others and of messages. Assumes nothing.
use Rattle.std.specs.Prelude.{ℕ, ◌≡◌, ◌≢◌, List, [], true}
use Rattle.std.proofs.Math.Option.{Option, some}
use Rattle.kinds.specs.Sizes.{Group, is_hub}
use Rattle.paxos.specs.Put.{put}
use Rattle.paxos.specs.Paxos.{Machine, asked, ◌∈◌}
use Rattle.views.specs.Hall.{Hall, first, asking}
use Rattle.views.specs.Acts.{Acts}
use Rattle.views.specs.Faithful.{Faithful}
use Rattle.engine.specs.Home.{adding}
use Rattle.engine.specs.Rules.{Rules, Household, Heard}

pub record Facts {C : Type 0} (R : Rules C) (M : Machine C) : Type 1 where
  -- What the engine's own argument keeps in mind.
  pub Ghost : Type 0
  -- What holds of the hall and the ghost: the hall is faithful to the machine, and more.
  pub Ground : Hall C → Ghost → Type 0
  pub faithful : (H : Hall C) (g : Ghost) → Ground H g → Faithful M H
  -- What holds of hub h with this state.
  pub Rooted : Hall C → Ghost → ℕ → R.State → Type 0
  -- What a message says is true.
  pub True : Hall C → Ghost → R.Message → Type 0
  -- What holds of all states and messages by themselves, without the machine.
  pub Among : (ℕ → R.State) → List R.Message → Type 0

module _ {C : Type 0} {R : Rules C} {M : Machine C} (F : Facts R M) where
  -- The household stands for the machine with the hall's history.
  pub record Stands (W : Household R) (H : Hall C) : Type 0 where
    pub ghost : F.Ghost
    pub ground : F.Ground H ghost
    -- Every hub is as it has to be.
    pub hubs : (h : ℕ) → F.Rooted H ghost h (W.states h)
    -- Every message ever written is true.
    pub sent : (m : R.Message) → m ∈ W.sent → F.True H ghost m
    -- And so are they together.
    pub among : F.Among W.states W.sent
    -- What the machine's clients asked for a hub took.
    pub orders : (c : C) → asked c ∈ H.past → c ∈ W.orders

  -- From one hall and ghost to others, hub h alone having moved: what holds of the others, and what messages say, stays.
  pub record Frame (H : Hall C) (g : F.Ghost) (h : ℕ) (J : Hall C) (k : F.Ghost) : Type 0 where
    pub others : (i : ℕ) (s : R.State) → i ≢ h → F.Rooted H g i s → F.Rooted J k i s
    pub said : (m : R.Message) → F.True H g m → F.True J k m

  -- Hub h goes to the state s and writes m: what an engine proves of each event.
  pub record Goes (H : Hall C) (g : F.Ghost) (h : ℕ) (s : R.State) (m : Option R.Message) : Type 0 where
    pub hall : Hall C
    pub ghost : F.Ghost
    -- By actions, for which no client asks for anything.
    pub acts : Acts M H hall
    pub quiet : (c : C) → asked c ∈ hall.past → asked c ∈ H.past
    pub ground : F.Ground hall ghost
    pub frame : Frame H g h hall ghost
    -- The hub is as it has to be, and what it writes is true.
    pub mine : F.Rooted hall ghost h s
    pub wrote : (w : R.Message) → m ≡ some w → F.True hall ghost w

-- What an engine proves of its facts.
pub record FactsKept {C : Type 0} {R : Rules C} {M : Machine C} (G : Group) (F : Facts R M) : Type 0 where
  -- They hold of fresh hubs.
  pub ghost : F.Ghost
  pub ground : F.Ground first ghost
  pub fresh : (h : ℕ) → F.Rooted first ghost h R.fresh
  pub fresh_among : F.Among (λ h. R.fresh) []
  -- They stay where a client asks for something.
  pub asked_ground : (H : Hall C) (g : F.Ghost) (c : C) → F.Ground H g → F.Ground (asking H c) g
  pub asked_rooted : (H : Hall C) (g : F.Ghost) (c : C) (h : ℕ) (s : R.State) → F.Rooted H g h s → F.Rooted (asking H c) g h s
  pub asked_true : (H : Hall C) (g : F.Ghost) (c : C) (m : R.Message) → F.True H g m → F.True (asking H c) g m
  -- Every event goes, once a client has asked for what it proposes.
  pub goes :
      (W : Household R) (H : Hall C) (ok : Stands F W H) (h : ℕ) (o : R.Occasion) → is_hub G.size h ≡ true → Heard R W.sent o
      → let came = R.happens G h (W.states h) o in
      ((c : C) → R.asks o ≡ some c → came.took_effect ≡ true → asked c ∈ H.past)
      → Goes F H ok.ghost h came.state came.message
  pub met_among :
      (W : Household R) (H : Hall C) → Stands F W H → (h : ℕ) (o : R.Occasion) → is_hub G.size h ≡ true → Heard R W.sent o
      → let came = R.happens G h (W.states h) o in
      F.Among (put W.states h came.state) (adding came.message W.sent)
