-- Turns for each of the others, mixed in any way. What is known of each of them goes by how many turns are left for it; what is known of the hub that
-- asks goes by those who have any left. Assumes nothing.
use Prim.Native.Nat.{ℕ, zero, suc, ◌≤◌}
use native.Mathlib.Omega.{arith}
use native.Mathlib.Decide.{ℕ_discrete}
use mathlib.Core.Path.{◌≡◌, refl, sym, ◌∙◌}
use mathlib.Core.Logic.{◌≢◌, ◌⊎◌, inl, inr, ⊎_elim}
use mathlib.Core.List.{List, [], ◌∷◌, ◌++◌}
use mathlib.Core.Option.{Option}
use Rattle.kinds.specs.Sizes.{Group}
use Rattle.message.specs.Message.{Message}
use Rattle.state.specs.State.{State}
use Rattle.paxos.specs.Put.{put}
use Rattle.paxos.specs.Paxos.{◌∈◌, here}
use Rattle.paxos.proofs.PutLaws.{put_cases, put_same, put_other}
use Rattle.reaches.specs.Run.{Turn}
use Rattle.reaches.specs.Reaches.{Mixed, none_left, one_less, electing, choosing, Distinct}
use Rattle.reaches.proofs.Without.{Without, without, without_rest, without_kept, without_other, without_once}
use Rattle.reaches.proofs.Stage.{Stage, changed, Takes, Goes, next}

-- ---- what is known

-- Of a hub: of its state and of the message on its line. The line of the hub that asks is line 0.
abbrev pub Known : Type 1
Known = State → Option Message → Type 0

-- In one half of the run: of the hub that asks, by those who have a turn left; of each of the others, by how many.
pub record Half : Type 1 where
  pub Asker : List ℕ → Known
  pub Other : ℕ → ℕ → Known

-- Those of the others who have a turn left, each once.
pub record Pending (others : List ℕ) (left : ℕ → ℕ) (gs : List ℕ) : Type 0 where
  pub once : Distinct gs
  pub due : (g : ℕ) → g ∈ others → 1 ≤ left g → g ∈ gs
  pub within : (g : ℕ) → g ∈ gs → g ∈ others
  pub some : (g : ℕ) → g ∈ gs → 1 ≤ left g

-- All that is known: with so many turns left for each, and these who have any.
pub record During (c : ℕ) (others : List ℕ) (P : Half) (left : ℕ → ℕ) (gs : List ℕ) (W : Stage) : Type 0 where
  pub pending : Pending others left gs
  pub asker : P.Asker gs (W.states c) (W.lines 0)
  pub other : (g : ℕ) → g ∈ others → P.Other (left g) g (W.states g) (W.lines g)

-- ---- a turn

-- Those who have one left after a turn for hub g that leaves n.
abbrev pub Leaves : ℕ → ℕ → List ℕ → List ℕ → Type 0
Leaves zero g gs less = Without g gs less
Leaves (suc n) g gs less = less ≡ gs

-- They are.
pending_less :
    {others : List ℕ} {left : ℕ → ℕ} {gs less : List ℕ} {g : ℕ} (n : ℕ) → Pending others left gs → g ∈ others → left g ≡ suc n → Leaves n g gs less
    → Pending others (put left g n) less
pending_less {others} {left} {gs} {less} {g} zero p one e w =
    record {
      once = without_once w p.once;
      due =
          put_cases (λ h l. h ∈ others → 1 ≤ l → h ∈ less) left g 0 (λ m some. absurd (omega arith))
          (λ h ne m some. without_kept w h ne (p.due h m some));
      within = λ h m. p.within h (without_rest w h m);
      some = λ h m. let ne = without_other w p.once h m in rw (put_other left g 0 h ne) (p.some h (without_rest w h m));
    }
pending_less {others} {left} {gs} {less} {g} (suc n) p one e same =
    rw same
    (record {
      once = p.once;
      due =
          put_cases (λ h l. h ∈ others → 1 ≤ l → h ∈ gs) left g (suc n) (λ m some. p.due g one (omega arith)) (λ h ne m some. p.due h m some);
      within = p.within;
      some = put_cases (λ h l. h ∈ gs → 1 ≤ l) left g (suc n) (λ m. omega arith) (λ h ne m. p.some h m);
    })

-- Hub g has a turn coming that leaves n, or the hub that asks has one for it.
pub record Coming (c : ℕ) (others : List ℕ) (P : Half) (W : Stage) (g n : ℕ) (gs less : List ℕ) : Type 0 where
  pub one : g ∈ others
  pub due : g ∈ gs
  pub once : Distinct gs
  pub within : (h : ℕ) → h ∈ gs → h ∈ others
  pub leaves : Leaves n g gs less
  pub asker : P.Asker gs (W.states c) (W.lines 0)
  pub other : P.Other (suc n) g (W.states g) (W.lines g)

-- What is known of the two when a hub has come to a state and wrote a message, or none.
pub record Knows (c : ℕ) (P : Half) (W : Stage) (g n : ℕ) (less : List ℕ) (h : ℕ) (s : State) (m : Option Message) : Type 0 where
  pub asker : P.Asker less (put W.states h s c) (W.lines 0)
  pub other : P.Other n g (put W.states h s g) m

module _ {c : ℕ} {P : Half} {W : Stage} {g n : ℕ} {less : List ℕ} {s : State} {m : Option Message} (ne : g ≢ c) where
  -- It was hub g.
  pub other_acts : P.Asker less (W.states c) (W.lines 0) → P.Other n g s m → Knows c P W g n less g s m
  other_acts asker other =
      record { asker = rw (put_other W.states g s c (λ e. ne (sym e))) asker; other = rw (put_same W.states g s) other }

  -- It was the hub that asks.
  pub asker_acts : P.Asker less s (W.lines 0) → P.Other n g (W.states g) m → Knows c P W g n less c s m
  asker_acts asker other = record { asker = rw (put_same W.states c s) asker; other = rw (put_other W.states c s g ne) other }

-- The turn: `Before` holds before it, it takes effect, and so much is known then.
pub record Turns (G : Group) (c : ℕ) (Before : Stage → Type 0) (P : Half) (W : Stage) (t : Turn) (g n : ℕ) (less : List ℕ) : Type 0 where
  pub before : Before W
  pub state : State
  pub message : Option Message
  pub takes : Takes G W t state message
  pub then : Knows c P W g n less t.hub state message

-- Every turn of a half is such a one.
abbrev pub EachTurns : Group → ℕ → List ℕ → (Stage → Type 0) → Half → (ℕ → ℕ → Turn) → Type 0
EachTurns G c others Before P t =
    (g n : ℕ) (gs less : List ℕ) (W : Stage) → Coming c others P W g n gs less → Turns G c Before P W (t g n) g n less

-- ---- all turns

-- After a turn there are such, whoever they are.
leaves : {g : ℕ} (n : ℕ) (gs : List ℕ) → g ∈ gs → (less : List ℕ) × Leaves n g gs less
leaves zero gs m = without gs m
leaves (suc n) gs m = (gs, refl)

-- The turns for hub g are its own or those of the hub that asks, and what they write waits on its line.
pub record Between (c : ℕ) (t : ℕ → ℕ → Turn) : Type 0 where
  pub hub : (g n : ℕ) → ((t g n).hub ≡ g) ⊎ ((t g n).hub ≡ c)
  pub onto : (g n : ℕ) → (t g n).onto ≡ g

-- Those up to the lead, and those from then on.
pub electing_between : (c : ℕ) → Between c (electing c)
electing_between c = record { hub = hub; onto = onto }
  where
    hub : (g n : ℕ) → ((electing c g n).hub ≡ g) ⊎ ((electing c g n).hub ≡ c)
    hub g zero = inr refl
    hub g (suc n) = inl refl

    onto : (g n : ℕ) → (electing c g n).onto ≡ g
    onto g zero = refl
    onto g (suc n) = refl

pub choosing_between : (c : ℕ) → Between c (choosing c)
choosing_between c = record { hub = hub; onto = onto }
  where
    hub : (g n : ℕ) → ((choosing c g n).hub ≡ g) ⊎ ((choosing c g n).hub ≡ c)
    hub g zero = inr refl
    hub g (suc zero) = inl refl
    hub g (suc (suc n)) = inr refl

    onto : (g n : ℕ) → (choosing c g n).onto ≡ g
    onto g zero = refl
    onto g (suc zero) = refl
    onto g (suc (suc n)) = refl

module _ {G : Group} {c : ℕ} {others : List ℕ} {Before After : Stage → Type 0} {P : Half} {t : ℕ → ℕ → Turn} (apart : (g : ℕ) → g ∈ others → g ≢ c)
    (low : (g : ℕ) → g ∈ others → 1 ≤ g) (between : Between c t) (each : EachTurns G c others Before P t) {rest : List Turn}
    (then : (W : Stage) → P.Asker [] (W.states c) (W.lines 0) → ((g : ℕ) → g ∈ others → P.Other 0 g (W.states g) (W.lines g))
    → Goes G Before After W rest) where
  -- What is known after a turn.
  turned_on :
      {left : ℕ → ℕ} {gs less : List ℕ} {W : Stage} {g n : ℕ} {s : State} {m : Option Message} → During c others P left gs W → g ∈ others
      → left g ≡ suc n → Leaves n g gs less → Knows c P W g n less (t g n).hub s m
      → During c others P (put left g n) less (changed W (t g n).hub (t g n).onto s m)
  unfolding changed
  turned_on {left} {W} {g} {n} {s} {m} i one e l k =
      rw (between.onto g n)
      (record {
        pending = pending_less n i.pending one e l;
        asker = rw (put_other W.lines g m 0 (λ z. omega (arith, low g one))) k.asker;
        other = λ h in-others. by h in-others (ℕ_discrete h g);
      })
    where
      by : (h : ℕ) → h ∈ others → Dec (h ≡ g) → P.Other (put left g n h) h (put W.states (t g n).hub s h) (put W.lines g m h)
      by h j (yes e) = rw e (rw (put_same left g n, put_same W.lines g m) k.other)
      by h j (no ne) =
          let elsewhere : h ≢ (t g n).hub = ⊎_elim (λ own z. ne (z ∙ own)) (λ asks z. apart h j (z ∙ asks)) (between.hub g n) in
          rw (put_other left g n h ne, put_other W.states (t g n).hub s h elsewhere, put_other W.lines g m h ne) (i.other h j)

  -- When none is left.
  ended : (left : ℕ → ℕ) (gs : List ℕ) (W : Stage) → ((g : ℕ) → g ∈ others → left g ≡ 0) → During c others P left gs W → Goes G Before After W rest
  ended left [] W none i = then W i.asker (λ g m. rw (none g m) at (i.other g m))
  ended left (g ∷ gs) W none i = absurd (let p = i.pending in omega (arith, p.some g here, none g (p.within g here)))

  -- However they are mixed; then whatever comes after.
  pub mixed :
      {left : ℕ → ℕ} {ts : List Turn} → Mixed others t left ts → (gs : List ℕ) (W : Stage) → During c others P left gs W
      → Goes G Before After W (ts ++ rest)
  mixed (none_left none) gs W i = ended _ gs W none i
  mixed (one_less {g} {n} one e more) gs W i =
      let p = i.pending in
      let due = p.due g one (omega arith) in
      let (less, l) = leaves n gs due in
      let x =
      each g n gs less W
      (record {
        one = one;
        due = due;
        once = p.once;
        within = p.within;
        leaves = l;
        asker = i.asker;
        other = rw e at (i.other g one);
      }) in
      next x.before x.takes (mixed more less _ (turned_on i one e l x.then))
