-- The invariant: when a hall is faithful to the machine. `Keeps` is what holds of each hub by itself, `Faithful` what holds of the hall.
-- All facts that an engine's messages carry (a proposal, a vote, a gift, a settled place) stay true: histories and gifts only grow.
-- Assumes nothing.
use Rattle.std.specs.Prelude.{◌≡◌, Bool, true, List, ℕ, ◌≤◌}
use Rattle.paxos.specs.Paxos.{Machine, Seen, at, reported, proposed, History, ◌∈◌, promise, Highest, Run, ChosenAt}
use Rattle.views.specs.Hall.{View, Gift, gave, Hall, Leads}

-- The command `c` is chosen at the place `p`, at a ballot up to `t`: whoever holds something there at `t` holds `c`.
abbrev pub Settled : {C : Type 0} (M : Machine C) → History C → ℕ → ℕ → C → Type 0
Settled M s t p c = (b : ℕ) × (b ≤ t) × ChosenAt M s b p c

-- What a hub of the term `t` holds at the place `p`, `x`, is something, and settled.
pub record Known {C : Type 0} (M : Machine C) (s : History C) (t p : ℕ) (x : Seen C) : Type 0 where
  pub ballot : ℕ
  pub command : C
  pub is : x ≡ at ballot command
  pub settled : Settled M s t p command

-- What holds of hub `h`, whose view is `v`.
pub record Keeps {C : Type 0} (M : Machine C) (s : History C) (G : List (Gift C)) (h : ℕ) (v : View C) : Type 0 where
  -- The machine's promise of the hub is its term.
  pub promised : promise s h ≡ v.term
  -- What it holds at a place is its highest vote there.
  pub held : (p : ℕ) → Highest s h p (v.holds p)
  -- What it holds is of its term or a lower one.
  pub low : (p b : ℕ) (c : C) → v.holds p ≡ at b c → b ≤ v.term
  -- It gave its reports at its term and at lower ones.
  pub early : (t l : ℕ) (x : ℕ → Seen C) → gave h t l x ∈ G → t ≤ v.term
  -- What it holds at a place that it reports is settled.
  pub said : (p : ℕ) → v.says p ≡ true → Known M s v.term p (v.holds p)

-- A hub of view `v` may have made the proposal of `c` at the ballot `t` for the place `p`: it has reached that term,
-- and while that is its term it holds `c` there.
pub record Owns {C : Type 0} (v : View C) (t p : ℕ) (c : C) : Type 0 where
  pub up : t ≤ v.term
  pub mine : t ≡ v.term → v.holds p ≡ at t c

-- A proposal was made by a hub that leads its ballot.
pub record Authored {C : Type 0} (M : Machine C) (G : List (Gift C)) (view : ℕ → View C) (t p : ℕ) (c : C) : Type 0 where
  pub hub : ℕ
  pub backers : ℕ → Bool
  pub seen : ℕ → ℕ → Seen C
  pub leads : Leads M G t hub backers seen
  pub owns : Owns (view hub) t p c

-- The hall is faithful to the machine.
pub record Faithful {C : Type 0} (M : Machine C) (H : Hall C) : Type 0 where
  -- The machine can come to this history.
  pub run : Run M H.past
  -- Each hub is as the machine knows it.
  pub hubs : (h : ℕ) → Keeps M H.past H.gifts h (H.view h)
  -- What was given was reported.
  pub given : (h t l : ℕ) (x : ℕ → Seen C) → gave h t l x ∈ H.gifts → reported h t x ∈ H.past
  -- A hub's report at a term was given to one hub only.
  pub once : (h t l m : ℕ) (x y : ℕ → Seen C) → gave h t l x ∈ H.gifts → gave h t m y ∈ H.gifts → l ≡ m
  -- Each proposal was made by the leader of its ballot, who holds it as long as that is its term.
  pub authored : (t p : ℕ) (c : C) → proposed t p c ∈ H.past → Authored M H.gifts H.view t p c
