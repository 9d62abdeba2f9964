-- What an engine proves of a hub's step: that the hub moves from its view to the next one by actions of its own.
-- A step at one place is a `Turn`: the hub keeps what it holds, takes what is proposed at its term, or makes a proposal as its leader.
-- Assumes nothing.
use Rattle.std.specs.Prelude.{◌≡◌, ◌≢◌, Bool, ℕ}
use Rattle.paxos.specs.Paxos.{Machine, Seen, at, asked, proposed, ◌∈◌, Pick}
use Rattle.views.specs.Hall.{View, Hall, Open, Leads}
use Rattle.views.specs.Acts.{Acts}

-- Hub `h` moves to the view `v`: by actions that leave every other hub's view, and for which no client asks for anything.
pub record Move {C : Type 0} (M : Machine C) (H : Hall C) (h : ℕ) (v : View C) : Type 0 where
  pub hall : Hall C
  pub acts : Acts M H hall
  pub mine : hall.view h ≡ v
  pub others : (g : ℕ) → g ≢ h → hall.view g ≡ H.view g
  pub quiet : (c : C) → asked c ∈ hall.past → asked c ∈ H.past

-- What hub `h`, of the view `v`, may come to hold at the place `p`: `x`.
pub data Turn {C : Type 0} (M : Machine C) (H : Hall C) (h : ℕ) (v : View C) (p : ℕ) (x : Seen C) : Type 0 where
  -- What it holds.
  keep : x ≡ v.holds p → Turn M H h v p x
  -- What is proposed at its term.
  take : (c : C) → x ≡ at v.term c → proposed v.term p c ∈ H.past → Turn M H h v p x
  -- What it may propose itself, leading its term on a majority's reports and holding nothing of that term there.
  make :
      (c : C) (Q : ℕ → Bool) (seen : ℕ → ℕ → Seen C) → x ≡ at v.term c
      → Leads M H.gifts v.term h Q seen
      → Pick M H.past Q (λ g. seen g p) c
      → Open v p
      → Turn M H h v p x
