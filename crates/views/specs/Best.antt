-- The tally of a candidate at one place: the highest of the votes that its voters reported there, the first one heard among equals.
-- It is what the machine may propose there (`top_pick`, `top_any`). Assumes nothing.
use Rattle.std.specs.Prelude.{◌≡◌, Bool, true, ℕ, ◌≤◌}
use Rattle.std.proofs.Math.Decide.{dec_lt}
use Rattle.paxos.specs.Put.{choose}
use Rattle.paxos.specs.Paxos.{Seen, never, at}

module _ {C : Type 0} where
  -- Of what is held and what is new, that with the greater ballot stays, and the held one if they are equal.
  unfoldable pub better : Seen C → Seen C → Seen C
  better never y = y
  better (at b c) never = at b c
  better (at b c) (at k d) = choose (dec_lt b k) (at k d) (at b c)

  -- Among the reports `f` of the hubs `Q` on a place, `x` is the highest: one of them is `x` and none is above it, or all are `never`.
  abbrev pub Top : (ℕ → Bool) → (ℕ → Seen C) → Seen C → Type 0
  Top Q f never = (g : ℕ) → Q g ≡ true → f g ≡ never
  Top Q f (at b c) = ((h : ℕ) × (Q h ≡ true) × (f h ≡ at b c)) × ((g k : ℕ) (d : C) → Q g ≡ true → f g ≡ at k d → k ≤ b)
