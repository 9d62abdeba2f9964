-- The hubs 1..N, sets of them, and majorities. A set is a test on numbers; only the hubs 1..N are counted, whatever it says of
-- other numbers. A majority is floor(N/2)+1 hubs, so no hubs at all (N = 0) have none. Assumes nothing.
use Rattle.std.specs.Prelude.{Bool, true, false, ℕ, zero, suc, ◌+◌, ◌≤◌}
use Rattle.kinds.specs.Sizes.{majority}

-- `h` is one of the hubs 1..N.
pub record IsHub (N h : ℕ) : Type 0 where
  pub low : 1 ≤ h
  pub high : h ≤ N

-- A test counts as one or as nothing.
abbrev pub bit : Bool → ℕ
bit true = 1
bit false = 0

-- How many of the hubs 1..n are in the set `Q`.
unfoldable pub count_to : ℕ → (ℕ → Bool) → ℕ
count_to zero Q = 0
count_to (suc n) Q = bit (Q (suc n)) + count_to n Q

-- The set `Q` is a majority of the hubs 1..N.
abbrev pub Majority : ℕ → (ℕ → Bool) → Type 0
Majority N Q = majority N ≤ count_to N Q
