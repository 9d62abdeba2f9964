-- "The largest place confirmed by a majority", by its meaning. Assumes nothing.
use Rattle.std.specs.Prelude.{ℕ, zero, suc, Bool, true, false, List, leb, take}
use Rattle.kinds.specs.Sizes.{majority, limit}
use Rattle.state.specs.Legal.{count}

-- A majority of the hubs 1..n has confirmed a length of p or more.
unfoldable pub confirmed_by : ℕ → List ℕ → ℕ → Bool
confirmed_by n confirmed p = leb (majority n) (count (leb p) (take n confirmed))

-- The largest of 1..k with a property; 0 if none has it.
unfoldable pub largest : (ℕ → Bool) → ℕ → ℕ
largest P zero = 0
largest P (suc k) = elim (P (suc k)) [ true ↦ suc k | false ↦ largest P k ]

-- The largest place confirmed by a majority; 0 if there is none.
unfoldable pub majority_place : ℕ → List ℕ → ℕ
majority_place n confirmed = largest (confirmed_by n confirmed) limit
