-- A function on numbers, changed at one number. Assumes nothing.

use Rattle.std.specs.Prelude.{ℕ}
use Rattle.std.proofs.Math.Decide.{ℕ_discrete}

-- `a` if the question is answered by yes, `b` if by no.
abbrev pub choose : {A X : Type 0} → Dec X → A → A → A
choose (yes x) a b = a
choose (no x) a b = b

-- As `f`, but `x` at the number `h`.
unfoldable pub put : {A : Type 0} → (ℕ → A) → ℕ → A → ℕ → A
unfolding ℕ_discrete
put f h x g = choose (ℕ_discrete g h) x (f g)
