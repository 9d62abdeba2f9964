-- Two different constructors are equal: from that anything follows. Assumes nothing.
use mathlib.Core.Path.{◌≡◌}
use Prim.Native.Nat.{ℕ}
use native.Mathlib.Omega.{arith}

-- Written `clash (cc)`: `cc` finds the two constructors.
pub clash : {P : Type 0} → ◌≡◌ {A = ℕ} 0 1 → P
clash z = absurd (omega arith)
