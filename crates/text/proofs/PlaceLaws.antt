-- There is one place of a first wrong byte. Assumes nothing.
use Prim.Native.Nat.{ℕ, ◌<◌}
use native.Mathlib.Omega.{arith}
use mathlib.Core.List.{List}
use mathlib.Core.Path.{◌≡◌}
use Rattle.text.specs.Place.{IsPlace}

module _ {B : List ℕ → Type 0} (s : List ℕ) where
  -- No place is before another: with the byte there the text would begin one, and begin none.
  not_before : (p q : ℕ) → IsPlace B s p → IsPlace B s q → p < q → ⊥
  not_before p q x y h = x.wrong (omega (arith, h, y.inside)) (y.before p h)

  -- So there is one.
  pub place_one : (p q : ℕ) → IsPlace B s p → IsPlace B s q → p ≡ q
  place_one p q x y = omega (arith, not_before p q x y, not_before q p y x)
