-- What an answer says once its case is known, and that an answer without a value says that nothing was found. Assumes nothing.
use Rattle.std.specs.Prelude.{Option, Some, None}
use Prim.Native.Nat.{ℕ}
use mathlib.Core.List.{List}
use mathlib.Core.Path.{◌≡◌, subst}
use Rattle.text.specs.Found.{Found, FoundNext, FoundNumber}
use Rattle.text.specs.Reader.{Got, lost}
use Rattle.text.specs.declared.Number.{Number}

-- A place past a text.
module _ (s : List ℕ) (g : Got (Unit {0})) (r : Option ℕ) (found : FoundNext s g r) where
  -- It was found.
  pub next_at : (n : ℕ) → r ≡ Some n → Found s g tt n
  next_at n e = subst (λ (a : Option ℕ). FoundNext s g a) e found

  -- There is none.
  pub next_bad : r ≡ None → g ≡ lost
  next_bad e = subst (λ (a : Option ℕ). FoundNext s g a) e found

-- A number.
module _ (s : List ℕ) (g : Got ℕ) (r : Option Number) (found : FoundNumber s g r) where
  -- It was found.
  pub number_is : (x : Number) → r ≡ Some x → Found s g x.value x.next
  number_is x e = subst (λ (a : Option Number). FoundNumber s g a) e found

  -- There is none.
  pub number_bad : r ≡ None → g ≡ lost
  number_bad e = subst (λ (a : Option Number). FoundNumber s g a) e found

-- ---- nothing was found, as `?` passes it on

pub next_lost : (s : List ℕ) (g : Got (Unit {0})) (r : Option ℕ) → r ≡ None → g ≡ lost → FoundNext s g r
next_lost s g r n e = rw n e

pub number_lost : (s : List ℕ) (g : Got ℕ) (r : Option Number) → r ≡ None → g ≡ lost → FoundNumber s g r
number_lost s g r n e = rw n e
