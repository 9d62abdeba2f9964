-- Laws of `put`. Assumes nothing.
use mathlib.Core.Path.{◌≡◌, refl}
use mathlib.Core.Logic.{◌≢◌}
use Prim.Native.Nat.{ℕ}
use native.Mathlib.Decide.{ℕ_discrete}
use Rattle.paxos.specs.Put.{choose, put}

-- Whatever holds of the new value, and of each old one elsewhere, holds of every value.
pub put_cases :
    {A : Type 0} (P : ℕ → A → Type 0) (f : ℕ → A) (h : ℕ) (x : A)
    → P h x → ((g : ℕ) → g ≢ h → P g (f g)) → (g : ℕ) → P g (put f h x g)
unfolding put
put_cases P f h x new old g = by (ℕ_discrete g h)
  where
    by : (d : Dec (g ≡ h)) → P g (choose d x (f g))
    by (yes e) = rw e new
    by (no ne) = old g ne

-- The value at the changed number.
pub put_same : {A : Type 0} (f : ℕ → A) (h : ℕ) (x : A) → put f h x h ≡ x
put_same f h x = put_cases (λ g y. g ≡ h → y ≡ x) f h x (λ e. refl) (λ g ne e. absurd (ne e)) h refl

-- The value at any other.
pub put_other : {A : Type 0} (f : ℕ → A) (h : ℕ) (x : A) (g : ℕ) → g ≢ h → put f h x g ≡ f g
put_other f h x = put_cases (λ g y. g ≢ h → y ≡ f g) f h x (λ ne. absurd (ne refl)) (λ g ne ne'. refl)

-- Two functions changed at the same number: whatever holds of the new values, and of each two old ones elsewhere, holds of every two.
pub put_both :
    {A B : Type 0} (P : ℕ → A → B → Type 0) (f : ℕ → A) (k : ℕ → B) (h : ℕ) (x : A) (y : B)
    → P h x y → ((g : ℕ) → g ≢ h → P g (f g) (k g)) → (g : ℕ) → P g (put f h x g) (put k h y g)
put_both P f k h x y new old =
    put_cases (λ g z. P g z (put k h y g)) f h x (rw (put_same k h y) new) (λ g ne. rw (put_other k h y g ne) (old g ne))
