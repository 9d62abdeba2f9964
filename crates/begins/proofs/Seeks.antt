-- A reader and its seeker: something can be read, and the seeker is exact. They join as readers do. Assumes nothing.
use Prim.Native.Nat.{ℕ}
use mathlib.Core.Path.{◌≡◌, sym, ◌∙◌, ap, subst}
use mathlib.Core.List.{List, [], append-nil}
use Rattle.text.specs.Reader.{got, Reader, pure, literal, ◌>>=◌}
use Rattle.text.proofs.ReaderLaws.{Reads}
use Rattle.begins.specs.Seek.{found, Seeker, on, seek_literal}
use Rattle.begins.proofs.Exact.{Opens, Exact, opens_before, exact_then, exact_pure, opens_pure, exact_literal, opens_literal}

pub record Seeks {A : Type 0} (p : Reader A) (g : Seeker A) : Type 0 where
  pub opens : Opens p []
  pub exact : (s : List ℕ) → Exact p s (g s)

-- What reads a text reads it alone.
pub reads_alone : {A : Type 0} (p : Reader A) (t : List ℕ) {a : A} → Reads p t a → p t ≡ got a []
reads_alone p t h = ap p (sym (append-nil t)) ∙ h []

-- One behind the other: whatever the first reads can be followed.
pub seeks_then : {A B : Type 0} (p : Reader A) (f : A → Reader B) (g : Seeker A) (h : A → Seeker B) →
    Seeks p g → ((a : A) (t : List ℕ) → p t ≡ got a [] → Seeks (f a) (h a)) → Seeks (◌>>=◌ p f) (λ s. on (g s) h)
seeks_then p f g h x y =
    let o = x.opens in
    record {
      opens = opens_before p f [] o (y o.value o.more (reads_alone p o.more o.reads)).opens;
      exact =
          λ s.
          exact_then p f s h (g s) (x.exact s) (λ a t r. (y a t (reads_alone p t r)).opens)
          (λ a t r q. (y a t (reads_alone p t r)).exact q);
    }

pub seeks_pure : {A : Type 0} (a : A) → Seeks (pure a) (found a)
seeks_pure a = record { opens = opens_pure a; exact = exact_pure a }

pub seeks_literal : (k : List ℕ) → Seeks (literal k) (seek_literal k)
seeks_literal k = record { opens = opens_literal k; exact = exact_literal k }

-- A reader that reads the same.
pub seeks_same : {A : Type 0} (p q : Reader A) (g : Seeker A) → ((s : List ℕ) → p s ≡ q s) → Seeks p g → Seeks q g
seeks_same {A} p q g e x = subst (λ (r : Reader A). Seeks r g) (λ i s. e s i) x
