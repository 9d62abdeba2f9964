-- Seekers: readers that, where they find nothing, hand back the text from its first wrong byte on. They are joined by `do` as readers are.
-- That the byte is the wrong one by its meaning (text/specs/Place) is a law. Assumes nothing.
use Rattle.std.specs.Prelude.{ℕ, ◌-◌, true, false, List, [], ◌∷◌, eqb, length}

-- What is sought: the value and the rest of the text; or the text from its first wrong byte on, empty where the text ends too soon.
pub data Sought (A : Type 0) : Type 0 where
  found : A → List ℕ → Sought A
  wrong : List ℕ → Sought A

abbrev pub Seeker : Type 0 → Type 0
Seeker A = List ℕ → Sought A

module _ {A B : Type 0} where
  -- The next seeker goes on with what was found.
  unfoldable pub on : Sought A → (A → Seeker B) → Sought B
  on (found a rest) f = f a rest
  on (wrong rest) f = wrong rest

  -- One seeker, then another that knows what the first one found.
  abbrev pub ◌>>=◌ : Seeker A → (A → Seeker B) → Seeker B
  ◌>>=◌ p f s = on (p s) f

  -- One seeker, then another.
  abbrev pub ◌>>◌ : Seeker A → Seeker B → Seeker B
  ◌>>◌ p q s = on (p s) (λ a. q)

-- What is left: behind the value, or from the first wrong byte on.
unfoldable pub rest_of : {A : Type 0} → Sought A → List ℕ
rest_of (found a rest) = rest
rest_of (wrong rest) = rest

-- The place of the first wrong byte, or that behind what was found.
unfoldable pub place_of : {A : Type 0} → Seeker A → List ℕ → ℕ
place_of p s = length s - length (rest_of (p s))

-- Exactly these bytes.
unfoldable pub seek_literal : List ℕ → Seeker (Unit {0})
seek_literal [] s = found tt s
seek_literal (k ∷ ks) [] = wrong []
seek_literal (k ∷ ks) (b ∷ bs) = elim (eqb b k) [ true ↦ seek_literal ks bs | false ↦ wrong (b ∷ bs) ]
