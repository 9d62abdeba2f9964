-- Readers of text: each looks at the start of a text and finds a value there, with what is left of the text, or nothing that it reads.
-- Readers are joined by `do`: one after the other, each on what the one before left. Assumes nothing.
use Rattle.std.specs.Prelude.{ℕ, true, false, List, [], ◌∷◌, eqb}
use Rattle.std.proofs.Math.Option.{Option, none, some}

-- What is found: the value and the rest of the text; or nothing.
pub data Got (A : Type 0) : Type 0 where
  got : A → List ℕ → Got A
  lost : Got A

abbrev pub Reader : Type 0 → Type 0
Reader A = List ℕ → Got A

module _ {A B : Type 0} where
  -- The next reader goes on with what was found.
  unfoldable pub onward : Got A → (A → Reader B) → Got B
  onward (got a rest) f = f a rest
  onward lost f = lost

  -- One reader, then another that knows what the first one found.
  abbrev pub ◌>>=◌ : Reader A → (A → Reader B) → Reader B
  ◌>>=◌ p f s = onward (p s) f

  -- One reader, then another.
  abbrev pub ◌>>◌ : Reader A → Reader B → Reader B
  ◌>>◌ p q s = onward (p s) (λ a. q)

-- A value that stands for no text at all.
abbrev pub pure : {A : Type 0} → A → Reader A
pure a s = got a s

-- Exactly these bytes.
unfoldable pub literal : List ℕ → Reader (Unit {0})
literal [] s = got tt s
literal (k ∷ ks) [] = lost
literal (k ∷ ks) (b ∷ bs) = elim (eqb b k) [ true ↦ literal ks bs | false ↦ lost ]

-- What was read, if nothing is left of the text.
unfoldable pub whole : {A : Type 0} → Got A → Option A
whole lost = none
whole (got a []) = some a
whole (got a (b ∷ bs)) = none
