-- Beginnings of legal texts, and the place of the first wrong byte, by their meaning (rule R46). Places count from 0. Assumes nothing.
use Rattle.std.specs.Prelude.{ℕ, suc, ◌≤◌, ◌<◌, Bool, true, List, [], ◌∷◌, ◌++◌, ◌≡◌, length, take}
use Rattle.kinds.specs.Sizes.{between}
use Rattle.text.specs.Decimal.{decimal}

-- s begins something legal: the text of some legal thing starts with s.
pub record Begins {A : Type 0} (legal : A → Bool) (write : A → List ℕ) (s : List ℕ) : Type 0 where
  pub thing : A
  pub is_legal : legal thing ≡ true
  pub rest : List ℕ
  pub starts : write thing ≡ s ++ rest

-- p is the least place of s such that the text up to and with the byte there begins none; the length of s, if there is no such place.
-- (B tells what begins one.)
pub record IsPlace (B : List ℕ → Type 0) (s : List ℕ) (p : ℕ) : Type 0 where
  pub inside : p ≤ length s
  pub before : (q : ℕ) → q < p → B (take (suc q) s)
  pub wrong : p < length s → B (take (suc p) s) → ⊥

-- s begins a number of lo..hi with the byte that ends it.
abbrev pub BeginsNumber : ℕ → ℕ → ℕ → List ℕ → Type 0
BeginsNumber lo hi end = Begins (between lo hi) (λ n. decimal n ++ (end ∷ []))
