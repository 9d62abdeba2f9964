-- Texts set one behind the other are their whole set at once, and what each turn of the writers' loops leaves. Assumes nothing.
use Prim.Native.Nat.{ℕ, suc, ◌+◌, ◌*◌, ◌/◌, ◌%◌, ◌≤◌, ◌<◌}
use mathlib.Core.List.{List, [], ◌∷◌, ◌++◌}
use mathlib.Core.Path.{◌≡◌, refl, ap, sym, ◌∙◌}
use native.Mathlib.Omega.{arith}
use native.Mathlib.Numerals.{add-one}
use native.Mathlib.Nat.{add-zero}
use lib.ListN.{length, get_or, take, set}
use lib.Seq.{sets, take-suc, length-take-le, take_all}
use Rattle.text.specs.Hex.{hex_digit, hex}
use Rattle.text.specs.Wrote.{Wrote}
use Rattle.text.proofs.HexLaws.{hex_length}

-- ---- one write behind another

-- Two texts set one behind the other are their whole set at once.
pub sets_append : (a b l : List ℕ) (i : ℕ) → sets l i (a ++ b) ≡ sets (sets l i a) (i + length a) b
sets_append [] b l i = rw add-zero
sets_append (x ∷ a) b l i =
    sets_append a b (set l i x) (suc i) ∙ ap (λ (n : ℕ). sets (sets (set l i x) (suc i) a) n b) (omega arith)

-- ---- bytes

module _ (l key : List ℕ) (at j i : ℕ) (m : List ℕ) (e : i ≡ at + j) (f : m ≡ sets l at (take j key)) where
  -- One more byte.
  pub put_again : j < length key → set m i (get_or key j 0) ≡ sets l at (take (j + 1) key)
  put_again p =
      rw (e, f, add-one, take-suc key j 0 p)
      (sym
      (sets_append (take j key) (get_or key j 0 ∷ []) l at
      ∙ ap (λ (n : ℕ). set (sets l at (take j key)) (at + n) (get_or key j 0)) (length-take-le j key (omega arith))))

-- ---- hex digits

-- The digits of one more byte.
hex_snoc : (l : List ℕ) (b : ℕ) → hex (l ++ (b ∷ [])) ≡ hex l ++ (hex_digit (b / 16) ∷ hex_digit (b % 16) ∷ [])
unfolding hex
hex_snoc [] b = refl
hex_snoc (c ∷ l) b = ap (λ (r : List ℕ). hex_digit (c / 16) ∷ hex_digit (c % 16) ∷ r) (hex_snoc l b)

-- There is room for all digits.
pub hex_room : (l bs : List ℕ) (at : ℕ) → at + length (hex bs) ≤ length l → at + 2 * length bs ≤ length l
hex_room l bs at r = omega (arith, r, hex_length bs)

module _ (l bs : List ℕ) (at j i : ℕ) (m : List ℕ) (e : i ≡ at + 2 * j) (f : m ≡ sets l at (hex (take j bs))) where
  -- Two more digits.
  pub hex_again
      : j < length bs
      → (high low : ℕ)
      → high ≡ hex_digit (get_or bs j 0 / 16)
      → low ≡ hex_digit (get_or bs j 0 % 16)
      → set (set m i high) (i + 1) low ≡ sets l at (hex (take (j + 1) bs))
  hex_again p high low eh el =
      let n : at + length (hex (take j bs)) ≡ i = omega (arith, e, hex_length (take j bs), length-take-le j bs (omega arith)) in
      rw (add-one j, add-one i, take-suc bs j 0 p, hex_snoc, ← eh, ← el)
      (sym (sets_append (hex (take j bs)) (high ∷ low ∷ []) l at ∙ rw (n, ← f)))

  -- All of them.
  pub hex_done : j ≤ length bs → length bs ≤ j → Wrote l at (hex bs) i m
  hex_done h g =
      record { to = omega (arith, e, hex_length bs); text = f ∙ ap (λ (t : List ℕ). sets l at (hex t)) (take_all j bs g) }
