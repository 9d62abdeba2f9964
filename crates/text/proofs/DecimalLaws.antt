-- What a number's text is, and that a number is read exactly where its one text stands. Assumes nothing.
use Prim.Native.Nat.{ℕ, zero, suc, ◌+◌, ◌-◌, ◌*◌, ◌/◌, ◌%◌, ◌^◌, ◌≤◌, ◌<◌}
use mathlib.Core.Bool.{Bool, true, false}
use mathlib.Core.List.{List, [], ◌∷◌, ◌++◌, append_assoc}
use mathlib.Core.Path.{◌≡◌, refl, ap, ap₂, sym, ◌∙◌}
use native.Mathlib.Omega.{arith}
use native.Mathlib.Nat.{pow-suc}
use lib.Dec.{ltb, eqb}
use lib.ListN.{length, get_or, length-append}
use borrow.Author.Tests.{lt-ltb, le-ltb, ltb-true, ltb-false, eq-eqb, ne_eqb, eqb-true, eqb-false}
use Rattle.text.specs.Decimal.{zero_digit, is_digit, digits, decimal, more_digits, number}
use Rattle.text.specs.Reader.{got, lost}
use Rattle.kinds.proofs.BetweenLaws.{between_in, between_true}
use Rattle.text.proofs.ReaderLaws.{got_value, got_rest, lost_never}

-- ---- the text

-- A number below ten is its one digit, whatever the count.
digits_one : (k x : ℕ) → x < 10 → digits (suc k) x ≡ (zero_digit + x) ∷ []
unfolding digits
digits_one k x h = simp (lt-ltb x 10 h, digits)

-- Any other number is the digits of its tenth, and its last digit.
digits_more : (k x : ℕ) → 10 ≤ x → digits (suc k) x ≡ digits k (x / 10) ++ ((zero_digit + x % 10) ∷ [])
unfolding digits
digits_more k x h = simp (le-ltb x 10 h, digits)

-- Any count above the number gives the same digits.
digits_same : (k m x : ℕ) → x < k → x < m → digits k x ≡ digits m x
digits_same zero m x h g = absurd (omega arith)
digits_same (suc k) zero x h g = absurd (omega arith)
digits_same (suc k) (suc m) x h g = go (ltb x 10) refl (λ p. digits_same k m (x / 10) (omega arith) (omega arith))
  where
    go : (t : Bool) → ltb x 10 ≡ t → (10 ≤ x → digits k (x / 10) ≡ digits m (x / 10)) → digits (suc k) x ≡ digits (suc m) x
    go true e ih = let p : x < 10 = ltb-true x 10 e in digits_one k x p ∙ sym (digits_one m x p)
    go false e ih =
        let p : 10 ≤ x = ltb-false x 10 e in
        digits_more k x p ∙ ap (λ (l : List ℕ). l ++ ((zero_digit + x % 10) ∷ [])) (ih p) ∙ sym (digits_more m x p)

-- A number below ten is its one digit.
pub decimal_one : (x : ℕ) → x < 10 → decimal x ≡ (zero_digit + x) ∷ []
unfolding decimal
decimal_one x h = digits_one x x h

-- Any other number is the text of its tenth, and its last digit.
pub decimal_more : (x : ℕ) → 10 ≤ x → decimal x ≡ decimal (x / 10) ++ ((zero_digit + x % 10) ∷ [])
unfolding decimal
decimal_more x h =
    digits_more x x h
    ∙ ap (λ (l : List ℕ). l ++ ((zero_digit + x % 10) ∷ [])) (digits_same x (suc (x / 10)) (x / 10) (omega arith) (omega arith))

-- It has one digit more than its tenth.
pub length_more : (x : ℕ) → 10 ≤ x → length (decimal x) ≡ length (decimal (x / 10)) + 1
length_more x h = ap length (decimal_more x h) ∙ simp length-append

-- A number is below ten, or not.
by_ten : {P : Type 0} (x : ℕ) → (x < 10 → P) → (10 ≤ x → P) → P
by_ten {P} x f g = go (ltb x 10) refl
  where
    go : (t : Bool) → ltb x 10 ≡ t → P
    go true e = f (ltb-true x 10 e)
    go false e = g (ltb-false x 10 e)

-- A text has a digit.
pub decimal_some : (x : ℕ) → 1 ≤ length (decimal x)
decimal_some x = by_ten x (λ h. omega (arith, ap length (decimal_one x h))) (λ h. omega (arith, length_more x h))

-- A number below 10 ^ (k + 1) has at most k + 1 digits.
pub decimal_length : (k x : ℕ) → x < 10 ^ suc k → length (decimal x) ≤ suc k
decimal_length zero x h = omega (arith, ap length (decimal_one x h))
decimal_length (suc k) x h = go (decimal_length k (x / 10) (omega (arith, rw pow-suc at h)))
  where
    go : length (decimal (x / 10)) ≤ suc k → length (decimal x) ≤ suc (suc k)
    go r = by_ten x (λ p. omega (arith, ap length (decimal_one x p))) (λ p. omega (arith, length_more x p))

-- A number of 32 bits has at most ten digits.
pub decimal_ten : (x : ℕ) → x ≤ 4_294_967_295 → length (decimal x) ≤ 10
decimal_ten x h = decimal_length 9 x (omega arith)

-- ---- reading, byte by byte

-- Whether a byte is a digit, as an order.
pub is_digit_lem : (b : ℕ) → is_digit b ≡ true → (48 ≤ b) × (b ≤ 57)
is_digit_lem b e = between_true 48 57 b e

-- One of the ten digits is a digit.
pub digit_is : (b : ℕ) → 48 ≤ b → b ≤ 57 → is_digit b ≡ true
digit_is b p q = between_in 48 57 b p q

-- At the end of the text the number ends.
pub more_end : (v : ℕ) → more_digits v [] ≡ got v []
unfolding more_digits
more_end v = refl

-- Nothing is no number.
pub number_end : number [] ≡ lost
unfolding number
number_end = refl

module _ (b : ℕ) (bs : List ℕ) where
  -- One more digit.
  pub more_digit : (v : ℕ) → is_digit b ≡ true → more_digits v (b ∷ bs) ≡ more_digits (v * 10 + (b - zero_digit)) bs
  unfolding more_digits
  more_digit v e = simp (e, more_digits)

  -- At another byte the number ends.
  pub more_other : (v : ℕ) → is_digit b ≡ false → more_digits v (b ∷ bs) ≡ got v (b ∷ bs)
  unfolding more_digits
  more_other v e = simp (e, more_digits)

  -- A first digit 0 is the number 0.
  pub number_zero : b ≡ zero_digit → number (b ∷ bs) ≡ got 0 bs
  unfolding number
  number_zero e = simp (digit_is b (omega arith) (omega arith), eq-eqb b zero_digit e, number)

  -- Another first digit.
  pub number_first : is_digit b ≡ true → (b ≡ zero_digit → ⊥) → number (b ∷ bs) ≡ more_digits (b - zero_digit) bs
  unfolding number
  number_first e n = simp (e, ne_eqb b zero_digit n, number)

  -- What begins with no digit is no number.
  pub number_other : is_digit b ≡ false → number (b ∷ bs) ≡ lost
  unfolding number
  number_other e = simp (e, number)

-- ---- written, then read

-- The digits of a number above 0 make its value.
pub number_lead : (k x : ℕ) (q : List ℕ) → x < k → 1 ≤ x → number (decimal x ++ q) ≡ more_digits x q
number_lead zero x q h p = absurd (omega arith)
number_lead (suc k) x q h p = go (λ r. number_lead k (x / 10) ((zero_digit + x % 10) ∷ q) (omega arith) r)
  where
    go : (1 ≤ x / 10 → number (decimal (x / 10) ++ ((zero_digit + x % 10) ∷ q)) ≡ more_digits (x / 10) ((zero_digit + x % 10) ∷ q)) → number (decimal x ++ q) ≡ more_digits x q
    go ih =
        by_ten x
        (λ g.
        rw (decimal_one x g)
        (number_first (48 + x) q (digit_is (48 + x) (omega arith) (omega arith)) (λ z. omega arith) ∙ ap (λ (n : ℕ). more_digits n q) (omega arith)))
        (λ g.
        rw (decimal_more x g, append_assoc)
        (ih (omega arith)
        ∙ more_digit (48 + x % 10) q (x / 10) (digit_is (48 + x % 10) (omega arith) (omega arith))
        ∙ ap (λ (n : ℕ). more_digits n q) (omega arith)))

-- A number ends before what is no digit.
pub more_ends : (v : ℕ) (rest : List ℕ) → is_digit (get_or rest 0 0) ≡ false → more_digits v rest ≡ got v rest
more_ends v [] e = more_end v
more_ends v (b ∷ bs) e = more_other b bs v e

-- What was written is read back, where no digit follows.
pub number_written : (x : ℕ) (rest : List ℕ) → is_digit (get_or rest 0 0) ≡ false → number (decimal x ++ rest) ≡ got x rest
number_written x rest e = go (eqb x 0) refl
  where
    go : (t : Bool) → eqb x 0 ≡ t → number (decimal x ++ rest) ≡ got x rest
    go true z = rw (eqb-true x 0 z, decimal_one 0 (omega arith)) (number_zero 48 rest refl)
    go false z = number_lead (suc x) x rest (omega arith) (omega (arith, eqb-false x 0 z)) ∙ more_ends x rest e

-- ---- read, so written

-- One more digit behind a text.
decimal_digit : (v b : ℕ) → 1 ≤ v → 48 ≤ b → b ≤ 57 → decimal (v * 10 + (b - 48)) ≡ decimal v ++ (b ∷ [])
decimal_digit v b p l h =
    decimal_more (v * 10 + (b - 48)) (omega arith) ∙ ap₂ (λ (a c : ℕ). decimal a ++ (c ∷ [])) (omega arith) (omega arith)

-- The digits that follow those of v are the rest of the text of what is read.
pub more_sound : (v : ℕ) (s : List ℕ) {x : ℕ} {rest : List ℕ} → 1 ≤ v → more_digits v s ≡ got x rest → decimal v ++ s ≡ decimal x ++ rest
more_sound v [] p e = let f = sym (more_end v) ∙ e in ap₂ (λ (y : ℕ) (l : List ℕ). decimal y ++ l) (got_value f) (got_rest f)
more_sound v (b ∷ bs) {x} {rest} p e = go (is_digit b) refl (λ q f. more_sound (v * 10 + (b - 48)) bs q f)
  where
    go
        : (t : Bool)
        → is_digit b ≡ t
        → (1 ≤ v * 10 + (b - 48) → more_digits (v * 10 + (b - 48)) bs ≡ got x rest → decimal (v * 10 + (b - 48)) ++ bs ≡ decimal x ++ rest)
        → decimal v ++ (b ∷ bs) ≡ decimal x ++ rest
    go true d ih =
        let w : (48 ≤ b) × (b ≤ 57) = is_digit_lem b d in
        sym (append_assoc (decimal v) (b ∷ []) bs)
        ∙ ap (λ (y : List ℕ). y ++ bs) (sym (decimal_digit v b p w.0 w.1))
        ∙ ih (omega arith) (sym (more_digit b bs v d) ∙ e)
    go false d ih = let f = sym (more_other b bs v d) ∙ e in ap₂ (λ (y : ℕ) (l : List ℕ). decimal y ++ l) (got_value f) (got_rest f)

-- What is read is the one text of its value.
pub number_sound : (s : List ℕ) {x : ℕ} {rest : List ℕ} → number s ≡ got x rest → s ≡ decimal x ++ rest
number_sound [] e = absurd (lost_never (sym number_end ∙ e))
number_sound (b ∷ bs) {x} {rest} e = go (is_digit b) refl (eqb b 48) refl
  where
    go : (t : Bool) → is_digit b ≡ t → (u : Bool) → eqb b 48 ≡ u → b ∷ bs ≡ decimal x ++ rest
    go false d u o = absurd (lost_never (sym (number_other b bs d) ∙ e))
    go true d true o =
        let z : b ≡ 48 = eqb-true b 48 o in
        let f = sym (number_zero b bs z) ∙ e in
        ap₂ (λ (c : ℕ) (l : List ℕ). c ∷ l) z (got_rest f)
        ∙ sym (ap (λ (y : ℕ). decimal y ++ rest) (sym (got_value f)) ∙ rw (decimal_one 0 (omega arith)))
    go true d false o =
        let w : (48 ≤ b) × (b ≤ 57) = is_digit_lem b d in
        let n : b ≡ 48 → ⊥ = eqb-false b 48 o in
        sym (rw (decimal_one (b - 48) (omega arith)) (ap (λ (c : ℕ). c ∷ bs) (omega arith)))
        ∙ more_sound (b - 48) bs (omega (arith, n)) (sym (number_first b bs d n) ∙ e)
