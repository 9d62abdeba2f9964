-- What is found at a place of a text, from the bytes that stand there: one law for each answer of the code, whose premises are what the
-- code's tests tell. And that a find has one answer. Assumes nothing.
use Rattle.std.specs.Prelude.{Option, Some, None}
use Rattle.std.specs.Char.{is_ascii_digit}
use Prim.Native.Nat.{ℕ, zero, suc, ◌+◌, ◌-◌, ◌*◌, ◌≤◌, ◌<◌}
use mathlib.Core.List.{List, [], ◌∷◌}
use mathlib.Core.Path.{◌≡◌, refl, ap, sym, ◌∙◌}
use native.Mathlib.Omega.{arith}
use native.Mathlib.Numerals.{add-one}
use native.Mathlib.Nat.{add-zero}
use borrow.Author.Tests.{eqb-true, eqb-false}
use mathlib.Core.Bool.{Bool, true, false}
use lib.Dec.{eqb}
use lib.ListN.{length, get_or, drop, length-drop, drop_of_length-le}
use lib.Seq.{drop-cons}
use Rattle.kinds.specs.Sizes.{between}
use Rattle.text.specs.Decimal.{is_digit, more_digits, number}
use Rattle.text.specs.Found.{Found, FoundNext, FoundNumber, IsFour}
use Rattle.text.specs.Range.{within, number_in, line_in}
use Rattle.text.specs.Reader.{Got, got, lost, onward, literal}
use Rattle.text.specs.declared.Number.{Number}
use Rattle.text.proofs.CaseLaws.{number_is, number_bad}
use Rattle.text.proofs.DecimalLaws.{more_digit, more_end, more_other, number_end, number_zero, number_first, number_other}
use Rattle.text.proofs.RangeLaws.{within_in, within_sound, more_above, number_in_lost, number_in_below, number_in_other, number_in_ended}
use Rattle.text.proofs.ReaderLaws.{got_value, got_rest, onward_got, onward_lost, onward_sound, literal_same, literal_other}

-- ---- places

-- The byte at a place, and the rest.
pub drop_next : (s : List ℕ) (i : ℕ) → i < length s → drop i s ≡ get_or s i 0 ∷ drop (i + 1) s
drop_next s i h = rw add-one (drop-cons s i 0 h)

-- Past the end there is nothing.
pub drop_past : (s : List ℕ) (i : ℕ) → length s ≤ i → drop i s ≡ []
drop_past s i h = drop_of_length-le s {i = i} h

-- One find has one value and one place.
pub found_one : {A : Type 0} {s : List ℕ} {g : Got A} {a b : A} {n m : ℕ} → Found s g a n → Found s g b m → (a ≡ b) × (n ≡ m)
found_one {s = s} {n = n} {m = m} f h =
    let e = sym f.read ∙ h.read in
    (got_value e, omega (arith, f.inside, h.inside, ap length (got_rest e), length-drop n s, length-drop m s))

-- ---- a literal

literal_short : (key s : List ℕ) → length s < length key → literal key s ≡ lost
unfolding literal
literal_short [] s h = absurd (omega arith)
literal_short (k ∷ ks) [] h = refl
literal_short (k ∷ ks) (b ∷ bs) h = go (eqb b k) refl (literal_short ks bs (omega arith))
  where
    go : (t : Bool) → eqb b k ≡ t → literal ks bs ≡ lost → literal (k ∷ ks) (b ∷ bs) ≡ lost
    go true e ih = literal_same k ks b bs (eqb-true b k e) ∙ ih
    go false e ih = literal_other k ks b bs (eqb-false b k e)

module _ (key s : List ℕ) (at : ℕ) where
  -- Fewer bytes are left than the literal has.
  pub literal_few : at ≤ length s → length s - at < length key → literal key (drop at s) ≡ lost
  literal_few h g = literal_short key (drop at s) (rw (length-drop at s) g)

-- What is found is what is found of the literal from j on in the text from i on.
module _ (key s : List ℕ) (g : Got (Unit {0})) (i j : ℕ) (so_far : g ≡ literal (drop j key) (drop i s)) where
  -- All of it stood.
  pub literal_done : length key ≤ j → i + (length key - j) ≤ length s → Found s g tt i
  unfolding literal
  literal_done h f = record { inside = omega arith; read = so_far ∙ rw (drop_past key j h) }

  module _ (p : j < length key) (room : i + (length key - j) ≤ length s) where
    next : drop i s ≡ get_or s i 0 ∷ drop (i + 1) s
    next = drop_next s i (omega arith)

    -- Another byte stands there.
    pub literal_wrong : (get_or s i 0 ≡ get_or key j 0 → ⊥) → g ≡ lost
    literal_wrong n = so_far ∙ rw (drop_next key j p, next) (literal_other _ _ _ _ n)

    -- The right one stands there.
    pub literal_again : get_or s i 0 ≡ get_or key j 0 → g ≡ literal (drop (j + 1) key) (drop (i + 1) s)
    literal_again e = so_far ∙ rw (drop_next key j p, next) (literal_same _ _ _ _ e)

-- ---- four bytes of a literal at once

module _ (key s : List ℕ) (g : Got (Unit {0})) (i j : ℕ) (so_far : g ≡ literal (drop j key) (drop i s)) where
  module _ (p : 4 ≤ length key - j) (room : i + (length key - j) ≤ length s) where
    -- The first n bytes there are the same.
    abbrev Same : ℕ → Type 0
    Same n = (k : ℕ) → k < n → get_or s (i + k) 0 ≡ get_or key (j + k) 0

    past : (n : ℕ) → n ≤ 4 → Same n → g ≡ literal (drop (j + n) key) (drop (i + n) s)
    past zero h e = simp add-zero so_far
    past (suc n) h e =
        let less = past n (omega arith) (λ k l. e k (omega arith)) in
        let more : g ≡ literal (drop (j + n + 1) key) (drop (i + n + 1) s) =
        literal_again key s g (i + n) (j + n) less (omega arith) (omega arith) (e n (omega arith)) in
        let a : j + n + 1 ≡ j + suc n = omega arith in
        let b : i + n + 1 ≡ i + suc n = omega arith in
        rw (a, b) at more

    -- And the next one too.
    one_more : (n : ℕ) → Same n → get_or s (i + n) 0 ≡ get_or key (j + n) 0 → Same (n + 1)
    one_more n same f k l = go (eqb k n) refl
      where
        go : (t : Bool) → eqb k n ≡ t → get_or s (i + k) 0 ≡ get_or key (j + k) 0
        go true q = rw (eqb-true k n q) f
        go false q = same k (omega (arith, eqb-false k n q))

    -- The next one is another, or what follows decides.
    one_other : (n : ℕ) → n < 4 → Same n → (get_or s (i + n) 0 ≡ get_or key (j + n) 0 → g ≡ lost) → g ≡ lost
    one_other n h same then = go (eqb (get_or s (i + n) 0) (get_or key (j + n) 0)) refl
      where
        go : (t : Bool) → eqb (get_or s (i + n) 0) (get_or key (j + n) 0) ≡ t → g ≡ lost
        go true q = then (eqb-true _ _ q)
        go false q = literal_wrong key s g (i + n) (j + n) (past n (omega arith) same) (omega arith) (omega arith) (eqb-false _ _ q)

    module _ (x y : ℕ) (fx : IsFour s i x) (fy : IsFour key j y) where
      -- The same number: the same bytes.
      pub four_same : x ≡ y → g ≡ literal (drop (j + 4) key) (drop (i + 4) s)
      four_same e = past 4 (omega arith) same
        where
          same : Same 4
          same zero l = simp add-zero (omega (arith, fx.number, fx.bytes, fy.number, fy.bytes))
          same (suc zero) l = omega (arith, fx.number, fx.bytes, fy.number, fy.bytes)
          same (suc (suc zero)) l = omega (arith, fx.number, fx.bytes, fy.number, fy.bytes)
          same (suc (suc (suc zero))) l = omega (arith, fx.number, fx.bytes, fy.number, fy.bytes)
          same (suc (suc (suc (suc k)))) l = absurd (omega arith)

      -- Another number: another byte.
      pub four_other : (x ≡ y → ⊥) → g ≡ lost
      four_other d = look 4 0 (omega arith) (λ k l. absurd (omega arith))
        where
          look : (left n : ℕ) → n + left ≡ 4 → Same n → g ≡ lost
          look zero n e same =
              let first : get_or s i 0 ≡ get_or key j 0 = simp add-zero at (same 0 (omega arith)) in
              absurd (d (omega (arith, fx.number, fy.number, first, same 1 (omega arith), same 2 (omega arith), same 3 (omega arith))))
          look (suc left) n e same = one_other n (omega arith) same (λ f. look left (n + 1) (omega arith) (one_more n same f))

-- What is found of the rest is what is found of all.
pub literal_rest : (s : List ℕ) (g h : Got (Unit {0})) (r : Option ℕ) → g ≡ h → FoundNext s h r → FoundNext s g r
literal_rest s g h r e f = rw e f

-- ---- digits

-- A byte is a digit, as the code asks it.
pub digit_asked : (b : ℕ) (t : Bool) → t ≡ is_ascii_digit b → is_digit b ≡ t
unfolding between
digit_asked b t e = sym e

module _ (s : List ℕ) (at u hi v i : ℕ) (so_far : more_digits u (drop at s) ≡ more_digits v (drop i s)) where
  ends : v ≤ hi → i ≤ length s → more_digits v (drop i s) ≡ got v (drop i s) → Found s (onward (more_digits u (drop at s)) (within 0 hi)) v i
  ends h g e =
      record { inside = g; read = onward_got (within 0 hi) (so_far ∙ e) ∙ within_in 0 hi v (drop i s) (omega arith) h }

  -- The text ends.
  pub digits_end : v ≤ hi → i ≤ length s → length s ≤ i → Found s (onward (more_digits u (drop at s)) (within 0 hi)) v i
  digits_end h g p = ends h g (rw (drop_past s i p) (more_end v))

  module _ (h : v ≤ hi) (p : i < length s) where
    stops : is_digit (get_or s i 0) ≡ false → Found s (onward (more_digits u (drop at s)) (within 0 hi)) v i
    stops e = ends h (omega arith) (rw (drop_next s i p) (more_other _ _ v e))

    -- A byte that is no digit.
    pub digits_stop : (t : Bool) → t ≡ is_ascii_digit (get_or s i 0) → t ≡ false → Found s (onward (more_digits u (drop at s)) (within 0 hi)) v i
    digits_stop t a n = stops (digit_asked (get_or s i 0) t a ∙ n)

  module _ (p : i < length s) (t : Bool) (a : t ≡ is_ascii_digit (get_or s i 0)) (n : t ≡ true) (w : ℕ) (e : w ≡ get_or s i 0 - 48) where
    -- One more digit.
    pub digits_again : more_digits u (drop at s) ≡ more_digits (v * 10 + w) (drop (i + 1) s)
    digits_again = so_far ∙ rw (e, drop_next s i p) (more_digit _ _ v (digit_asked (get_or s i 0) t a ∙ n))

    -- With it the number is too large.
    pub digits_over : hi < v * 10 + w → onward (more_digits u (drop at s)) (within 0 hi) ≡ lost
    digits_over o = rw digits_again (more_above hi (v * 10 + w) (drop (i + 1) s) o)

  -- With any digit more it is.
  pub digits_far
      : i < length s
      → (t : Bool)
      → t ≡ is_ascii_digit (get_or s i 0)
      → t ≡ true
      → hi < v * 10
      → onward (more_digits u (drop at s)) (within 0 hi) ≡ lost
  digits_far p t a n o = digits_over p t a n (get_or s i 0 - 48) refl (omega arith)

-- ---- a number

module _ (s : List ℕ) (at hi : ℕ) where
  -- The text ends.
  pub number_none : length s ≤ at → onward (number (drop at s)) (within 0 hi) ≡ lost
  number_none h = onward_lost (within 0 hi) (rw (drop_past s at h) number_end)

  module _ (p : at < length s) where
    -- The digit 0.
    pub number_nought : get_or s at 0 ≡ 48 → Found s (onward (number (drop at s)) (within 0 hi)) 0 (at + 1)
    number_nought e =
        record {
          inside = omega arith;
          read = onward_got (within 0 hi) (rw (drop_next s at p) (number_zero _ _ e)) ∙ within_in 0 hi 0 (drop (at + 1) s) (omega arith) (omega arith);
        }

    -- A byte that is no digit.
    pub number_stop : (t : Bool) → t ≡ is_ascii_digit (get_or s at 0) → t ≡ false → onward (number (drop at s)) (within 0 hi) ≡ lost
    number_stop t a n = onward_lost (within 0 hi) (rw (drop_next s at p) (number_other _ _ (digit_asked (get_or s at 0) t a ∙ n)))

    module _
        (t : Bool) (a : t ≡ is_ascii_digit (get_or s at 0)) (m : t ≡ true)
        (n : get_or s at 0 ≡ 48 → ⊥) (u : ℕ) (e : u ≡ get_or s at 0 - 48)
      where
        first : number (drop at s) ≡ more_digits u (drop (at + 1) s)
        first = rw (e, drop_next s at p) (number_first _ _ (digit_asked (get_or s at 0) t a ∙ m) n)

        -- Another digit, too large by itself.
        pub number_over : hi < u → onward (number (drop at s)) (within 0 hi) ≡ lost
        number_over o = rw first (more_above hi u (drop (at + 1) s) o)

        -- Another digit: the number is made by those behind it.
        pub number_digits
            : (r : Option Number)
            → FoundNumber s (onward (more_digits u (drop (at + 1) s)) (within 0 hi)) r
            → FoundNumber s (onward (number (drop at s)) (within 0 hi)) r
        number_digits r f = rw first f

-- ---- a number and the byte that ends it

module _ (s : List ℕ) (at lo hi end : ℕ) (r : Option Number) (found : FoundNumber s (onward (number (drop at s)) (within 0 hi)) r) where
  -- There was no number.
  pub in_none : r ≡ None → number_in lo hi end (drop at s) ≡ lost
  in_none e = number_in_lost lo hi end (drop at s) (number_bad s _ r found e)

  module _ (x : Number) (e : r ≡ Some x) where
    was : Found s (onward (number (drop at s)) (within 0 hi)) x.value x.next
    was = number_is s _ r found x e

    it : (number (drop at s) ≡ got x.value (drop x.next s)) × (x.value ≤ hi)
    it =
        let f = onward_sound was.read in
        let w = within_sound 0 hi f.value f.left f.next in
        (f.first ∙ w.0, omega (arith, got_value w.0))

    -- The number is below the range.
    pub in_below : x.value < lo → number_in lo hi end (drop at s) ≡ lost
    in_below l = number_in_below lo hi end (drop at s) x.value (drop x.next s) it.0 l

    -- The text ends behind the number.
    pub in_end : length s ≤ x.next → number_in lo hi end (drop at s) ≡ lost
    unfolding literal
    in_end h = number_in_other lo hi end (drop at s) x.value (drop x.next s) it.0 (rw (drop_past s x.next h))

    module _ (h : x.next < length s) where
      -- Another byte stands behind the number.
      pub in_other : (get_or s x.next 0 ≡ end → ⊥) → number_in lo hi end (drop at s) ≡ lost
      in_other d =
          number_in_other lo hi end (drop at s) x.value (drop x.next s) it.0
          (rw (drop_next s x.next h) (literal_other end [] (get_or s x.next 0) (drop (x.next + 1) s) d))

      -- The number lies in the range, and the byte ends it.
      pub in_right : get_or s x.next 0 ≡ end → lo ≤ x.value → Found s (number_in lo hi end (drop at s)) x.value (x.next + 1)
      unfolding literal
      in_right d l =
          record {
            inside = omega arith;
            read =
                number_in_ended lo hi end (drop at s) x.value (drop x.next s) it.0
                (rw (drop_next s x.next h) (literal_same end [] (get_or s x.next 0) (drop (x.next + 1) s) d))
                ∙ within_in lo hi x.value (drop (x.next + 1) s) l it.1;
          }

-- ---- a line

-- Its key stands there, and its number is read behind it.
pub line_number
    : (key s : List ℕ) (at lo hi : ℕ) {p : ℕ}
    → Found s (literal key (drop at s)) tt p
    → (x : Option Number)
    → FoundNumber s (number_in lo hi 10 (drop p s)) x
    → FoundNumber s (line_in key lo hi (drop at s)) x
unfolding line_in onward
line_number key s at lo hi stands x f = rw stands.read f
