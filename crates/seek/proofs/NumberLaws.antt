-- What is sought of a decimal number, from the bytes that stand at a place: one law for each answer of the code, whose premises are what the code's
-- tests and calls tell. Assumes nothing.
use Rattle.std.specs.Prelude.{Result, Ok, Err}
use Rattle.std.specs.Char.{is_ascii_digit}
use Prim.Native.Nat.{ℕ, ◌+◌, ◌-◌, ◌*◌, ◌≤◌, ◌<◌}
use native.Mathlib.Omega.{arith}
use mathlib.Core.Bool.{Bool, true, false, ◌&&◌}
use mathlib.Core.List.{List, [], ◌∷◌}
use mathlib.Core.Path.{◌≡◌, refl, sym, ◌∙◌}
use lib.Dec.{eqb}
use lib.ListN.{length, get_or, drop}
use borrow.Author.Tests.{eq-eqb, ne_eqb}
use Rattle.kinds.specs.Sizes.{between}
use Rattle.kinds.proofs.BoolLaws.{cond_either}
use Rattle.text.specs.Decimal.{is_digit}
use Rattle.text.specs.declared.Number.{Number}
use Rattle.text.proofs.FoundLaws.{drop_next, drop_past, digit_asked}
use Rattle.begins.specs.Seek.{Sought, found, wrong, on, seek_literal}
use Rattle.begins.specs.Digits.{grows, seek_end, seek_more, seek_number}
use Rattle.seek.specs.Spotted.{At, SpottedText, SpottedNumber, ended_at}
use Rattle.seek.specs.declared.Wrong.{Wrong}
use Rattle.command.proofs.Tests.{by_test}
use Rattle.seek.proofs.SoughtLaws.{text_is, text_wrong, wrong_first, found_first}

-- ---- behind the digits of v

-- What is sought is what is sought from i on, behind the digits of v.
module _ (s : List ℕ) (g : Sought ℕ) (lo hi end v i : ℕ) (so_far : g ≡ seek_more lo hi end v (drop i s)) where
  -- The text ends.
  pub more_out : i ≤ length s → length s ≤ i → At s g wrong i
  unfolding seek_more
  more_out h p = record { inside = h; is = so_far ∙ rw (drop_past s i p) }

  module _ (p : i < length s) where
    -- A byte that is no digit.
    pub more_stop
        : (t : Bool)
        → t ≡ is_ascii_digit (get_or s i 0)
        → t ≡ false
        → (r : Result Number Wrong)
        → r ≡ ended_at (get_or s i 0) i lo hi end v
        → SpottedNumber s g r
    unfolding seek_more ended_at
    more_stop t a m r e =
        let no : is_digit (get_or s i 0) ≡ false = digit_asked _ t a ∙ m in
        rw e
        (cond_either (SpottedNumber s g) (eqb (get_or s i 0) end && between lo hi v)
        (λ q. record { inside = omega arith; is = so_far ∙ rw (drop_next s i p, no, q, seek_more) })
        (λ q. record { inside = omega arith; is = so_far ∙ rw (drop_next s i p, no, q, seek_more) }))

    module _
        (t : Bool) (a : t ≡ is_ascii_digit (get_or s i 0)) (m : t ≡ true)
        (x : ℕ) (e : x ≡ get_or s i 0 - 48) (k : Bool) (b : k ≡ grows hi lo hi (v * 10 + x))
      where
        digit : is_digit (get_or s i 0) ≡ true
        digit = digit_asked _ t a ∙ m

        -- A digit, but no number of the range begins so.
        pub more_wrong : k ≡ false → At s g wrong i
        unfolding seek_more
        more_wrong n =
            let f : grows hi lo hi (v * 10 + (get_or s i 0 - 48)) ≡ false = rw (← e) (sym b ∙ n) in
            record { inside = omega arith; is = so_far ∙ rw (drop_next s i p, digit, f, seek_more) }

        -- A digit more.
        pub more_again : k ≡ true → g ≡ seek_more lo hi end (v * 10 + x) (drop (i + 1) s)
        unfolding seek_more
        more_again n =
            let f : grows hi lo hi (v * 10 + (get_or s i 0 - 48)) ≡ true = rw (← e) (sym b ∙ n) in
            so_far ∙ rw (drop_next s i p, digit, f, e, seek_more)

-- ---- behind the digit 0

-- The byte that ends the number is sought as a literal is.
end_sought : (end : ℕ) (s : List ℕ) → seek_end end s ≡ on (seek_literal (end ∷ []) s) (λ a. found 0)
unfolding seek_end seek_literal on
end_sought end [] = refl
end_sought end (b ∷ bs) = by_test (eqb b end) (λ e. rw (e, seek_end, seek_literal)) (λ e. rw (e, seek_end, seek_literal))

module _ (s : List ℕ) (at end : ℕ) (x : Result ℕ Wrong) (h : SpottedText s (seek_literal (end ∷ []) (drop at s)) x) where
  -- It does not stand there.
  pub end_wrong : {w : Wrong} → x ≡ Err w → At s (seek_end end (drop at s)) wrong w.place
  end_wrong e = rw end_sought (wrong_first (λ a. found 0) (text_wrong s _ x h e))

  -- It does.
  pub end_right : {n : ℕ} → x ≡ Ok n → At s (seek_end end (drop at s)) (found 0) n
  unfolding on
  end_right e = let l = text_is s _ x h e in record { inside = l.inside; is = end_sought end (drop at s) ∙ found_first (λ a. found 0) l }

-- ---- a number

module _ (s : List ℕ) (at lo hi end : ℕ) where
  abbrev G : Sought ℕ
  G = seek_number lo hi end (drop at s)

  -- The text ends.
  pub number_out : length s ≤ at → at ≤ length s → At s G wrong at
  unfolding seek_number
  number_out p q = record { inside = q; is = rw (drop_past s at p) }

  module _ (p : at < length s) where
    -- A byte that is no digit.
    pub number_stop : (t : Bool) → t ≡ is_ascii_digit (get_or s at 0) → t ≡ false → At s G wrong at
    unfolding seek_number
    number_stop t a m =
        let no : is_digit (get_or s at 0) ≡ false = digit_asked _ t a ∙ m in
        record { inside = omega arith; is = rw (drop_next s at p, no, seek_number) }

    module _ (t : Bool) (a : t ≡ is_ascii_digit (get_or s at 0)) (m : t ≡ true) where
      starts : is_digit (get_or s at 0) ≡ true
      starts = digit_asked _ t a ∙ m

      module _ (z : get_or s at 0 ≡ 48) where
        -- The digit 0, where the range has none.
        pub number_no_zero : (lo ≡ 0 → ⊥) → At s G wrong at
        unfolding seek_number
        number_no_zero n = record { inside = omega arith; is = rw (drop_next s at p, starts, eq-eqb _ _ z, ne_eqb _ _ n, seek_number) }

        -- The digit 0: the byte behind it decides.
        pub number_zero : lo ≡ 0 → (r : Result Number Wrong) → SpottedNumber s (seek_end end (drop (at + 1) s)) r → SpottedNumber s G r
        unfolding seek_number
        number_zero n r h = rw (drop_next s at p, starts, eq-eqb _ _ z, eq-eqb _ _ n, seek_number) h

      module _ (z : get_or s at 0 ≡ 48 → ⊥) (x : ℕ) (e : x ≡ get_or s at 0 - 48) (k : Bool) (b : k ≡ grows hi lo hi x) where
        -- Another digit, but no number of the range begins so.
        pub number_wrong : k ≡ false → At s G wrong at
        unfolding seek_number
        number_wrong n =
            let f : grows hi lo hi (get_or s at 0 - 48) ≡ false = rw (← e) (sym b ∙ n) in
            record { inside = omega arith; is = rw (drop_next s at p, starts, ne_eqb _ _ z, f, seek_number) }

        -- Another digit: the bytes behind it decide.
        pub number_more : k ≡ true → (r : Result Number Wrong) → SpottedNumber s (seek_more lo hi end x (drop (at + 1) s)) r → SpottedNumber s G r
        unfolding seek_number
        number_more n r h =
            let f : grows hi lo hi (get_or s at 0 - 48) ≡ true = rw (← e) (sym b ∙ n) in
            rw (drop_next s at p, starts, ne_eqb _ _ z, f, ← e, seek_number) h
