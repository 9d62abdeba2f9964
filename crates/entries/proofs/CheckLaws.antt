-- An entry line that is checked: what is found of it up to the first part that is none, and where that is wrong. Assumes nothing.
use Prim.Native.Nat.{◌+◌, ◌-◌, ◌<◌, ◌≤◌, ℕ}
use borrow.Author.Tests.{eqb-true, eqb-false}
use lib.Dec.{eqb}
use lib.ListN.{drop, get_or, length}
use mathlib.Core.Bool.{Bool, false, true}
use mathlib.Core.List.{List}
use mathlib.Core.Path.{◌∙◌, ◌≡◌, ap, refl, subst, sym}
use native.Mathlib.Omega.{arith}
use Rattle.std.specs.Prelude.{Result, Ok, Err}
use Rattle.kinds.proofs.BetweenLaws.{between_above}
use Rattle.kinds.proofs.BoolLaws.{not_both}
use Rattle.command.specs.Command.{command_of, legal_command}
use Rattle.command.specs.Entry.{Entry}
use Rattle.command.proofs.Tests.{by_test}
use Rattle.digits.specs.Digits.{legal_digits}
use Rattle.digits.proofs.TextLaws.{Stand, found_stand, legal_lost_lem, legal_got}
use Rattle.text.proofs.ReaderLaws.{onward_got, onward_lost, onward_never}
use Rattle.text.specs.Found.{Found}
use Rattle.text.specs.Hex.{hex_bytes}
use Rattle.text.specs.Line.{LF}
use Rattle.text.specs.Range.{number_in}
use Rattle.text.specs.Reader.{Got, got, literal, lost, onward}
use Rattle.message.specs.Range.{entry_in, legal_only}
use Rattle.message.specs.Text.{entry=}
use Rattle.begins.specs.Seek.{Seeker, found, on, rest_of, seek_literal}
use Rattle.begins.specs.Digits.{seek_number}
use Rattle.begins.specs.Entries.{seek_command, seek_entry}
use Rattle.begins.proofs.AgreeLaws.{rest_lost, rest_got}
use Rattle.begins.proofs.Seeks.{Seeks, seeks_literal}
use Rattle.begins.proofs.NumberLaws.{seeks_number}
use Rattle.seek.specs.Spotted.{Ends, Missed, ReadNumber, ReadText}
use Rattle.seek.proofs.SoughtLaws.{ends_same, read_is, read_wrong, rest_told_two, text_missed, text_read}
use Rattle.seek.specs.declared.Wrong.{Wrong}
use Rattle.commandplace.specs.Passed.{seek_tail}
use Rattle.entries.specs.Found.{term_of, tail_in, FoundTail}
use Rattle.text.specs.declared.Number.{Number}
use Rattle.entries.proofs.LineLaws.{end_stands, end_other, end_past}

entry_in_parts : (low high : ℕ) (s : List ℕ) → entry_in low high s ≡ onward (literal entry= s) (λ z t. onward (number_in low high 58 t) tail_in)
unfolding entry_in
entry_in_parts low high s = refl

legal_only_lost : (e : Entry) (s : List ℕ) → legal_command e.command ≡ false → legal_only e s ≡ lost
unfolding legal_only
legal_only_lost e s h = simp (h, legal_only)

legal_only_got : (e : Entry) (s : List ℕ) → legal_command e.command ≡ true → legal_only e s ≡ got e s
unfolding legal_only
legal_only_got e s h = simp (h, legal_only)

module _ (s : List ℕ) (x n : ℕ) where
  -- Digits stand there, or they do not.
  by_digits : {P : Type 0} → (hex_bytes 16 (drop n s) ≡ lost → P) → (Stand s n → P) → P
  by_digits {P} none some = go (hex_bytes 16 (drop n s)) refl
    where
      go : (g : Got (List ℕ)) → hex_bytes 16 (drop n s) ≡ g → P
      go lost e = none e
      go (got bs rest) e = some (found_stand s n bs rest e)

  -- Where they stand, the end of the line is behind them.
  from_stand : (f : Stand s n) → tail_in x (drop n s) ≡ onward (literal LF (drop (n + 32) s)) (λ z. legal_only (record { term = x; command = command_of f.bytes }))
  from_stand f = onward_got _ f.read

  -- Too little is left of the text.
  ended_few : length s - n < 33 → tail_in x (drop n s) ≡ lost
  ended_few h = by_digits (λ e. onward_lost _ e) (λ f. from_stand f ∙ onward_lost _ (end_past s (n + 32) (omega (arith, f.room))))

  -- The digits are not those of a legal command.
  ended_not : legal_digits (drop n s) ≡ false → tail_in x (drop n s) ≡ lost
  ended_not h =
      by_digits (λ e. onward_lost _ e)
      (λ f.
      let not-legal = sym (legal_got (drop n s) f.read) ∙ h in
      from_stand f ∙ onward_never (literal LF (drop (n + 32) s)) _ (λ z v. legal_only_lost _ v not-legal))

  module _ (room : n + 33 ≤ length s) where
    -- The line does not end there.
    ended_other : (get_or s (n + 32) 0 ≡ 10 → ⊥) → tail_in x (drop n s) ≡ lost
    ended_other h = by_digits (λ e. onward_lost _ e) (λ f. from_stand f ∙ onward_lost _ (end_other s (n + 32) h (omega arith)))

    -- It does.
    ended_legal : legal_digits (drop n s) ≡ true → get_or s (n + 32) 0 ≡ 10 → term_of (tail_in x (drop n s)) ≡ got x (drop (n + 33) s)
    ended_legal h e =
        let past : n + 32 + 1 ≡ n + 33 = omega arith in
        let end : literal LF (drop (n + 32) s) ≡ got tt (drop (n + 33) s) = rw past at (end_stands s (n + 32) e (omega arith)) in
        by_digits (λ l. absurd (not_both _ h (legal_lost_lem (drop n s) l)))
        (λ f.
        let is : Entry = record { term = x; command = command_of f.bytes } in
        let line : tail_in x (drop n s) ≡ got is (drop (n + 33) s) =
        from_stand f ∙ onward_got _ end ∙ legal_only_got is (drop (n + 33) s) (sym (legal_got (drop n s) f.read) ∙ h) in
        onward_got _ line)

-- ---- whether they stand there: one law for each answer of the code

module _ (s : List ℕ) (n : ℕ) where
  -- Too little is left of the text.
  pub tail_few : length s - n < 33 → FoundTail s n false
  tail_few h x = ended_few s x n h

  module _ (room : 33 ≤ length s - n) (k : Bool) (test : k ≡ legal_digits (drop n s)) where
    -- No digits of a legal command.
    pub tail_not : k ≡ false → FoundTail s n k
    tail_not h = rw h (λ x. ended_not s x n (sym test ∙ h))

    -- The byte behind them decides.
    pub tail_byte : k ≡ true → FoundTail s n (eqb (get_or s (n + 32) 0) 10)
    tail_byte h =
        by_test (eqb (get_or s (n + 32) 0) 10)
        (λ e. rw e (λ x. record { inside = omega arith; read = ended_legal s x n (omega arith) (sym test ∙ h) (eqb-true _ _ e) }))
        (λ e. rw e (λ x. ended_other s x n (omega arith) (eqb-false _ _ e)))

-- Where they stand, they are read, and the line ends inside the text.
module _ (s : List ℕ) (n : ℕ) (t : Bool) (tail : FoundTail s n t) (h : t ≡ true) where
  tail_stands : (term : ℕ) → Found s (term_of (tail_in term (drop n s))) term (n + 33)
  tail_stands = subst (FoundTail s n) h tail

  pub tail_inside : n + 33 ≤ length s
  tail_inside = (tail_stands 0).inside

-- ---- a line: one law for each answer of the code

-- What is sought behind an entry's term.
abbrev after_term : ℕ → Seeker Entry
after_term term r = on (seek_command r) (λ c q. on (seek_literal LF q) (λ a. found (record { term = term; command = c })))

module _ (s : List ℕ) (at low high : ℕ) (r : Result ℕ Wrong) (key : ReadText s (literal entry= (drop at s)) (seek_literal entry= (drop at s)) r) where
  -- What the code's answer says of the line.
  abbrev Told : Result Number Wrong → Type 0
  Told = ReadNumber s (term_of (entry_in low high (drop at s))) (seek_entry low high (drop at s))

  -- Another key stands there: its first wrong byte is that of the line.
  pub entry-no-key : {w : Wrong} → r ≡ Err w → {x : Result Number Wrong} → x ≡ Err w → Told x
  unfolding seek_entry
  entry-no-key e is =
      let missed = text_missed s _ _ r key e in
      rw is (record {
        refused = onward_lost _ (entry_in_parts low high (drop at s) ∙ onward_lost _ missed.refused);
        ends =
            ends_same
            (rest_lost (literal entry=) (seek_literal entry=) (seeks_literal entry=) (λ a t. on (seek_number low high 58 t) after_term) (drop at s) missed.refused)
            missed.ends;
      })

  module _ {p : ℕ} (e : r ≡ Ok p) where
    there : Found s (literal entry= (drop at s)) tt p
    there = text_read s _ _ r key e

    -- The key ends inside the text.
    pub key_inside : p ≤ length s
    key_inside = there.inside

    module _
        (open-range : low ≤ high) (q : Result Number Wrong)
        (number : ReadNumber s (number_in low high 58 (drop p s)) (seek_number low high 58 (drop p s)) q)
      where
        seeks_term : Seeks (number_in low high 58) (seek_number low high 58)
        seeks_term = seeks_number low high 58 open-range (between_above 48 57 58 (omega arith))

        behind_key : entry_in low high (drop at s) ≡ onward (number_in low high 58 (drop p s)) tail_in
        behind_key = entry_in_parts low high (drop at s) ∙ onward_got _ there.read

        sought_key : rest_of (seek_entry low high (drop at s)) ≡ rest_of (on (seek_number low high 58 (drop p s)) after_term)
        unfolding seek_entry
        sought_key =
            rest_got (literal entry=) (seek_literal entry=) (seeks_literal entry=) (λ a t. on (seek_number low high 58 t) after_term) (drop at s) there.read

        -- No term of the range: its first wrong byte is that of the line.
        pub entry-no-term : {w : Wrong} → q ≡ Err w → {x : Result Number Wrong} → x ≡ Err w → Told x
        entry-no-term b is =
            let missed = read_wrong s _ _ q number b in
            rw is (record {
              refused = onward_lost _ (behind_key ∙ onward_lost _ missed.refused);
              ends =
                  ends_same
                  (sought_key ∙ rest_lost (number_in low high 58) (seek_number low high 58) seeks_term after_term (drop p s) missed.refused)
                  missed.ends;
            })

        module _ {v : Number} (i : q ≡ Ok v) where
          term : Found s (number_in low high 58 (drop p s)) v.value v.next
          term = read_is s _ _ q number i

          -- The term ends inside the text.
          pub term_inside : v.next ≤ length s
          term_inside = term.inside

          behind_term : entry_in low high (drop at s) ≡ tail_in v.value (drop v.next s)
          behind_term = behind_key ∙ onward_got _ term.read

          module _ (t : Bool) (tail : FoundTail s v.next t) where
            -- No legal command, or the line does not end there: the first wrong byte of these is that of the line.
            pub entry-no-tail
                : t ≡ false
                → {m : ℕ}
                → Ends s (seek_tail (drop v.next s)) m
                → Missed s (term_of (entry_in low high (drop at s))) (seek_entry low high (drop at s)) m
            entry-no-tail h ends =
                let none : (x : ℕ) → tail_in x (drop v.next s) ≡ lost = subst (FoundTail s v.next) h tail in
                record {
                  refused = onward_lost _ (behind_term ∙ none v.value);
                  ends =
                      ends_same
                      (sought_key
                      ∙ rest_got (number_in low high 58) (seek_number low high 58) seeks_term after_term (drop p s) term.read
                      ∙ rest_told_two (λ c a. record { term = v.value; command = c }) (λ c. seek_literal LF) (seek_command (drop v.next s)))
                      ends;
                }

            -- They stand there.
            pub entry_is : t ≡ true → Found s (term_of (entry_in low high (drop at s))) v.value (v.next + 33)
            entry_is h =
                let held = tail_stands s v.next t tail h v.value in
                record { inside = held.inside; read = ap term_of behind_term ∙ held.read }
