-- An entry line: its parts one after the other, and what is found of one that stands there. Assumes nothing.
use Prim.Native.Nat.{◌+◌, ◌<◌, ◌≤◌, ℕ}
use borrow.Author.Tests.{eqb-true, eqb-false, ltb-true, ltb-false}
use lib.Dec.{eqb, ltb}
use lib.ListN.{drop, get_or, length, length-drop}
use lib.Seq.{drop-drop}
use mathlib.Core.List.{List, [], ◌++◌}
use mathlib.Core.Path.{◌∙◌, ◌≡◌, ap, refl, sym}
use native.Mathlib.Omega.{arith}
use Rattle.kinds.specs.Sizes.{term_most}
use Rattle.kinds.specs.Of.{term}
use Rattle.command.specs.Command.{Command, command_of}
use Rattle.command.specs.Entry.{Entry}
use Rattle.command.specs.Words.{part}
use Rattle.command.proofs.Tests.{by_test}
use Rattle.command.proofs.WordsLaws.{part_last}
use Rattle.rows.specs.Words.{command_in}
use Rattle.rows.specs.declared.Words.{Words}
use Rattle.rows.proofs.WordsLaws.{command_in_at}
use Rattle.digits.specs.Found.{FoundWords}
use Rattle.digits.proofs.TextLaws.{Stand, read_stand}
use Rattle.text.proofs.CaseLaws.{number_is, number_bad}
use Rattle.text.proofs.FoundLaws.{drop_next, drop_past}
use Rattle.text.proofs.HexLaws.{hex_sound}
use Rattle.text.proofs.ReaderLaws.{literal_other, literal_same, literal_sound, onward-assoc, onward_got, onward_lost}
use Rattle.text.specs.Found.{Found, FoundNumber}
use Rattle.text.specs.Hex.{hex_bytes}
use Rattle.text.specs.Line.{LF}
use Rattle.text.specs.Range.{number_in}
use Rattle.text.specs.Reader.{Got, got, literal, lost, onward, pure}
use Rattle.message.specs.Range.{entry_in, legal_only}
use Rattle.message.specs.Text.{entry=}
use Rattle.message.specs.Walk.{entry_line}
use Rattle.kinds.specs.declared.Term.{Term}
use Rattle.text.specs.declared.Number.{Number}
use Rattle.std.specs.Prelude.{Option, Some, None, IsSome}

-- ---- a line, and what is behind its parts

-- An entry is one whose command is looked at afterwards.
pub entry_in_line : (low high : ℕ) (s : List ℕ) → entry_in low high s ≡ onward (entry_line low high s) legal_only
unfolding entry_in entry_line onward
entry_in_line low high s = sym (simp onward-assoc)

-- The end of a line whose entry this is.
abbrev ended : Entry → List ℕ → Got Entry
ended e s = onward (literal LF s) (λ z. pure e)

-- The digits of a command and the end of its line.
abbrev digits_ended : ℕ → List ℕ → Got Entry
digits_ended x s = onward (hex_bytes 16 s) (λ bs. ended (record { term = x; command = command_of bs }))

entry_line_parts : (low high : ℕ) (s : List ℕ) → entry_line low high s ≡ onward (literal entry= s) (λ z t. onward (number_in low high 58 t) digits_ended)
unfolding entry_line
entry_line_parts low high s = refl

-- ---- the end of a line

module _ (s : List ℕ) (n : ℕ) where
  -- It stands there;
  pub end_stands : get_or s n 0 ≡ 10 → n < length s → literal LF (drop n s) ≡ got tt (drop (n + 1) s)
  unfolding literal
  end_stands e h = rw (drop_next s n h) (literal_same 10 [] (get_or s n 0) (drop (n + 1) s) e)

  -- another byte stands there;
  pub end_other : (get_or s n 0 ≡ 10 → ⊥) → n < length s → literal LF (drop n s) ≡ lost
  end_other e h = rw (drop_next s n h) (literal_other 10 [] (get_or s n 0) (drop (n + 1) s) e)

  -- the text has ended.
  pub end_past : length s ≤ n → literal LF (drop n s) ≡ lost
  unfolding literal
  end_past h = rw (drop_past s n h)

-- ---- a line that stands there

module _ (s : List ℕ) (at : ℕ) (stands : entry_line 1 term_most (drop at s) ≡ lost → ⊥) where
  key_stands : (literal entry= (drop at s) ≡ got tt (drop (at + 6) s)) × (at + 6 ≤ length s)
  unfolding entry_line
  key_stands = go (literal entry= (drop at s)) refl
    where
      go : (g : Got (Unit {0})) → literal entry= (drop at s) ≡ g → (literal entry= (drop at s) ≡ got tt (drop (at + 6) s)) × (at + 6 ≤ length s)
      go (got tt rest) e =
          let split : drop at s ≡ entry= ++ rest = literal_sound entry= (drop at s) e in
          let here : drop (at + 6) s ≡ rest = sym (drop-drop 6 at s) ∙ ap (drop 6) split in
          (rw here e, omega (arith, ap length split, length-drop at s))
      go lost e = absurd (stands (onward_lost _ e))

  from_key : entry_line 1 term_most (drop at s) ≡ onward (number_in 1 term_most 58 (drop (at + 6) s)) digits_ended
  from_key = entry_line_parts 1 term_most (drop at s) ∙ onward_got _ key_stands.0

  -- Its key ends inside the text.
  pub stands_key : at + 6 ≤ length s
  stands_key = key_stands.1

  module _ (q : Option Number) (found : FoundNumber s (number_in 1 term_most 58 (drop (at + 6) s)) q) where
    -- A term stands behind it.
    pub stands_term : IsSome q
    stands_term = by q refl
      where
        by : (o : Option Number) → q ≡ o → IsSome o
        by None e = absurd (stands (from_key ∙ onward_lost _ (number_bad s _ q found e)))
        by (Some v) e = refl

    module _ {v : Number} (e : q ≡ Some v) where
      abbrev x : ℕ
      x = v.value

      abbrev n : ℕ
      n = v.next

      from_term : entry_line 1 term_most (drop at s) ≡ digits_ended x (drop n s)
      from_term = from_key ∙ onward_got _ (number_is s _ q found v e).read

      digits_stand : Stand s n
      digits_stand = read_stand s n (λ l. stands (from_term ∙ onward_lost _ l))

      -- The digits of its command stand behind its term.
      pub stands_digits : (n + 32 ≤ length s) × (hex_bytes 16 (drop n s) ≡ lost → ⊥)
      stands_digits = (digits_stand.room, λ l. stands (from_term ∙ onward_lost _ l))

      module _ (c : Words) (words : FoundWords s n c) where
        -- The command of its words.
        command_is_lem : command_of words.bytes ≡ command_in c
        command_is_lem =
            let f = hex_sound 16 (drop n s) words.found.read in
            let all : part 0 16 words.bytes ≡ words.bytes = part_last 0 16 words.bytes (omega (arith, f.count)) in
            sym (ap command_in words.words_are ∙ command_in_at 0 words.bytes f.bytes (omega (arith, f.count)) ∙ ap command_of all)

        from_digits : entry_line 1 term_most (drop at s) ≡ ended (record { term = x; command = command_in c }) (drop (n + 32) s)
        from_digits = from_term ∙ onward_got _ words.found.read ∙ ap (λ (k : Command). ended (record { term = x; command = k }) (drop (n + 32) s)) command_is_lem

        -- And the line ends behind them.
        end_there : (get_or s (n + 32) 0 ≡ 10) × (n + 32 < length s)
        end_there =
            by_test (ltb (n + 32) (length s))
            (λ t.
            let inside = ltb-true _ _ t in
            by_test (eqb (get_or s (n + 32) 0) 10) (λ u. (eqb-true _ _ u, inside))
            (λ u. absurd (stands (from_digits ∙ onward_lost _ (end_other s (n + 32) (eqb-false _ _ u) inside)))))
            (λ t. absurd (stands (from_digits ∙ onward_lost _ (end_past s (n + 32) (ltb-false _ _ t)))))

        -- The entry of the line.
        pub stands_line : {t : Term} → t ≡ term x →
            Found s (entry_line 1 term_most (drop at s)) (record { term = t.0; command = command_in c }) (n + 33)
        stands_line {t} e =
            let end = end_stands s (n + 32) end_there.0 end_there.1 in
            let past : n + 32 + 1 ≡ n + 33 = omega arith in
            record {
              inside = omega (arith, end_there.1);
              read =
                  rw past at (from_digits ∙ onward_got _ end)
                  ∙ ap (λ (y : ℕ). got (record { term = y; command = command_in c }) (drop (n + 33) s)) (sym (ap (λ (z : Term). z.0) e));
            }
