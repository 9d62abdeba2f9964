-- Entry lines that stand in a text: one line after the other, and the part of a message that was read. Assumes nothing.
use Prim.Native.Nat.{ℕ, ◌-◌, ◌≤◌, ◌<◌}
use native.Mathlib.Omega.{arith}
use mathlib.Core.Path.{◌≡◌, refl, sym, ◌∙◌, ap}
use mathlib.Core.Bool.{Bool, true, false}
use mathlib.Core.List.{List, [], ◌∷◌, ◌++◌, append-nil}
use mathlib.Core.Option.{some}
use lib.ListN.{length, drop}
use Rattle.kinds.specs.Sizes.{between, term_most}
use Rattle.kinds.proofs.BetweenLaws.{between_in}
use Rattle.text.specs.Found.{Found}
use Rattle.text.specs.Reader.{got, lost}
use Rattle.text.proofs.ReaderLaws.{got_value, got_rest, lost_never, onward_got, onward_sound}
use Rattle.command.specs.Command.{legal_command}
use Rattle.command.specs.Entry.{Entry, legal_entries}
use Rattle.command.proofs.CommandLaws.{legal_ranged}
use Rattle.command.proofs.EntryLaws.{legal_entries_first, legal_entries_wider}
use Rattle.message.specs.Message.{Message, entries_of}
use Rattle.message.specs.Text.{entry_text, entries_text, entries, read, part_from}
use Rattle.message.specs.Range.{legal_only, entry_in}
use Rattle.message.specs.Walk.{entry_line, entries_from, Lie}
use Rattle.entries.proofs.LineLaws.{entry_in_line}
use Rattle.message.proofs.LegalLaws.{legal_held}
use Rattle.message.proofs.TextLaws.{entry_written, entries_written}
use Rattle.message.proofs.RangeLaws.{keep_if, entry_in_is}
use Rattle.message.proofs.ReadLaws.{entries_ranged, read_sound, part_entries}

-- ---- one line

module _ (e : Entry) (term_in : between 1 term_most e.term ≡ true) (legal : legal_command e.command ≡ true) where
  -- It is read by its range.
  in_range : (rest : List ℕ) → entry_in 1 term_most (entry_text e ++ rest) ≡ got e rest
  unfolding keep_if
  in_range rest = entry_in_is 1 term_most (entry_text e ++ rest) ∙ onward_got _ (entry_written e (legal_ranged e.command legal) rest) ∙ rw (term_in, legal)

  only : (x : Entry) (q rest : List ℕ) → legal_only x q ≡ got e rest → (x ≡ e) × (q ≡ rest)
  unfolding legal_only
  only x q rest h = go (legal_command x.command) h
    where
      go : (b : Bool) → elim (b) [ true ↦ got x q | false ↦ lost ] ≡ got e rest → (x ≡ e) × (q ≡ rest)
      go true h = (got_value h, got_rest h)
      go false h = absurd (lost_never h)

  -- And by a walk, which looks at the term alone.
  pub line_of : (rest : List ℕ) → entry_line 1 term_most (entry_text e ++ rest) ≡ got e rest
  line_of rest =
      let w = onward_sound {g = entry_line 1 term_most (entry_text e ++ rest)} {f = legal_only} (sym (entry_in_line 1 term_most (entry_text e ++ rest)) ∙ in_range rest) in
      let o = only w.value w.left rest w.next in
      w.first ∙ ap (λ (x : Entry). got x w.left) o.0 ∙ ap (λ (q : List ℕ). got e q) o.1

module _
    (s : List ℕ) (e : Entry) (es : List Entry) (here : s ≡ entries_text (e ∷ es)) (low : ℕ) (from_one : 1 ≤ low)
    (legal : legal_entries low term_most (e ∷ es) ≡ true)
  where
    -- The first line is read.
    stood : entry_line 1 term_most s ≡ got e (entries_text es)
    unfolding entries_text
    stood =
        let f = legal_entries_first low term_most e es legal in
        rw here (line_of e (between_in 1 term_most e.term (omega (arith, f.from)) f.to) f.command (entries_text es))

-- ---- all lines

-- What lines of legal entries say.
entries_from_lem : (low high : ℕ) (es : List Entry) → legal_entries low high es ≡ true → entries_from (length es) (entries_text es) ≡ es
unfolding entries_from
entries_from_lem low high es h =
    let g : entries (length es) (entries_text es) ≡ got es [] = rw append-nil at (entries_written es (entries_ranged low high es h) []) in
    rw (g, entries_from)

-- No line is left.
pub lie_none : (n : ℕ) (s : List ℕ) → Lie n s → n ≤ 0 → entries_from n s ≡ []
lie_none n s lie h = empty (entries_from n s) (omega (arith, lie.count_is))
  where
    empty : (es : List Entry) → length es ≤ 0 → es ≡ []
    empty [] h = refl
    empty (e ∷ es) h = absurd (omega arith)

-- What a walk finds where n lines stand: the first entry, and one line less behind it.
pub record Walked (s : List ℕ) (n : ℕ) (e : Entry) (next : ℕ) : Type 0 where
  pub entries_are : entries_from n s ≡ e ∷ entries_from (n - 1) (drop next s)
  pub lie : Lie (n - 1) (drop next s)

module _ (s : List ℕ) (n : ℕ) (lie : Lie n s) (more : 0 < n) where
  -- A line stands there.
  pub lie_there : entry_line 1 term_most s ≡ lost → ⊥
  lie_there h = go (entries_from n s) lie.text_is lie.count_is lie.legal
    where
      go : (es : List Entry) → s ≡ entries_text es → length es ≡ n → legal_entries 1 term_most es ≡ true → ⊥
      go [] here size legal = omega arith
      go (e ∷ es) here size legal = lost_never (sym h ∙ stood s e es here 1 (omega arith) legal)

  -- It is the one that is found.
  pub lie_next : {e : Entry} {next : ℕ} → Found s (entry_line 1 term_most s) e next → Walked s n e next
  lie_next {e} {next} found = go (entries_from n s) refl lie.text_is lie.count_is lie.legal
    where
      go : (es : List Entry) → entries_from n s ≡ es → s ≡ entries_text es → length es ≡ n → legal_entries 1 term_most es ≡ true → Walked s n e next
      go [] are here size legal = absurd (omega arith)
      go (x ∷ es) are here size legal =
          let first = legal_entries_first 1 term_most x es legal in
          let same = sym (stood s x es here 1 (omega arith) legal) ∙ found.read in
          let behind : drop next s ≡ entries_text es = sym (got_rest same) in
          let others-legal = legal_entries_wider x.term 1 term_most term_most es first.from (omega arith) first.rest in
          let one_less : n - 1 ≡ length es = omega arith in
          let others : entries_from (n - 1) (drop next s) ≡ es = rw (one_less, behind) (entries_from_lem 1 term_most es others-legal) in
          record {
            entries_are = rw (others, ← got_value same) are;
            lie = record { text_is = behind ∙ ap entries_text (sym others); count_is = ap length others ∙ sym one_less; legal = rw others others-legal };
          }

-- ---- the part of a message

-- The part of a message's text that holds its entry lines, and what they say.
pub record Follow (s : List ℕ) (m : Message) : Type 0 where
  pub entries_are : entries_from (length (entries_of m.body)) (drop (part_from s (some m)) s) ≡ entries_of m.body
  pub lie : Lie (length (entries_of m.body)) (drop (part_from s (some m)) s)

pub part_follow : (s : List ℕ) (m : Message) → read s ≡ some m → Follow s m
part_follow s m h =
    let es = entries_of m.body in
    let own = (legal_held m (read_sound s m h).legal).own in
    let text = part_entries s m h in
    let are : entries_from (length es) (drop (part_from s (some m)) s) ≡ es =
    ap (entries_from (length es)) text ∙ entries_from_lem own.low own.high es own.entries_legal in
    record {
      entries_are = are;
      lie = record {
        text_is = text ∙ ap entries_text (sym are);
        count_is = ap length are;
        legal = rw are (legal_entries_wider own.low 1 own.high term_most es own.low_first own.high_most own.entries_legal);
      };
    }
