-- Laws of what a hub reports: each answer by what the code tests, and where a reported command stands. Assumes nothing.
use Prim.Native.Nat.{ℕ, zero, suc, ◌+◌, ◌-◌, ◌*◌, ◌≤◌, ◌<◌}
use native.Mathlib.Omega.{arith}
use mathlib.Core.Path.{◌≡◌, refl, sym, ◌∙◌, ap}
use mathlib.Core.Bool.{true, false}
use mathlib.Core.List.{List, ◌++◌, map}
use mathlib.Core.Option.{Option, none, some}
use borrow.Author.Tests.{lt-ltb, le-ltb}
use lib.ListN.{length, take, drop, get_elem?}
use lib.Seq.{sets, sets-eq, drop-drop}
use Rattle.command.specs.Words.{part, word_at}
use Rattle.command.specs.Command.{Command, command_size, command_bytes, command_of}
use Rattle.command.proofs.WordsLaws.{Bytes}
use Rattle.command.proofs.CommandLaws.{command_bytes_length}
use Rattle.state.specs.State.{reported_by, reported_at}
use Rattle.rows.specs.Rows.{rows_in, entry_of}
use Rattle.state.specs.Image.{head_size, state_size, kept_in, read_kept}
use Rattle.state.specs.Head.{head_in}
use Rattle.state.specs.Check.{is_some}
use Rattle.state.proofs.LegalLaws.{legal_kept_is}
use Rattle.rows.proofs.PartLaws.{part_drop}
use Rattle.state.proofs.ImageLaws.{read_kept_sound}
use Rattle.state.proofs.ReportLaws.{reported_at_past}
use Rattle.rules.specs.Outcome.{done, bad_state, short_output, out_of_range}
use Rattle.rows.specs.declared.Words.{Words}
use Rattle.rows.specs.Words.{words_at, words_bytes}
use Rattle.rules.specs.Report.{Report, told, reporting, report_of, IsReport, counting, chosen_of}
use Rattle.promise.proofs.GateLaws.{read_kept_some, read_kept_none}
use Rattle.rows.proofs.WordsLaws.{command_in_at, command_words, duration_below}
use Rattle.promise.proofs.LostLaws.{kept_length, kept_size, kept_within}
use Rattle.kinds.specs.Sizes.{row_size}
use Rattle.kinds.specs.Packed.{packed}

-- Two answers that both satisfy the promise of a report are equal.
pub reports_unique : {a : Report} {r r' : ℕ} {out out' : List ℕ} → IsReport a r out → IsReport a r' out' → (r ≡ r') × (out ≡ out')
reports_unique p q = (p.outcome_is ∙ sym q.outcome_is, p.output_is ∙ sym q.output_is)

-- ---- the command at a place

-- The command of row i, among the first rows.
row_reported :
    (i m n : ℕ) (l : List ℕ) → i < m → m ≤ n
    → get_elem? (map (λ e. e.command) (take m (rows_in entry_of n l))) i ≡ some (command_of (part 4 command_size (drop (i * row_size) l)))
unfolding rows_in
row_reported i zero n l h k = absurd (omega arith)
row_reported i (suc m) zero l h k = absurd (omega arith)
row_reported zero (suc m) (suc n) l h k = refl
row_reported (suc i) (suc m) (suc n) l h k =
    let e : suc i * row_size ≡ row_size + i * row_size = omega arith in
    rw (e, ← drop-drop (i * row_size) row_size l) (row_reported i m n (drop row_size l) (omega arith) (omega arith))

-- ---- the answers

module _ (l out : List ℕ) (p : ℕ) where
  -- Kept parts that are not legal.
  pub reported_bad : is_some (read_kept l) ≡ false → IsReport (report_of l p out) bad_state out
  unfolding reporting
  reported_bad h = rw (read_kept_none l h) (record { outcome_is = refl; output_is = refl })

  -- Too little room.
  pub reported_short : is_some (read_kept l) ≡ true → length out < 16 → IsReport (report_of l p out) short_output out
  unfolding reporting
  reported_short h short = rw (read_kept_some l h, lt-ltb (length out) 16 short) (record { outcome_is = refl; output_is = refl })

  module _ (o : Bytes l) (h : is_some (read_kept l) ≡ true) (room : 16 ≤ length out) where
    answered : (a : Option Command) → reported_at (kept_in l) p ≡ a → report_of l p out ≡ told a out
    unfolding reporting
    answered a e = rw (read_kept_some l h, le-ltb (length out) 16 room, e)

    refused : reported_at (kept_in l) p ≡ none → IsReport (report_of l p out) out_of_range out
    unfolding told
    refused e = rw (answered none e) (record { outcome_is = refl; output_is = refl })

    chosen_is : (head_in l).chosen.0 ≡ (kept_in l).chosen
    unfolding head_in kept_in
    chosen_is = refl

    -- Place 0, or one past what is chosen.
    pub reported_outside : (1 ≤ p → p ≤ (head_in l).chosen.0 → ⊥) → IsReport (report_of l p out) out_of_range out
    unfolding reported_at
    reported_outside out = refused (not_there p out)
      where
        not_there : (p : ℕ) → (1 ≤ p → p ≤ (head_in l).chosen.0 → ⊥) → reported_at (kept_in l) p ≡ none
        not_there zero out = refl
        not_there (suc i) out = reported_at_past (kept_in l) (suc i) (omega (arith, chosen_is, out))

    chosen_within : (head_in l).chosen.0 ≤ (head_in l).length.0
    chosen_within = omega (arith, kept_length l o h, chosen_is, (legal_kept_is (kept_in l) (read_kept_sound l (kept_in l) (read_kept_some l h)).1).chosen)

    -- A place that is chosen.
    module _ (first : 1 ≤ p) (last : p ≤ (head_in l).chosen.0) where
      -- Its row lies within the bytes.
      pub reported_inside : head_size + (p - 1) * row_size + 4 + 16 ≤ length l
      unfolding state_size
      reported_inside = omega (arith, chosen_within, kept_size l o h, kept_within l o h)

      stands : reported_at (kept_in l) p ≡ some (command_of (part (head_size + (p - 1) * row_size + 4) command_size l))
      unfolding reported_at reported_by kept_in head_in
      stands =
          let i = p - 1 in
          let e : p ≡ suc i = omega arith in
          let row = row_reported i (word_at 8 4 l) (word_at 12 4 l) (drop head_size l) (omega arith) (omega (arith, chosen_within)) in
          let place = ap (part 4 command_size) (drop-drop (i * row_size) head_size l) ∙ part_drop 4 command_size (head_size + i * row_size) l in
          ap (reported_at (kept_in l)) e
          ∙ row
          ∙ ap (λ (bs : List ℕ). some (command_of bs)) place

      -- Its words are written at the start of the output.
      pub reported_done :
          {from at : ℕ} {c : Words} {out' : List ℕ} → from ≡ head_size + (p - 1) * row_size → at ≡ from + 4 → c ≡ words_at at l
          → out' ≡ sets out 0 (words_bytes c) → IsReport (report_of l p out) done out'
      unfolding told
      reported_done {c = c} efrom eat ec ew =
          let at = head_size + (p - 1) * row_size + 4 in
          let command = command_of (part at command_size l) in
          let words : words_bytes c ≡ command_bytes command =
          rw (ec, eat, efrom)
          (sym (command_words (words_at at l) (duration_below at l o reported_inside)) ∙ ap command_bytes (command_in_at at l o reported_inside)) in
          let sixteen = command_bytes_length command in
          let laid : sets out 0 (command_bytes command) ≡ command_bytes command ++ drop command_size out =
          sets-eq (command_bytes command) out 0 (omega arith) ∙ rw sixteen in
          rw (answered (some command) stands) (record { outcome_is = refl; output_is = ew ∙ rw words laid })

-- ---- how many

-- Kept parts that are not legal.
pub chosen_bad : (l : List ℕ) → is_some (read_kept l) ≡ false → chosen_of l ≡ bad_state
unfolding counting
chosen_bad l h = rw (read_kept_none l h)

-- The head's count.
pub chosen_counted : (l : List ℕ) → is_some (read_kept l) ≡ true → chosen_of l ≡ packed done (head_in l).chosen.0
unfolding counting head_in kept_in
chosen_counted l h = rw (read_kept_some l h)
