-- Laws of a hub as it stands: where the row of a place of its log lies, and the term there. Assumes nothing.
use Prim.Native.Nat.{ℕ, zero, suc, ◌+◌, ◌-◌, ◌*◌, ◌≤◌, ◌<◌}
use native.Mathlib.Omega.{arith}
use mathlib.Core.Path.{◌≡◌, refl, sym, ◌∙◌, ap}
use mathlib.Core.List.{List, ◌∷◌, map}
use lib.ListN.{length, drop, get_or}
use Rattle.kinds.specs.Sizes.{Who, row_size}
use Rattle.command.specs.Words.{word_at}
use Rattle.command.specs.Entry.{Entry}
use Rattle.rows.specs.Rows.{rows_in, entry_of}
use Rattle.rows.proofs.PartLaws.{word_at_drop}
use Rattle.state.specs.declared.Head.{Head}
use Rattle.state.specs.Image.{head_size, state_size, kept_in, state_in}
use Rattle.state.specs.Head.{head_in}
use Rattle.rules.specs.Events.{term_at}
use Rattle.promise.specs.Append.{Tested}
use Rattle.promise.proofs.PromiseLaws.{ready_size}
use Rattle.promise.proofs.LostLaws.{rows_within}

-- The number of row i, among n rows.
row_term : (i n : ℕ) (l : List ℕ) → i < n → get_or (map (λ e. e.term) (rows_in entry_of n l)) i 0 ≡ word_at (i * row_size) 4 l
unfolding rows_in
row_term i zero l h = absurd (omega arith)
row_term zero (suc n) l h = refl
row_term (suc i) (suc n) l h =
    let e : suc i * row_size ≡ row_size + i * row_size = omega arith in
    row_term i n (drop row_size l) (omega arith) ∙ word_at_drop (i * row_size) 4 row_size l ∙ rw e

-- There is no entry at place 0.
pub term_at_none : (log : List Entry) {p : ℕ} → p ≡ 0 → term_at log p ≡ 0
unfolding term_at
term_at_none log e = rw e

module _ (w : Who) (h : Head) (l : List ℕ) (t : Tested w h l) (p : ℕ) (first : 1 ≤ p) (last : p ≤ h.length.0) where
  -- A place of the log has its row within the bytes.
  pub tested_inside : head_size + (p - 1) * row_size + 4 ≤ length l
  unfolding state_size
  tested_inside = omega (arith, ready_size w l t.ready, rows_within w l t.ready, ap (λ (x : Head). x.length.0) t.head)

  -- The term of the entry there.
  pub tested_at : word_at (head_size + (p - 1) * row_size) 4 l ≡ term_at (state_in l).kept.log p
  unfolding term_at state_in kept_in head_in
  tested_at =
      let i = p - 1 in
      let e : p ≡ suc i = omega arith in
      let inside : i < word_at 12 4 l = omega (arith, ap (λ (x : Head). x.length.0) t.head) in
      sym (word_at_drop (i * row_size) 4 head_size l)
      ∙ sym (row_term i (word_at 12 4 l) (drop head_size l) inside)
      ∙ ap (λ (q : ℕ). get_or (0 ∷ map (λ (x : Entry). x.term) (rows_in entry_of (word_at 12 4 l) (drop head_size l))) q 0) (sym e)
