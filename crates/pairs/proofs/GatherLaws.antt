-- Laws of gathering where the rows lie: what is written is what rule R23 gathers. Assumes nothing.
use Prim.Native.Nat.{ℕ, ◌+◌, ◌*◌, ◌≤◌}
use native.Mathlib.Omega.{arith}
use mathlib.Core.Path.{◌≡◌, refl, sym, ◌∙◌, ap}
use mathlib.Core.Bool.{Bool, true, false, cond}
use mathlib.Core.List.{List, [], ◌∷◌, ◌++◌, map, append_assoc, append-nil}
use lib.Dec.{ltb}
use lib.ListN.{length, length-append, length-map}
use lib.Seq.{sets}
use Rattle.kinds.specs.Sizes.{limit, row_size}
use Rattle.command.specs.Entry.{Entry}
use Rattle.state.specs.State.{Pair}
use Rattle.rows.specs.Rows.{row, Row}
use Rattle.kinds.proofs.BoolLaws.{and_first, and_second}
use Rattle.rows.proofs.RowLaws.{row_fits}
use Rattle.state.specs.Legal.{all}
use Rattle.state.specs.Image.{head_size}
use Rattle.state.specs.Table.{pair_row, table}
use Rattle.rules.specs.Receive.{gather}
use Rattle.pairs.specs.Gather.{gathered_into}
use Rattle.pairs.proofs.RowLaws.{row_last, row_over, row_number_at}

module _ (head : List ℕ) (long : length head ≡ head_size) (ballot : ℕ) where
  -- A pair of this ballot.
  abbrev new : Entry → Pair
  new e = record { ballot = ballot; command = e.command }

  -- What one row becomes.
  abbrev kept_or_new : Bool → Pair → Entry → Pair
  kept_or_new b g e = cond b (new e) g

  one_row :
      (b : Bool) (xs : List Row) (g : Pair) (ys : List Row) (e : Entry) → length (xs ++ (pair_row g ∷ ys)) ≤ limit
      → cond b (sets (head ++ table (xs ++ (pair_row g ∷ ys))) (head_size + length xs * row_size) (row ballot e.command)) (head ++ table (xs ++ (pair_row g ∷ ys)))
      ≡ head ++ table ((xs ++ (pair_row (kept_or_new b g e) ∷ [])) ++ ys)
  one_row true xs g ys e room = row_over head long xs (pair_row g) ys (pair_row (new e)) room
  one_row false xs g ys e room = ap (λ (r : List Row). head ++ table r) (sym (append_assoc xs (pair_row g ∷ []) ys))

  -- The rows behind the first ones become the gathered pairs.
  pub gathered_table :
      (xs : List Row) (gs : List Pair) (es : List Entry) → all row_fits (map pair_row gs) ≡ true → length xs + length gs ≤ limit → length xs + length es ≤ limit
      → gathered_into (head ++ table (xs ++ map pair_row gs)) (head_size + length xs * row_size) (length gs) ballot es
      ≡ head ++ table (xs ++ map pair_row (gather gs ballot es))
  unfolding gathered_into gather all
  gathered_table xs [] [] s room fits = refl
  gathered_table xs (g ∷ gs) [] s room fits = refl
  gathered_table xs [] (e ∷ es) s room fits =
      let front : List Row = xs ++ (pair_row (new e) ∷ []) in
      let n = length-append xs (pair_row (new e) ∷ []) in
      let at : head_size + length xs * row_size + row_size ≡ head_size + length front * row_size = omega arith in
      ap (λ (r : List Row). gathered_into (sets (head ++ table r) (head_size + length xs * row_size) (row ballot e.command)) (head_size + length xs * row_size + row_size) 0 ballot es) (append-nil xs)
      ∙ ap (λ (l : List ℕ). gathered_into l (head_size + length xs * row_size + row_size) 0 ballot es) (row_last head long xs (pair_row (new e)) (omega arith))
      ∙ ap (λ (a : ℕ). gathered_into (head ++ table front) a 0 ballot es) at
      ∙ ap (λ (r : List Row). gathered_into (head ++ table r) (head_size + length front * row_size) 0 ballot es) (sym (append-nil front))
      ∙ gathered_table front [] es refl (omega arith) (omega arith)
      ∙ ap (λ (r : List Row). head ++ table r) (append_assoc xs (pair_row (new e) ∷ []) (map pair_row (gather [] ballot es)))
  gathered_table xs (g ∷ gs) (e ∷ es) s room fits =
      let ys = map pair_row gs in
      let m = length-map gs pair_row in
      let b = ltb g.ballot ballot in
      let z = kept_or_new b g e in
      let front : List Row = xs ++ (pair_row z ∷ []) in
      let n = length-append xs (pair_row z ∷ []) in
      let k = length-append xs (pair_row g ∷ ys) in
      let at = head_size + length xs * row_size in
      let l = head ++ table (xs ++ (pair_row g ∷ ys)) in
      let one = row_fits (pair_row g) in
      let others = all row_fits ys in
      let here = row_number_at head long xs (pair_row g) ys (and_first one others s) in
      let next : at + row_size ≡ head_size + length front * row_size = omega arith in
      ap (λ (x : ℕ). gathered_into (cond (ltb x ballot) (sets l at (row ballot e.command)) l) (at + row_size) (length gs) ballot es) here
      ∙ ap (λ (x : List ℕ). gathered_into x (at + row_size) (length gs) ballot es) (one_row b xs g ys e (omega arith))
      ∙ ap (λ (a : ℕ). gathered_into (head ++ table (front ++ ys)) a (length gs) ballot es) next
      ∙ gathered_table front gs es (and_second one others s) (omega arith) (omega arith)
      ∙ ap (λ (r : List Row). head ++ table r) (append_assoc xs (pair_row z ∷ []) (map pair_row (gather gs ballot es)))
