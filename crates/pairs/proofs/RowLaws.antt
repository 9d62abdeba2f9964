-- Laws of single rows written and read behind a head. Assumes nothing.
use Prim.Native.Nat.{ℕ, ◌+◌, ◌*◌, ◌≤◌, ◌<◌}
use native.Mathlib.Omega.{arith}
use mathlib.Core.Path.{◌≡◌, refl, sym, ◌∙◌, ap}
use mathlib.Core.Bool.{true}
use mathlib.Core.List.{List, [], ◌∷◌, ◌++◌, append_assoc, append-nil}
use lib.ListN.{length, take, drop, get_or, length-append, drop_of_length-le}
use lib.Seq.{sets, take_at, take-length, drop_at, get_or-append_seam}
use Rattle.kinds.specs.Sizes.{limit, row_size}
use Rattle.command.specs.Words.{word_at}
use Rattle.rows.specs.Rows.{bytes_of, Row, row_bytes}
use Rattle.state.specs.Image.{head_size}
use Rattle.state.specs.Table.{table}
use Rattle.rows.proofs.ListLaws.{sets_skip}
use Rattle.rows.proofs.PartLaws.{word_at_behind, word_at_drop}
use Rattle.rows.proofs.RowLaws.{row_bytes_length, row_fits, row_number}
use Rattle.state.proofs.TableLaws.{table_length, table_put, table_row}

module _ (head : List ℕ) (long : length head ≡ head_size) where
  -- A row written at row i.
  pub row_put :
      (rs : List Row) (i : ℕ) (z : Row) → i ≤ length rs → length rs ≤ limit → i < limit
      → sets (head ++ table rs) (head_size + i * row_size) (row_bytes z) ≡ head ++ table (take i rs ++ (z ∷ drop (i + 1) rs))
  unfolding bytes_of
  row_put rs i z inside room fits =
      sets_skip head (table rs) (row_bytes z) (i * row_size) (head_size + i * row_size) (omega arith) (omega (arith, table_length rs room, row_bytes_length z))
      ∙ ap (λ (x : List ℕ). head ++ x)
      (ap (sets (table rs) (i * row_size)) (sym (append-nil (row_bytes z))) ∙ table_put rs i inside room (z ∷ []) (omega arith))

  -- A row written behind all.
  pub row_last :
      (xs : List Row) (z : Row) → length xs < limit → sets (head ++ table xs) (head_size + length xs * row_size) (row_bytes z) ≡ head ++ table (xs ++ (z ∷ []))
  row_last xs z fits =
      row_put xs (length xs) z (omega arith) (omega arith) fits
      ∙ rw (take-length xs, drop_of_length-le xs {i = length xs + 1} (omega arith))

  -- A row written over another.
  pub row_over :
      (xs : List Row) (y : Row) (ys : List Row) (z : Row) → length (xs ++ (y ∷ ys)) ≤ limit
      → sets (head ++ table (xs ++ (y ∷ ys))) (head_size + length xs * row_size) (row_bytes z) ≡ head ++ table ((xs ++ (z ∷ [])) ++ ys)
  row_over xs y ys z room =
      let rs = xs ++ (y ∷ ys) in
      let i = length xs in
      let n = length-append xs (y ∷ ys) in
      let e : i + 1 ≡ length (xs ++ (y ∷ [])) = sym (length-append xs (y ∷ [])) in
      let behind : drop (i + 1) rs ≡ ys = rw (← append_assoc xs (y ∷ []) ys) (drop_at (xs ++ (y ∷ [])) ys (i + 1) (sym e)) in
      row_put rs i z (omega arith) room (omega arith)
      ∙ rw (take_at xs (y ∷ ys) i refl, behind) (ap (λ (r : List Row). head ++ table r) (sym (append_assoc xs (z ∷ []) ys)))

  -- The number of a row.
  pub row_number_at :
      (xs : List Row) (y : Row) (ys : List Row) → row_fits y ≡ true
      → word_at (head_size + length xs * row_size) 4 (head ++ table (xs ++ (y ∷ ys))) ≡ y.number
  row_number_at xs y ys fits =
      let rs = xs ++ (y ∷ ys) in
      let at = length xs * row_size in
      let inside : length xs < length rs = omega (arith, length-append xs (y ∷ ys)) in
      let here : get_or rs (length xs) y ≡ y = get_or-append_seam xs y ys y in
      let rest : List ℕ = drop ((length xs + 1) * row_size) (table rs) in
      let first : word_at at 4 (table rs) ≡ word_at 0 4 (drop at (table rs)) = ap (λ (a : ℕ). word_at a 4 (table rs)) (omega arith) ∙ sym (word_at_drop 0 4 at (table rs)) in
      word_at_behind head_size at 4 head (table rs) long
      ∙ first
      ∙ ap (word_at 0 4) (table_row rs (length xs) y inside)
      ∙ rw here (row_number y rest fits)
