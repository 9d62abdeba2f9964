-- Laws of the table of rows: gathered pairs as rows, its length, and what a write of rows or of zeros makes of it.
-- The limit is a symbol here. Assumes nothing.
use Prim.Native.Nat.{ℕ, zero, suc, ◌+◌, ◌-◌, ◌*◌, ◌≤◌, ◌<◌}
use native.Mathlib.Omega.{arith}
use native.Mathlib.Numerals.{add-one}
use native.Mathlib.Nat.{zero-add, sub-zero, zero-sub, suc-sub-suc}
use mathlib.Core.Path.{◌≡◌, refl, ◌∙◌, ap}
use mathlib.Core.Bool.{true, ◌&&◌}
use mathlib.Core.List.{List, [], ◌∷◌, ◌++◌, map, append_assoc}
use borrow.Author.Tests.{ltb-true, le-leb}
use lib.Dec.{leb, ltb}
use lib.ListN.{length, take, drop, get_or, replicate, length-append, length-drop, length-replicate, take-append-drop, replicate-append-replicate, drop_of_length-le}
use lib.Seq.{sets, sets-eq, drop-drop, length-take-le, drop-cons}
use Rattle.kinds.specs.Sizes.{limit, term_most, row_size}
use Rattle.command.specs.Command.{legal_command}
use Rattle.state.specs.State.{Pair}
use Rattle.state.specs.Legal.{all, legal_pair}
use Rattle.rows.specs.Rows.{bytes_of, Row, row_bytes}
use Rattle.state.specs.Image.{pair_of}
use Rattle.state.specs.Table.{pair_row, table}
use Rattle.rows.proofs.RowLaws.{row_bytes_length, rows_length, row_fits}
use Rattle.kinds.proofs.BoolLaws.{and_first, and_second, and_both}
use Rattle.rows.proofs.ListLaws.{sets_skip, bytes_of_append}
use Rattle.rows.proofs.PartLaws.{drop_behind}

-- ---- gathered pairs as rows

-- Gathered pairs are made again of their rows.
pub pairs_back : (gs : List Pair) → map (λ r. pair_of r.number r.command) (map pair_row gs) ≡ gs
pairs_back [] = refl
pairs_back (g ∷ gs) = rw (pairs_back gs)

-- Legal gathered pairs fit their rows.
pub pairs_fit : (term : ℕ) (gs : List Pair) → all (legal_pair term) gs ≡ true → term ≤ term_most → all row_fits (map pair_row gs) ≡ true
unfolding all row_fits legal_pair
pairs_fit term [] h m = refl
pairs_fit term (g ∷ gs) h m =
    let b = g.ballot in
    let first = and_first (legal_pair term g) (all (legal_pair term) gs) h in
    let above = and_second (leb 1 b) (ltb b term && legal_command g.command) first in
    let below = ltb-true b term (and_first (ltb b term) (legal_command g.command) above) in
    and_both
    (and_both (le-leb b term_most (omega arith)) (and_second (ltb b term) (legal_command g.command) above))
    (pairs_fit term gs (and_second (legal_pair term g) (all (legal_pair term) gs) h) m)

-- ---- the whole table

-- A table within the limit has the bytes of all its places.
pub table_length : (rs : List Row) → length rs ≤ limit → length (table rs) ≡ limit * row_size
unfolding table
table_length rs h =
    simp (length-append, rows_length, length-replicate)
    (let e : limit ≡ length rs + (limit - length rs) = omega arith in omega arith)

drop_zeros : (n m : ℕ) → drop {A = ℕ} n (replicate m 0) ≡ replicate (m - n) 0
drop_zeros zero m = rw sub-zero
drop_zeros (suc n) zero = rw zero-sub
drop_zeros (suc n) (suc m) = rw suc-sub-suc (drop_zeros n m)

-- What stands past k rows, where m places behind the rows are unused.
rows_past : (k m : ℕ) (rs : List Row) →
    drop (k * row_size) (bytes_of row_bytes rs ++ replicate (m * row_size) 0)
    ≡ bytes_of row_bytes (drop k rs) ++ replicate ((m - (k - length rs)) * row_size) 0
unfolding bytes_of
rows_past zero m rs =
    let e : m - (0 - length rs) ≡ m = omega arith in
    rw e
rows_past (suc k) m [] =
    let e : m * row_size - suc k * row_size ≡ (m - (suc k - 0)) * row_size = omega arith in
    drop_zeros (suc k * row_size) (m * row_size) ∙ rw e
rows_past (suc k) m (r ∷ rs) =
    let e : suc k * row_size ≡ row_size + k * row_size = omega arith in
    let f : suc k - suc (length rs) ≡ k - length rs = omega arith in
    rw (
      e,
      f,
      append_assoc (row_bytes r) (bytes_of row_bytes rs) (replicate (m * row_size) 0),
      drop_behind row_size (k * row_size) (row_bytes r) (bytes_of row_bytes rs ++ replicate (m * row_size) 0) (row_bytes_length r),
    )
    (rows_past k m rs)

module _ (rs : List Row) (i : ℕ) (inside : i ≤ length rs) (room : length rs ≤ limit) where
  unused : List ℕ
  unused = replicate ((limit - length rs) * row_size) 0

  -- A write from row i on leaves the rows before it, and what stands past the write.
  table_sets : (k : ℕ) (v : List ℕ) →
      length v ≡ k * row_size →
      i + k ≤ limit →
      sets (table rs) (i * row_size) v
      ≡ bytes_of row_bytes (take i rs) ++ (v ++ (bytes_of row_bytes (drop (i + k) rs) ++ replicate ((limit - length rs - (k - (length rs - i))) * row_size) 0))
  unfolding table unused
  table_sets k v long fits =
      let before = bytes_of row_bytes (take i rs) in
      let after : List ℕ = bytes_of row_bytes (drop i rs) ++ unused in
      let whole : bytes_of row_bytes rs ++ unused ≡ before ++ after =
      rw (← append_assoc before (bytes_of row_bytes (drop i rs)) unused, ← bytes_of_append row_bytes (take i rs) (drop i rs), take-append-drop i rs) in
      let b : length before ≡ i * row_size = rows_length (take i rs) ∙ ap (λ (n : ℕ). n * row_size) (length-take-le i rs inside) in
      let d = length-drop i rs in
      let a : length after ≡ (limit - i) * row_size =
      length-append (bytes_of row_bytes (drop i rs)) unused ∙ rw (
        rows_length (drop i rs),
        length-replicate {A =
            ℕ} ((limit - length rs) * row_size) 0,
      ) (omega (arith, d)) in
      let past = rows_past k (limit - length rs) (drop i rs) in
      rw (
        whole,
        sets_skip before after v 0 (i * row_size) (omega arith) (omega arith),
        sets-eq v after 0 (omega arith),
        zero-add (length v),
        long,
        past,
        d,
        drop-drop k i rs,
      )

  -- Rows written from row i on: further rows at the end, or others in the place of those there.
  pub table_put : (new : List Row) →
      i + length new ≤ limit →
      sets (table rs) (i * row_size) (bytes_of row_bytes new) ≡ table (take i rs ++ (new ++ drop (i + length new) rs))
  unfolding table
  table_put new fits =
      let k = length new in
      let d = length-drop (i + k) rs in
      let n : length (take i rs ++ (new ++ drop (i + k) rs)) ≡ i + (k + (length rs - (i + k))) =
      length-append (take i rs) (new ++ drop (i + k) rs) ∙ rw (length-take-le i rs inside, length-append new (drop (i + k) rs), d) in
      let e : limit - length rs - (k - (length rs - i)) ≡ limit - (i + (k + (length rs - (i + k)))) = omega arith in
      rw (
        table_sets k (bytes_of row_bytes new) (rows_length new) fits,
        n,
        e,
        bytes_of_append row_bytes (take i rs) (new ++ drop (i + k) rs),
        bytes_of_append row_bytes new (drop (i + k) rs),
      )
      (simp append_assoc)

  -- Zeros written from row i on, at least to the last row, leave the rows before it.
  pub table_clear : (k : ℕ) → length rs ≤ i + k → i + k ≤ limit → sets (table rs) (i * row_size) (replicate (k * row_size) 0) ≡ table (take i rs)
  unfolding table bytes_of
  table_clear k all fits =
      let none = drop_of_length-le rs {i = i + k} all in
      let e : k * row_size + (limit - length rs - (k - (length rs - i))) * row_size ≡ (limit - i) * row_size = omega arith in
      rw (
        table_sets k (replicate (k * row_size) 0) (length-replicate {A = ℕ} (k * row_size) 0) fits,
        none,
        replicate-append-replicate {A = ℕ} (k * row_size) ((limit - length rs - (k - (length rs - i))) * row_size) 0,
        e,
        length-take-le i rs inside,
      )

-- Where row i stands, and what stands behind it.
pub table_row : (rs : List Row) (i : ℕ) (d : Row) →
    i < length rs →
    drop (i * row_size) (table rs) ≡ row_bytes (get_or rs i d) ++ drop ((i + 1) * row_size) (table rs)
unfolding table bytes_of
table_row rs i d h =
    let m = limit - length rs in
    let e : m - (i - length rs) ≡ m - (i + 1 - length rs) = omega arith in
    rw (rows_past i m rs, rows_past (i + 1) m rs, e, drop-cons rs i d h, add-one) (append_assoc (row_bytes (get_or rs i d)) _ _)
