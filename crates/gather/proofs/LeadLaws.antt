-- Laws of a candidate that leads: its gathered rows take the present term and join the log. Assumes nothing.
use Prim.Native.Nat.{ℕ, ◌+◌, ◌-◌, ◌*◌, ◌≤◌}
use native.Mathlib.Omega.{arith}
use mathlib.Core.Path.{◌≡◌, refl, sym, ◌∙◌, ap}
use mathlib.Core.Bool.{Bool}
use mathlib.Core.List.{List, [], ◌∷◌, ◌++◌, map, map-append, append_assoc, append-nil}
use lib.ListN.{length, get_or, replicate, length-append, length-map, length-set}
use lib.Seq.{sets, get_or-append_seam}
use Rattle.kinds.specs.Of.{place}
use Rattle.kinds.specs.Sizes.{Who, hubs_most, limit, row_size}
use Rattle.command.specs.Words.{word}
use Rattle.command.specs.Entry.{Entry}
use Rattle.command.proofs.WordsLaws.{word_length}
use Rattle.state.specs.State.{Kept, Pair, candidate, State}
use Rattle.rows.specs.Rows.{Row, row_bytes, entry_row, row_of}
use Rattle.state.specs.Image.{head_size, role_of, voters_of, gathered_of, confirmed_of, image}
use Rattle.state.specs.Head.{bytes_of_head, head_of}
use Rattle.state.specs.Table.{pair_row, rows_of, table}
use Rattle.rows.proofs.ListLaws.{sets_skip, sets_front}
use Rattle.state.proofs.HeadLaws.{bytes_of_head_length}
use Rattle.rows.proofs.RowLaws.{row_bytes_length}
use Rattle.state.proofs.TableLaws.{table_length}
use Rattle.state.proofs.ImageLaws.{image_is}
use Rattle.state.proofs.ImageWrites.{table_renumbered}
use Rattle.rules.specs.Events.{leads}
use Rattle.rules.specs.Receive.{joined}
use Rattle.promise.specs.Heads.{leading}
use Rattle.rows.specs.Words.{renumbered}
use Rattle.promise.proofs.HeadsLaws.{places_set}
use Rattle.pairs.proofs.RowLaws.{row_over}

-- A row with another number.
abbrev numbered : ℕ → Row → Row
numbered t r = row_of t r.command

-- One row more has its number.
one_more :
    (head : List ℕ) → length head ≡ head_size → (xs : List Row) (y : Row) (ys : List Row) → length (xs ++ (y ∷ ys)) ≤ limit → (t : ℕ)
    → sets (head ++ table (xs ++ (y ∷ ys))) (head_size + length xs * row_size) (word 4 t) ≡ head ++ table ((xs ++ (numbered t y ∷ [])) ++ ys)
one_more head long xs y ys room t =
    let rs = xs ++ (y ∷ ys) in
    let i = length xs in
    let n = length-append xs (y ∷ ys) in
    let here : get_or rs i y ≡ y = get_or-append_seam xs y ys y in
    let full = table_length rs room in
    sets_skip head (table rs) (word 4 t) (i * row_size) (head_size + i * row_size) (omega arith) (omega (arith, word_length 4 t))
    ∙ ap (λ (x : List ℕ). head ++ x) (table_renumbered rs i y t (omega arith) room ∙ rw here)
    ∙ sym (sets_skip head (table rs) (row_bytes (numbered t y)) (i * row_size) (head_size + i * row_size) (omega arith)
    (omega (arith, row_bytes_length (numbered t y))))
    ∙ row_over head long xs y ys (numbered t y) room

-- All rows behind the first ones have another number.
renumbered_table :
    (head : List ℕ) → length head ≡ head_size → (xs ys : List Row) → length (xs ++ ys) ≤ limit → (t : ℕ)
    → renumbered (head ++ table (xs ++ ys)) (head_size + length xs * row_size) (length ys) t ≡ head ++ table (xs ++ map (numbered t) ys)
unfolding renumbered
renumbered_table head long xs [] room t = refl
renumbered_table head long xs (y ∷ ys) room t =
    let front : List Row = xs ++ (numbered t y ∷ []) in
    let n = length-append xs (y ∷ ys) in
    let m = length-append xs (numbered t y ∷ []) in
    let k = length-append front ys in
    let at : head_size + length xs * row_size + row_size ≡ head_size + length front * row_size = omega arith in
    ap (λ (x : List ℕ). renumbered x (head_size + length xs * row_size + row_size) (length ys) t) (one_more head long xs y ys room t)
    ∙ ap (λ (a : ℕ). renumbered (head ++ table (front ++ ys)) a (length ys) t) at
    ∙ renumbered_table head long front ys (omega arith) t
    ∙ ap (λ (r : List Row). head ++ table r) (append_assoc xs (numbered t y ∷ []) (map (numbered t) ys))

joined_rows : (t : ℕ) (gs : List Pair) → map entry_row (map (λ g. record { term = t; command = g.command }) gs) ≡ map (numbered t) (map pair_row gs)
joined_rows t [] = refl
joined_rows t (g ∷ gs) = rw (joined_rows t gs)

module _ (w : Who) (k : Kept) (gathered : List Pair) where
  abbrev next : State
  next = leads w (joined k gathered) (replicate hubs_most 0)

  rows_are : rows_of next ≡ map entry_row k.log ++ map (numbered k.term) (map pair_row gathered)
  unfolding rows_of leads joined gathered_of
  rows_are =
      let new : List Entry = map (λ (g : Pair). record { term = k.term; command = g.command }) gathered in
      append-nil (map entry_row (k.log ++ new)) ∙ map-append entry_row k.log new ∙ rw (joined_rows k.term gathered)

  -- The head of a candidate that leads.
  pub leading_head : (voters : List Bool) → leading (head_of k (candidate voters gathered)) w.own ≡ head_of next.kept next.lost
  unfolding leading head_of leads joined role_of voters_of gathered_of confirmed_of
  leading_head voters =
      let at_term : Pair → Entry = λ g. record { term = k.term; command = g.command } in
      let new = map at_term gathered in
      let long : length (k.log ++ new) ≡ length k.log + length gathered = length-append k.log new ∙ rw (length-map gathered at_term) in
      rw (long, ← places_set (replicate hubs_most 0) (w.own - 1) (length k.log + length gathered))

  -- Behind any head, the rows of log and gathered entries, renumbered, and the head of a leader: the leader's image.
  pub lead_written :
      (head : List ℕ) → length head ≡ head_size → length k.log + length gathered ≤ limit
      → sets (renumbered (head ++ table (map entry_row k.log ++ map pair_row gathered)) (head_size + length k.log * row_size) (length gathered) k.term) 0
      (bytes_of_head (head_of next.kept next.lost))
      ≡ image next
  unfolding head_of leads voters_of confirmed_of
  lead_written head long room =
      let entries : List Row = map entry_row k.log in
      let pairs : List Row = map pair_row gathered in
      let n = length-map k.log entry_row in
      let g = length-map gathered pair_row in
      let a = length-append entries pairs in
      let done = renumbered_table head long entries pairs (omega arith) k.term in
      let seven = length-map (lib.ListN.set (replicate hubs_most 0) (w.own - 1) (length (joined k gathered).log)) place
      ∙ length-set (replicate hubs_most 0) (w.own - 1) (length (joined k gathered).log) in
      let bytes = bytes_of_head_length (head_of next.kept next.lost) refl seven in
      rw (← n, ← g, done, image_is next, rows_are)
      (sets_front head (table (entries ++ map (numbered k.term) pairs)) (bytes_of_head (head_of next.kept next.lost)) (long ∙ sym bytes))
