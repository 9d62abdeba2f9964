-- Laws of an append that fits, at a follower of its term: the log stays and only the head is written, or rows from prev on are written first. Assumes nothing.
use Prim.Native.Nat.{ℕ, zero, suc, ◌+◌, ◌≤◌, max}
use native.Mathlib.Omega.{arith}
use mathlib.Core.Path.{◌≡◌, refl}
use mathlib.Core.Bool.{true, false, ◌&&◌}
use mathlib.Core.List.{List, [], ◌∷◌, ◌++◌, map, map-append, append-nil}
use lib.Dec.{leb, eqb}
use lib.ListN.{length, take, drop, length-map, drop_of_length-le}
use Rattle.kinds.specs.Of.{place}
use Rattle.command.specs.Entry.{Entry}
use Rattle.state.specs.State.{Kept, follower, State}
use Rattle.state.specs.Image.{role_of, voters_of, gathered_of, confirmed_of}
use Rattle.state.specs.Head.{head_of}
use Rattle.rows.specs.Rows.{entry_row}
use Rattle.state.specs.Table.{rows_of}
use Rattle.rules.specs.Receive.{replaced, taken}
use Rattle.promise.specs.Heads.{taking}

rows_take : (n : ℕ) (es : List Entry) → map entry_row (take n es) ≡ take n (map entry_row es)
rows_take zero es = refl
rows_take (suc n) [] = refl
rows_take (suc n) (e ∷ es) = rw (rows_take n es)

module _ (k : Kept) (prev chosen : ℕ) (entries : List Entry) where
  abbrev before : State
  before = record { kept = k; lost = follower }

  abbrev after : State
  after = record { kept = taken k prev chosen entries; lost = follower }

  -- The head of a follower that took an append.
  pub taking_head :
      taking (head_of k follower) (place (max k.chosen chosen)) (place (length (replaced k prev entries))) ≡ head_of (taken k prev chosen entries) follower
  unfolding taking head_of taken role_of voters_of gathered_of confirmed_of
  taking_head = refl

  -- The log stays.
  pub stays_rows : (eqb k.ballot k.term && leb (prev + length entries) (length k.log)) ≡ true → rows_of after ≡ rows_of before
  unfolding rows_of taken replaced
  stays_rows h = rw h

  -- Entries after prev are replaced by the message's, which go at least to the log's end.
  pub replaced_rows :
      (eqb k.ballot k.term && leb (prev + length entries) (length k.log)) ≡ false → length k.log ≤ prev + length entries
      → (let new = map entry_row entries in rows_of after ≡ take prev (rows_of before) ++ (new ++ drop (prev + length new) (rows_of before)))
  unfolding rows_of taken replaced gathered_of
  replaced_rows h to_end =
      let rows = map entry_row k.log in
      let new = map entry_row entries in
      let n = length-map k.log entry_row in
      let m = length-map entries entry_row in
      let none_left = drop_of_length-le rows {i = prev + length new} (omega arith) in
      rw (
        h,
        append-nil rows,
        none_left,
        append-nil new,
        append-nil (map entry_row (take prev k.log ++ entries)),
        map-append entry_row (take prev k.log) entries,
        rows_take prev k.log,
      )
