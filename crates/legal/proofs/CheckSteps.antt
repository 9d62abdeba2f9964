-- The check, as the code's tests give it: rows, zeros in four quarters, and that a legal head leaves room for its rows.
-- Over plain variables, so that a function's proof only names a law. Assumes nothing.
use Prim.Native.Nat.{ℕ, zero, suc, ◌+◌, ◌-◌, ◌*◌, ◌≤◌, ◌<◌}
use native.Mathlib.Omega.{arith}
use native.Mathlib.Nat.{add-zero}
use mathlib.Core.Path.{◌≡◌, refl, sym, ◌∙◌, ap}
use mathlib.Core.Bool.{Bool, true, false, false≢true, not, ◌&&◌, ◌||◌, and-false}
use mathlib.Core.List.{List, [], ◌∷◌, ◌++◌, map}
use borrow.Author.Tests.{eqb-true, leb-true, ltb-true, le-leb, lt-ltb}
use lib.Dec.{eqb, leb, ltb}
use lib.ListN.{length, drop, get_or, length-drop}
use lib.Seq.{take_all}
use Rattle.kinds.specs.Sizes.{Who, between, hubs_most, limit, row_size}
use Rattle.kinds.proofs.SizesLaws.{limit_small}
use Rattle.command.specs.Words.{part}
use Rattle.command.specs.Command.{legal_command}
use Rattle.rows.specs.Rows.{row_of, legal_rows, rows_in}
use Rattle.rows.proofs.PartLaws.{part_split, word_at_byte, byte_part}
use Rattle.rows.proofs.RowLaws.{rows_in_map}
use Rattle.rows.proofs.LegalLaws.{entries_held}
use Rattle.state.specs.State.{Pair}
use Rattle.state.specs.declared.Head.{Head}
use Rattle.state.specs.Legal.{all, legal_pair}
use Rattle.state.specs.Image.{head_size, state_size, pair_of}
use Rattle.state.specs.Table.{pair_row}
use Rattle.state.specs.Head.{head_in, is_flag, is_none, kept_head, voters_in, confirmed_in, follower_head, candidate_head, leader_head, role_head}
use Rattle.state.specs.Check.{legal_log, legal_gathered, zeros, checked_head, Room}
use Rattle.kinds.proofs.BoolLaws.{and_first, and_alone, each_holds, same_test}

-- ---- rows

-- The log's rows are rows that rise, from 1 to the ballot.
pub log_rows : (ballot n : ℕ) (l : List ℕ) → legal_rows true 1 ballot (rows_in row_of n l) ≡ legal_log 1 ballot n l
unfolding legal_log
log_rows ballot n l = entries_held 1 ballot n l

-- Three tests.
and_then : (a b c : Bool) → (a && (b && c)) ≡ ((a && b) && c)
and_then true b c = refl
and_then false b c = refl

-- Below a term is at most the one before it.
below_term : (b term : ℕ) → leb (suc b) (term - 1) ≡ ltb (suc b) term
below_term b term =
    same_test (leb (suc b) (term - 1)) (ltb (suc b) term) (λ h. lt-ltb (suc b) term (omega (arith, leb-true (suc b) (term - 1) h)))
    (λ h. le-leb (suc b) (term - 1) (omega (arith, ltb-true (suc b) term h)))

-- A gathered pair's tests, grouped as a row's.
pair_row_lem : (term b : ℕ) (k rest : Bool) → (between 1 (term - 1) b && (k && rest)) ≡ ((leb 1 b && (ltb b term && k)) && rest)
unfolding between
pair_row_lem term zero k rest = refl
pair_row_lem term (suc b) k rest = rw (le-leb 1 (suc b) (omega arith), below_term b term) (and_then (ltb (suc b) term) k rest)

-- Gathered pairs are legal exactly if their rows are.
pairs_rows : (term : ℕ) (gs : List Pair) → legal_rows false 1 (term - 1) (map pair_row gs) ≡ all (legal_pair term) gs
unfolding legal_rows legal_pair all
pairs_rows term [] = refl
pairs_rows term (g ∷ gs) = rw (pairs_rows term gs) (pair_row_lem term g.ballot (legal_command g.command) (all (legal_pair term) gs))

-- Gathered rows are rows from 1 to the number before the term.
pub gathered_rows : (term n : ℕ) (l : List ℕ) → legal_rows false 1 (term - 1) (rows_in row_of n l) ≡ legal_gathered term n l
unfolding legal_gathered
gathered_rows term n l = ap (legal_rows false 1 (term - 1)) (sym (rows_in_map pair_of pair_row n l)) ∙ pairs_rows term (rows_in pair_of n l)

-- ---- zeros

-- Two lists, one behind the other.
zeros_append : (a b : List ℕ) → zeros (a ++ b) ≡ (zeros a && zeros b)
unfolding zeros all
zeros_append [] b = refl
zeros_append (x ∷ a) b = rw (zeros_append a b) (and_then (eqb x 0) (zeros a) (zeros b))

-- Two parts, one behind the other.
zeros_two : (l : List ℕ) (at m n : ℕ) → zeros (part at (m + n) l) ≡ (zeros (part at m l) && zeros (part (at + m) n l))
zeros_two l at m n = rw (part_split l at m n) (zeros_append (part at m l) (part (at + m) n l))

-- What is left of a part at turn i: a byte, and what is left at the next.
rest_goes : (l : List ℕ) (at n i : ℕ) →
    at + n ≤ length l →
    i < n →
    zeros (part (at + i) (n - i) l) ≡ (eqb (get_or l (at + i) 0) 0 && zeros (part (at + (i + 1)) (n - (i + 1)) l))
unfolding zeros all
rest_goes l at n i room h =
    let e : n - i ≡ 1 + (n - (i + 1)) = omega arith in
    let f : at + i + 1 ≡ at + (i + 1) = omega arith in
    rw (e, zeros_two l (at + i) 1 (n - (i + 1)), byte_part l (at + i) (omega arith), word_at_byte l (at + i) (omega arith), f, and_alone)

rest_ends : (l : List ℕ) (at n i : ℕ) → n ≤ i → zeros (part (at + i) (n - i) l) ≡ true
unfolding zeros all part
rest_ends l at n i h =
    let e : n - i ≡ 0 = omega arith in
    rw e

-- Two tests and what is behind each: the tests in front.
fronts : (p x q y : Bool) → ((p && x) && (q && y)) ≡ ((p && q) && (x && y))
fronts true true q y = refl
fronts true false q y = sym (and-false q)
fronts false x q y = refl

-- The four quarters of rows, each from turn i on.
module _ (l : List ℕ) (at : ℕ) where
  pub quarters : ℕ → ℕ → Bool
  quarters n i =
      (zeros (part (at + i) (n - i) l) && zeros (part (at + n + i) (n - i) l))
      && (zeros (part (at + n + n + i) (n - i) l) && zeros (part (at + n + n + n + i) (n - i) l))

  -- At first they are the rows.
  pub quarters_begin : (rows n : ℕ) → n ≡ rows * 5 → zeros (part at (rows * row_size) l) ≡ quarters n 0
  unfolding quarters
  quarters_begin rows n h =
      let e : rows * row_size ≡ (n + n) + (n + n) = omega arith in
      let f : at + (n + n) ≡ at + n + n = omega arith in
      let z : n - 0 ≡ n = omega arith in
      rw (z, e, zeros_two l at (n + n) (n + n), zeros_two l at n n, zeros_two l (at + (n + n)) n n, f) (simp add-zero)

  -- A byte of each, and what is left of each.
  pub quarters_go : (n i : ℕ) (clean : Bool) →
      at + n + n + n + n ≤ length l →
      i < n →
      (clean && quarters n i)
      ≡ ((clean
      && ((eqb (get_or l (at + i) 0) 0 && eqb (get_or l (at + n + i) 0) 0)
      && (eqb (get_or l (at + n + n + i) 0) 0 && eqb (get_or l (at + n + n + n + i) 0) 0)))
      && quarters n (i + 1))
  unfolding quarters
  quarters_go n i clean room h =
      rw (
        rest_goes l at n i (omega arith) h,
        rest_goes l (at + n) n i (omega arith) h,
        rest_goes l (at + n + n) n i (omega arith) h,
        rest_goes l (at + n + n + n) n i (omega arith) h,
        fronts (eqb (get_or l (at + i) 0) 0),
        fronts (eqb (get_or l (at + n + n + i) 0) 0),
        fronts (eqb (get_or l (at + i) 0) 0 && eqb (get_or l (at + n + i) 0) 0),
      )
      (and_then clean _ _)

  -- Nothing is left.
  pub quarters_end : (n i : ℕ) (clean : Bool) → n ≤ i → (clean && quarters n i) ≡ clean
  unfolding quarters
  quarters_end n i clean h =
      rw (rest_ends l at n i h, rest_ends l (at + n) n i h, rest_ends l (at + n + n) n i h, rest_ends l (at + n + n + n) n i h) (and_alone clean)

-- ---- the table

-- The rows behind the first ones are all that is left of the bytes.
pub rest_zeros : (l : List ℕ) (n from most : ℕ) → from ≡ head_size + n * row_size → most ≡ limit → length l ≡ state_size → n ≤ limit →
    zeros (part from ((most - n) * row_size) l) ≡ zeros (drop (head_size + n * row_size) l)
unfolding part state_size
rest_zeros l n from most from_is most-is long h =
    rw (take_all ((most - n) * row_size) (drop from l) (omega (arith, length-drop from l)), from_is)

-- Each row has a place.
pub rows_fit : (l : List ℕ) (h : Head) → h ≡ head_in l → Room l → h.length.0 + h.gathered.0 ≤ limit
rows_fit l h read r = rw read r.fits

-- All rows stand within the bytes.
pub table_there : (l : List ℕ) (h : Head) → h ≡ head_in l → Room l → head_size + (h.length.0 + h.gathered.0) * row_size ≤ length l
unfolding state_size
table_there l h read r = omega (arith, rows_fit l h read r, r.long)

-- What the table's tests need of its rows.
pub ruleset rooms = (table_there, rows_fit, limit_small)

-- ---- the head

-- What a legal head says of the rows: each has a place.
role_room : (w : Who) (h : Head) (r : ℕ) → h.length.0 ≤ limit → role_head w r h ≡ true → h.length.0 + h.gathered.0 ≤ limit
unfolding role_head follower_head candidate_head leader_head
role_room w h zero m t = omega (arith, eqb-true h.gathered.0 0 (and_first (eqb h.gathered.0 0) _ t))
role_room w h (suc zero) m t =
    let rows = leb (h.length.0 + h.gathered.0) limit in
    let holds = each_holds (ltb h.ballot.0 h.term.0 ∷ rows ∷ (voters_in w h.voters && all is_none h.confirmed) ∷ []) t in
    leb-true (h.length.0 + h.gathered.0) limit (holds 1)
role_room w h (suc (suc zero)) m t =
    let none = eqb h.gathered.0 0 in
    let holds =
    each_holds
    (eqb h.ballot.0 h.term.0 ∷ leb 1 h.term.0 ∷ none ∷ (all not h.voters && confirmed_in w h.length.0 h.confirmed) ∷ [])
    t in
    omega (arith, eqb-true h.gathered.0 0 (holds 2))
role_room w h (suc (suc (suc r))) m t = absurd (false≢true t)

-- A legal head of the kept parts has a place for each of the log's rows.
pub kept_room : (h : Head) → kept_head h ≡ true → h.length.0 ≤ limit
unfolding kept_head
kept_room h c =
    let numbers =
    each_holds
    (leb h.ballot.0 h.term.0 ∷ leb h.chosen.0 h.length.0 ∷ leb h.length.0 limit
    ∷ (not (eqb h.ballot.0 0) || eqb h.length.0 0) ∷ [])
    c in
    leb-true h.length.0 limit (numbers 2)

-- So many rows stand within the bytes.
pub rows_within : {m n : ℕ} → m ≡ state_size → n ≤ limit → head_size + n * row_size ≤ m
unfolding state_size
rows_within e h = omega arith

-- Bytes of the layout's length whose head is legal have room for the rows that it tells of.
pub head_room : (w : Who) (l : List ℕ) → length l ≡ state_size → checked_head w l ≡ true → Room l
unfolding checked_head
head_room w l long c =
    let h = head_in l in
    let kept = kept_head h in
    let role = role_head w h.role h in
    let holds = each_holds (all is_flag (part 21 hubs_most l) ∷ kept ∷ role ∷ []) c in
    record { long = long; fits = role_room w h h.role (kept_room h (holds 1)) (holds 2) }
