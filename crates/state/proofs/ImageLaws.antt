-- Laws of the image: its parts, that a legal state is read back from it and from no other bytes, and what writes make of it. Assumes nothing.
use Prim.Native.Nat.{ℕ, ◌+◌, ◌-◌, ◌*◌}
use native.Mathlib.Omega.{arith}
use mathlib.Core.Path.{◌≡◌, refl, sym, ◌∙◌, ap}
use mathlib.Core.Bool.{Bool, true, false, cond, ◌&&◌}
use mathlib.Core.List.{List, [], ◌∷◌, ◌++◌, map, append_assoc}
use mathlib.Core.Option.{none, some}
use borrow.Author.Tests.{eqb-true, eq-eqb}
use lib.Dec.{eqb}
use lib.ListN.{length, drop, replicate, length-append, length-map, replicate-append-replicate}
use lib.Seq.{drop_at, drop-drop}
use Rattle.kinds.specs.declared.Place.{Place}
use Rattle.kinds.specs.Of.{place}
use Rattle.kinds.specs.Sizes.{Who, hubs_most, limit, row_size}
use Rattle.command.specs.Words.{word, part, word_at}
use Rattle.state.specs.declared.Head.{Head}
use Rattle.state.specs.State.{Kept, Lost, follower, candidate, leader, State, fresh}
use Rattle.state.specs.Legal.{all, legal_kept, legal_lost, legal_state}
use Rattle.rows.specs.Rows.{bytes_of, rows_in, entry_of, row_bytes, entry_row}
use Rattle.state.specs.Image.{head_size, state_size, role_of, voters_of, gathered_of, confirmed_of, flags, log_row, gathered_row, head_bytes, image, pair_of, kept_in, words_in, lost_in, state_in, read_state, read_kept}
use Rattle.state.specs.Head.{head_in, bytes_of_head, head_of}
use Rattle.state.specs.Table.{pair_row, rows_of, table}
use Rattle.kinds.proofs.BoolLaws.{and_first, and_second}
use Rattle.rows.proofs.ListLaws.{bytes_of_append, bytes_of_map}
use Rattle.rows.proofs.PartLaws.{drop_behind}
use Rattle.state.proofs.HeadLaws.{bytes_of_head_length, head_in_bytes, head_bytes_is}
use Rattle.rows.proofs.RowLaws.{row_fits, rows_in_bytes, rows_length, entries_back}
use Rattle.state.proofs.TableLaws.{pairs_back, table_length}
use Rattle.state.proofs.LegalLaws.{Held, legal_held, all_append}
use Rattle.kinds.specs.Same.{same}
use Rattle.kinds.proofs.SameLaws.{same_is, same_self}

-- ---- the parts of an image

-- The image is the head's bytes and the table's.
pub image_is : (s : State) → image s ≡ bytes_of_head (head_of s.kept s.lost) ++ table (rows_of s)
unfolding image table rows_of
image_is s =
    let es = s.kept.log in
    let gs = gathered_of s.lost in
    rw (
      head_bytes_is s.kept s.lost,
      bytes_of_append row_bytes (map entry_row es) (map pair_row gs),
      bytes_of_map row_bytes entry_row es,
      bytes_of_map row_bytes pair_row gs,
      length-append (map entry_row es) (map pair_row gs),
      length-map es entry_row,
      length-map gs pair_row,
    )
    (ap (λ (r : List ℕ). bytes_of_head (head_of s.kept s.lost) ++ r) (sym (append_assoc (bytes_of log_row es) (bytes_of gathered_row gs) _)))

module _ (s : State) (h : Held s) where
  head_long : length (bytes_of_head (head_of s.kept s.lost)) ≡ head_size
  head_long = bytes_of_head_length (head_of s.kept s.lost) h.head.voters h.head.confirmed

  -- An image has the layout's length.
  pub image_length : length (image s) ≡ state_size
  unfolding state_size
  image_length =
      ap length (image_is s)
      ∙ length-append (bytes_of_head (head_of s.kept s.lost)) (table (rows_of s))
      ∙ rw (head_long, table_length (rows_of s) h.room)

  -- The head's numbers stand in front.
  pub image_head : head_in (image s) ≡ head_of s.kept s.lost
  image_head = rw (image_is s) (head_in_bytes (head_of s.kept s.lost) h.head (table (rows_of s)))

  -- The table stands behind the head.
  pub image_table : (at : ℕ) → drop (head_size + at) (image s) ≡ drop at (table (rows_of s))
  image_table at = rw (image_is s) (drop_behind head_size at (bytes_of_head (head_of s.kept s.lost)) (table (rows_of s)) head_long)

  rows_fit : all row_fits (rows_of s) ≡ true
  unfolding rows_of
  rows_fit = all_append row_fits (map entry_row s.kept.log) (map pair_row (gathered_of s.lost)) h.entries h.pairs

  entry_bytes : List ℕ
  entry_bytes = bytes_of row_bytes (map entry_row s.kept.log)

  pair_bytes : List ℕ
  pair_bytes = bytes_of row_bytes (map pair_row (gathered_of s.lost))

  unused : List ℕ
  unused = replicate ((limit - (length s.kept.log + length (gathered_of s.lost))) * row_size) 0

  in_order : table (rows_of s) ≡ entry_bytes ++ (pair_bytes ++ unused)
  unfolding table rows_of entry_bytes pair_bytes unused
  in_order =
      let es = s.kept.log in
      let gs = gathered_of s.lost in
      rw (
        bytes_of_append row_bytes (map entry_row es) (map pair_row gs),
        length-append (map entry_row es) (map pair_row gs),
        length-map es entry_row,
        length-map gs pair_row,
      )
      (append_assoc (bytes_of row_bytes (map entry_row es)) (bytes_of row_bytes (map pair_row gs)) _)

  entries_long : length entry_bytes ≡ length s.kept.log * row_size
  unfolding entry_bytes
  entries_long = rows_length (map entry_row s.kept.log) ∙ rw (length-map s.kept.log entry_row)

  pairs_long : length pair_bytes ≡ length (gathered_of s.lost) * row_size
  unfolding pair_bytes
  pairs_long = rows_length (map pair_row (gathered_of s.lost)) ∙ rw (length-map (gathered_of s.lost) pair_row)

  -- The log's rows are read back.
  pub image_log : rows_in entry_of (length s.kept.log) (drop head_size (image s)) ≡ s.kept.log
  unfolding entry_bytes
  image_log =
      let es = s.kept.log in
      rw (image_table 0, in_order, ← length-map es entry_row, rows_in_bytes entry_of (map entry_row es) (pair_bytes ++ unused) h.entries)
      (entries_back es)

  -- The gathered rows are read back.
  pub image_gathered :
      rows_in pair_of (length (gathered_of s.lost)) (drop (head_size + length s.kept.log * row_size) (image s))
      ≡ gathered_of s.lost
  unfolding pair_bytes
  image_gathered =
      let gs = gathered_of s.lost in
      rw (
        image_table (length s.kept.log * row_size),
        in_order,
        drop_at entry_bytes (pair_bytes ++ unused) (length s.kept.log * row_size) entries_long,
        ← length-map gs pair_row,
        rows_in_bytes pair_of (map pair_row gs) unused h.pairs,
      )
      (pairs_back gs)

  -- Behind them all is zero.
  pub image_unused :
      drop (head_size + (length s.kept.log + length (gathered_of s.lost)) * row_size) (image s)
      ≡ replicate ((limit - (length s.kept.log + length (gathered_of s.lost))) * row_size) 0
  unfolding unused
  image_unused =
      let n = length s.kept.log in
      let g = length (gathered_of s.lost) in
      let e : (n + g) * row_size ≡ n * row_size + g * row_size = omega arith in
      rw (
        image_table ((n + g) * row_size),
        in_order,
        e,
        ← drop-drop (g * row_size) (n * row_size) (entry_bytes ++ (pair_bytes ++ unused)),
        drop_at entry_bytes (pair_bytes ++ unused) (n * row_size) entries_long,
        drop_at pair_bytes unused (g * row_size) pairs_long,
      )

  -- ---- reading an image

  numbers : {A : Type 0} (f : Head → A) → f (head_in (image s)) ≡ f (head_of s.kept s.lost)
  numbers f = ap f image_head

  -- The kept parts are read back.
  pub kept_in_image : kept_in (image s) ≡ s.kept
  unfolding kept_in head_in head_of
  kept_in_image =
      let t : word_at 0 4 (image s) ≡ s.kept.term = numbers (λ x. x.term.0) in
      let b : word_at 4 4 (image s) ≡ s.kept.ballot = numbers (λ x. x.ballot.0) in
      let c : word_at 8 4 (image s) ≡ s.kept.chosen = numbers (λ x. x.chosen.0) in
      let n : word_at 12 4 (image s) ≡ length s.kept.log = numbers (λ x. x.length.0) in
      let l : rows_in entry_of (word_at 12 4 (image s)) (drop head_size (image s)) ≡ s.kept.log = rw n image_log in
      λ i. record { term = t i; ballot = b i; chosen = c i; log = l i }

numbers_back : (ns : List ℕ) → map (λ (p : Place). p.0) (map place ns) ≡ ns
numbers_back [] = refl
numbers_back (n ∷ ns) = rw (numbers_back ns)

-- The lost parts are read back.
lost_in_image : (k : Kept) (l : Lost) →
    Held (record { kept = k; lost = l }) →
    lost_in (word_at 20 1 (image (record { kept = k; lost = l }))) (image (record { kept = k; lost = l })) ≡ l
unfolding lost_in head_in head_of role_of voters_of gathered_of confirmed_of
lost_in_image k follower h =
    let s : State = record { kept = k; lost = follower } in
    let r : word_at 20 1 (image s) ≡ 0 = numbers s h (λ x. x.role) in
    rw r
lost_in_image k (candidate voters gathered) h =
    let s : State = record { kept = k; lost = candidate voters gathered } in
    let r : word_at 20 1 (image s) ≡ 1 = numbers s h (λ x. x.role) in
    let v : map (λ b. eqb b 1) (part 21 hubs_most (image s)) ≡ voters = numbers s h (λ x. x.voters) in
    let n : word_at 12 4 (image s) ≡ length k.log = numbers s h (λ x. x.length.0) in
    let g : word_at 16 4 (image s) ≡ length gathered = numbers s h (λ x. x.gathered.0) in
    rw (r, v, n, g, image_gathered s h)
lost_in_image k (leader confirmed) h =
    let s : State = record { kept = k; lost = leader confirmed } in
    let r : word_at 20 1 (image s) ≡ 2 = numbers s h (λ x. x.role) in
    let c : map place (words_in hubs_most (drop 28 (image s))) ≡ map place confirmed = numbers s h (λ x. x.confirmed) in
    let ws : words_in hubs_most (drop 28 (image s)) ≡ confirmed =
    sym (numbers_back (words_in hubs_most (drop 28 (image s)))) ∙ ap (map (λ (p : Place). p.0)) c ∙ numbers_back confirmed in
    rw (r, ws)

-- ---- the theorems

module _ (w : Who) (s : State) (legal : legal_state w s ≡ true) where
  fits : Held s
  fits = legal_held w s legal

  -- A legal state is what its image says.
  pub state_in_image : state_in (image s) ≡ s
  unfolding state_in
  state_in_image =
      let k = kept_in_image s fits in
      let l = lost_in_image s.kept s.lost fits in
      λ i. record { kept = k i; lost = l i }

  -- A legal state is read back from its image.
  pub read_state_image : read_state w (image s) ≡ some s
  unfolding read_state
  read_state_image = rw (state_in_image, eq-eqb (length (image s)) state_size (image_length s fits), same_self (image s), legal)

  -- So are its kept parts.
  pub read_kept_image : read_kept (image s) ≡ some s.kept
  unfolding read_kept legal_state
  read_kept_image =
      rw (
        kept_in_image s fits,
        eq-eqb (length (image s)) state_size (image_length s fits),
        and_first (legal_kept s.kept) (legal_lost w s.kept s.lost) legal,
      )

  -- A legal state's image has the layout's length.
  pub legal_length : length (image s) ≡ state_size
  legal_length = image_length s fits

some_if : {A : Type 0} (b : Bool) (x y : A) → cond b (some x) none ≡ some y → (b ≡ true) × (x ≡ y)
some_if true x y h = (refl, cc)
some_if false x y h = (cc, cc)

-- Bytes that are read as a state are that state's image, and the state is legal.
pub read_state_sound : (w : Who) (l : List ℕ) (s : State) → read_state w l ≡ some s → (image s ≡ l) × (legal_state w s ≡ true)
unfolding read_state
read_state_sound w l s h =
    let x = state_in l in
    let long = eqb (length l) state_size in
    let rest = same (image x) l && legal_state w x in
    let p = some_if (long && rest) x s h in
    let q = and_second long rest p.0 in
    let e = same_is (image x) l (and_first (same (image x) l) (legal_state w x) q) in
    let f = and_second (same (image x) l) (legal_state w x) q in
    (ap image (sym p.1) ∙ e, ap (legal_state w) (sym p.1) ∙ f)

-- One image for each legal state: bytes are read as at most one.
pub image_once : (w : Who) (s t : State) → legal_state w s ≡ true → legal_state w t ≡ true → image s ≡ image t → s ≡ t
image_once w s t p q e = sym (state_in_image w s p) ∙ ap state_in e ∙ state_in_image w t q

-- Bytes that are read as kept parts hold them, and they are legal.
pub read_kept_sound : (l : List ℕ) (k : Kept) → read_kept l ≡ some k → (k ≡ kept_in l) × (legal_kept k ≡ true) × (length l ≡ state_size)
unfolding read_kept
read_kept_sound l k h =
    let x = kept_in l in
    let long = eqb (length l) state_size in
    let p = some_if (long && legal_kept x) x k h in
    (sym p.1, ap legal_kept (sym p.1) ∙ and_second long (legal_kept x) p.0, eqb-true (length l) state_size (and_first long (legal_kept x) p.0))

-- A fresh hub's image is nothing but zeros.
pub image_fresh : image fresh ≡ replicate state_size 0
unfolding image fresh state_size head_bytes word role_of voters_of gathered_of confirmed_of flags bytes_of
image_fresh =
    let e : limit - 0 ≡ limit = omega arith in
    rw e (replicate-append-replicate {A = ℕ} head_size (limit * row_size) 0)
