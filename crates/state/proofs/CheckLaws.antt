-- Bytes pass the check exactly if they are read as a state: the tests hold of a legal state's image, and bytes of which they hold are
-- the image of the legal state that they say. Assumes nothing.
use Prim.Native.Nat.{ℕ, zero, suc, ◌+◌, ◌-◌, ◌*◌, ◌≤◌}
use native.Mathlib.Omega.{arith}
use mathlib.Core.Path.{◌≡◌, refl, sym, ◌∙◌, ap}
use mathlib.Core.Bool.{Bool, true, false, false≢true, cond, not, ◌&&◌, ◌||◌}
use mathlib.Core.List.{List, [], ◌∷◌, ◌++◌, map}
use mathlib.Core.Option.{none, some}
use borrow.Author.Tests.{eqb-true, eq-eqb, ne_eqb, leb-true, le-leb, lt-ltb}
use lib.Dec.{eqb, leb, ltb}
use lib.ListN.{length, take, drop, get_or, replicate, length-append, length-drop, length-map, take-append-drop, get_or-map}
use lib.Seq.{drop-drop, take-add}
use Rattle.kinds.specs.declared.Place.{Place}
use Rattle.kinds.specs.Of.{place, term}
use Rattle.kinds.specs.Sizes.{Who, hubs_most, majority, limit, term_most, row_size}
use Rattle.command.specs.Words.{part, word_at}
use Rattle.command.specs.Entry.{legal_entries}
use Rattle.command.proofs.WordsLaws.{Bytes, part_length, word_at_below}
use Rattle.state.specs.State.{Kept, Lost, follower, candidate, leader, State}
use Rattle.state.specs.Legal.{all, count, legal_kept, legal_pair, legal_candidate, legal_leader, legal_lost, legal_state}
use Rattle.rows.specs.Rows.{rows_in, entry_of, row_bytes, entry_row, row_of}
use Rattle.state.specs.Image.{head_size, state_size, role_of, voters_of, gathered_of, confirmed_of, flags, image, pair_of, kept_in, words_in, lost_in, state_in, read_state, read_kept}
use Rattle.state.specs.Head.{head_in, is_flag, head_of, kept_head, is_none, voters_in, confirmed_in, follower_head, candidate_head, leader_head, role_head}
use Rattle.state.specs.Table.{pair_row, rows_of, table}
use Rattle.state.specs.Check.{is_some, legal_log, legal_gathered, zeros, checked_head, checked_table}
use Rattle.kinds.proofs.BoolLaws.{and_first, and_second, and_both, each_holds, same_test}
use Rattle.rows.proofs.ListLaws.{bytes_of_append}
use Rattle.rows.proofs.PartLaws.{drop_bytes}
use Rattle.state.proofs.HeadLaws.{flags_are, voter_part, bytes_head_in}
use Rattle.rows.proofs.RowLaws.{rows_in_length, rows_in_map, bytes_rows_in}
use Rattle.state.proofs.LegalLaws.{IsKept, is_none_lem, legal_kept_is, legal_candidate_is, legal_leader_is, Held, legal_held}
use Rattle.state.proofs.ImageLaws.{image_is, image_head, image_log, image_gathered, image_unused}
use Rattle.kinds.specs.Same.{same}
use Rattle.kinds.proofs.SameLaws.{same_is, is_same}

-- ---- lists over the seven hubs

-- Members from a place on, made of others.
drop_map : {A B : Type 0} (f : A → B) (n : ℕ) (xs : List A) → drop n (map f xs) ≡ map f (drop n xs)
drop_map f zero xs = refl
drop_map f (suc n) [] = refl
drop_map f (suc n) (x ∷ xs) = drop_map f n xs

-- A property of members made of others.
all_of_map : {A B : Type 0} (P : B → Bool) (f : A → B) (xs : List A) → all P (map f xs) ≡ all (λ x. P (f x)) xs
unfolding all
all_of_map P f [] = refl
all_of_map P f (x ∷ xs) = rw (all_of_map P f xs)

-- Nobody among the voters.
none_voted : (vs : List Bool) → all not vs ≡ true → vs ≡ replicate (length vs) false
unfolding all
none_voted [] h = refl
none_voted (true ∷ vs) h = cc
none_voted (false ∷ vs) h = ap (λ (r : List Bool). false ∷ r) (none_voted vs h)

-- Nothing confirmed.
none_confirmed : (ps : List Place) → all is_none ps ≡ true → ps ≡ map place (replicate (length ps) 0)
unfolding all
none_confirmed [] h = refl
none_confirmed (p ∷ ps) h =
    let e : p.0 ≡ 0 = eqb-true p.0 0 (and_first (is_none p) (all is_none ps) h) in
    let t = none_confirmed ps (and_second (is_none p) (all is_none ps) h) in
    λ i. place (e i) ∷ t i

-- Bytes that are all zero.
pub zeros_are : (l : List ℕ) → zeros l ≡ true → l ≡ replicate (length l) 0
unfolding zeros all
zeros_are [] h = refl
zeros_are (x ∷ xs) h =
    let e = eqb-true x 0 (and_first (eqb x 0) (zeros xs) h) in
    let t = zeros_are xs (and_second (eqb x 0) (zeros xs) h) in
    λ i. e i ∷ t i

zeros_zeros : (n : ℕ) → zeros (replicate n 0) ≡ true
unfolding zeros all
zeros_zeros zero = refl
zeros_zeros (suc n) = zeros_zeros n

-- ---- the image of a legal state passes

confirmed_passes : (w : Who) (n : ℕ) (cs : List ℕ) →
    confirmed_in w n (map place cs) ≡ (all (λ m. leb m n) cs && (eqb (get_or cs (w.own - 1) 0) n && all (λ m. eqb m 0) (drop w.size cs)))
unfolding confirmed_in
confirmed_passes w n cs =
    rw (
      all_of_map (λ p. leb p.0 n) place cs,
      get_or-map place cs (w.own - 1) 0,
      drop_map place w.size cs,
      all_of_map is_none place (drop w.size cs),
    )

kept_passes : (k : Kept) (l : Lost) → IsKept k → kept_head (head_of k l) ≡ true
unfolding kept_head head_of
kept_passes k l i =
    and_both (le-leb k.ballot k.term i.ballot)
    (and_both (le-leb k.chosen (length k.log) i.chosen) (and_both (le-leb (length k.log) limit i.within) (is_none_lem k.ballot (length k.log) i.empty)))

role_passes : (w : Who) (k : Kept) (l : Lost) → legal_lost w k l ≡ true → role_head w (role_of l) (head_of k l) ≡ true
unfolding role_head follower_head candidate_head leader_head voters_in head_of role_of voters_of gathered_of confirmed_of legal_lost all
role_passes w k follower h = refl
role_passes w k (candidate voters gathered) h =
    let c = legal_candidate_is w k voters gathered h in
    and_both (lt-ltb k.ballot k.term c.ballot)
    (and_both (le-leb (length k.log + length gathered) limit c.room)
    (and_both (and_both c.itself (and_both (lt-ltb (count (λ v. v) voters) (majority w.size) c.few) c.inside)) refl))
role_passes w k (leader confirmed) h =
    let c = legal_leader_is w k confirmed h in
    let n = length k.log in
    and_both (eq-eqb k.ballot k.term c.ballot)
    (and_both (le-leb 1 k.term c.term)
    (rw (confirmed_passes w n confirmed)
    (and_both c.most (and_both (eq-eqb (get_or confirmed (w.own - 1) 0) n c.itself) c.inside))))

pairs_pass : (w : Who) (k : Kept) (l : Lost) → legal_lost w k l ≡ true → all (legal_pair k.term) (gathered_of l) ≡ true
unfolding gathered_of legal_lost all
pairs_pass w k follower h = refl
pairs_pass w k (candidate voters gathered) h = (legal_candidate_is w k voters gathered h).pairs
pairs_pass w k (leader confirmed) h = refl

-- As many numbers as words.
words_length : (n : ℕ) (l : List ℕ) → length (words_in n l) ≡ n
unfolding words_in
words_length zero l = refl
words_length (suc n) l = ap suc (words_length n (drop 4 l))

four_then : (a b c d e : Bool) → (a && (b && (c && (d && e)))) ≡ ((a && (b && (c && d))) && e)
four_then true true true d e = refl
four_then true true false d e = refl
four_then true false c d e = refl
four_then false b c d e = refl

module _ (w : Who) (s : State) (legal : legal_state w s ≡ true) where
  fits : Held s
  fits = legal_held w s legal

  kept_legal : legal_kept s.kept ≡ true
  unfolding legal_state
  kept_legal = and_first (legal_kept s.kept) (legal_lost w s.kept s.lost) legal

  lost_legal : legal_lost w s.kept s.lost ≡ true
  unfolding legal_state
  lost_legal = and_second (legal_kept s.kept) (legal_lost w s.kept s.lost) legal

  head_passes : checked_head w (image s) ≡ true
  unfolding checked_head head_of
  head_passes =
      let h = head_of s.kept s.lost in
      let v : part 21 hubs_most (image s) ≡ flags (voters_of s.lost) = rw (image_is s) (voter_part h fits.head (table (rows_of s))) in
      rw (v, image_head s fits)
      (and_both (flags_are (voters_of s.lost))
      (and_both (kept_passes s.kept s.lost (legal_kept_is s.kept kept_legal)) (role_passes w s.kept s.lost lost_legal)))

  table_passes : checked_table (image s) ≡ true
  unfolding checked_table legal_log legal_gathered head_of
  table_passes =
      rw (image_head s fits, image_log s fits, image_gathered s fits, image_unused s fits)
      (and_both (legal_kept_is s.kept kept_legal).entries
      (and_both (pairs_pass w s.kept s.lost lost_legal) (zeros_zeros ((limit - (length s.kept.log + length (gathered_of s.lost))) * row_size))))

is_some_if : {A : Type 0} (b : Bool) (x : A) → is_some (cond b (some x) none) ≡ b
unfolding is_some
is_some_if true x = refl
is_some_if false x = refl

-- A list in four parts.
four_parts : (l : List ℕ) (a b c d : ℕ) → b + c ≡ d → take a l ++ ((take b (drop a l) ++ take c (drop (a + b) l)) ++ drop (a + d) l) ≡ l
four_parts l a b c d e =
    rw (← e, ← drop-drop b a l, ← take-add b c (drop a l), ← drop-drop (b + c) a l, take-append-drop (b + c) (drop a l), take-append-drop a l)

-- ---- bytes that pass are a legal state's

-- The kept parts that bytes hold are legal exactly if the head's tests and the log's hold.
pub kept_checked : (l : List ℕ) →
    Bytes l →
    head_size ≤ length l →
    legal_kept (kept_in l) ≡ (kept_head (head_in l) && legal_log 1 (head_in l).ballot.0 (head_in l).length.0 (drop head_size l))
unfolding legal_kept kept_in kept_head head_in legal_log
kept_checked l o h =
    let n = word_at 12 4 l in
    let t = le-leb (word_at 0 4 l) term_most (omega (arith, word_at_below 0 4 l (omega arith) o)) in
    rw (t, rows_in_length entry_of n (drop head_size l))
    (four_then (leb (word_at 4 4 l) (word_at 0 4 l)) (leb (word_at 8 4 l) n) (leb n limit) (not (eqb (word_at 4 4 l) 0) || eqb n 0)
    (legal_entries 1 (word_at 4 4 l) (rows_in entry_of n (drop head_size l))))

module _ (w : Who) (l : List ℕ) (o : Bytes l) (long : length l ≡ state_size) where
  long_enough : head_size ≤ length l
  unfolding state_size
  long_enough = omega arith

  seven_voters : length (head_in l).voters ≡ hubs_most
  unfolding head_in
  seven_voters = length-map (part 21 hubs_most l) (λ b. eqb b 1) ∙ part_length 21 hubs_most l (omega (arith, long_enough))

  seven_confirmed : length (head_in l).confirmed ≡ hubs_most
  unfolding head_in
  seven_confirmed = length-map (words_in hubs_most (drop 28 l)) place ∙ words_length hubs_most (drop 28 l)

  no_voters : all not (head_in l).voters ≡ true → replicate hubs_most false ≡ (head_in l).voters
  no_voters h = ap (λ (n : ℕ). replicate n false) (sym seven_voters) ∙ sym (none_voted (head_in l).voters h)

  no_confirmed : all is_none (head_in l).confirmed ≡ true → map place (replicate hubs_most 0) ≡ (head_in l).confirmed
  no_confirmed h = ap (λ (n : ℕ). map place (replicate n 0)) (sym seven_confirmed) ∙ sym (none_confirmed (head_in l).confirmed h)

  -- What the tests of a role say of the lost parts that bytes hold.
  record Says (x : Lost) : Type 0 where
    role : role_of x ≡ word_at 20 1 l
    gathered : gathered_of x ≡ rows_in pair_of (word_at 16 4 l) (drop (head_size + word_at 12 4 l * row_size) l)
    voters : voters_of x ≡ (head_in l).voters
    confirmed : map place (confirmed_of x) ≡ (head_in l).confirmed
    room : word_at 12 4 l + word_at 16 4 l ≤ limit
    legal : all (legal_pair (word_at 0 4 l)) (rows_in pair_of (word_at 16 4 l) (drop (head_size + word_at 12 4 l * row_size) l)) ≡ true →
        legal_lost w (kept_in l) x ≡ true

  log_count : length (kept_in l).log ≡ word_at 12 4 l
  unfolding kept_in
  log_count = rows_in_length entry_of (word_at 12 4 l) (drop head_size l)

  no_pairs : word_at 16 4 l ≡ 0 → [] ≡ rows_in pair_of (word_at 16 4 l) (drop (head_size + word_at 12 4 l * row_size) l)
  unfolding rows_in
  no_pairs e = rw e

  says : (r : ℕ) → word_at 20 1 l ≡ r → word_at 12 4 l ≤ limit → role_head w r (head_in l) ≡ true → Says (lost_in r l)
  unfolding role_head follower_head candidate_head leader_head voters_in lost_in head_in role_of voters_of gathered_of confirmed_of legal_lost legal_candidate legal_leader kept_in
  says zero e within h =
      let t = each_holds (eqb (word_at 16 4 l) 0 ∷ all not (head_in l).voters ∷ all is_none (head_in l).confirmed ∷ []) h in
      let g = eqb-true (word_at 16 4 l) 0 (t 0) in
      record {
        role = sym e;
        gathered = no_pairs g;
        voters = no_voters (t 1);
        confirmed = no_confirmed (t 2);
        room = omega arith;
        legal = λ p. refl;
      }
  says (suc zero) e within h =
      let own = get_or (head_in l).voters (w.own - 1) false in
      let few = ltb (count (λ v. v) (head_in l).voters) (majority w.size) in
      let inside = all not (drop w.size (head_in l).voters) in
      let below = ltb (word_at 4 4 l) (word_at 0 4 l) in
      let room = leb (word_at 12 4 l + word_at 16 4 l) limit in
      let t = each_holds (below ∷ room ∷ (own && (few && inside)) ∷ all is_none (head_in l).confirmed ∷ []) h in
      let v = each_holds (own ∷ few ∷ inside ∷ []) (t 2) in
      record {
        role = sym e;
        gathered = refl;
        voters = refl;
        confirmed = no_confirmed (t 3);
        room = leb-true (word_at 12 4 l + word_at 16 4 l) limit (t 1);
        legal =
            λ p. rw (log_count, rows_in_length pair_of (word_at 16 4 l) (drop (head_size + word_at 12 4 l * row_size) l))
            (and_both (t 0)
            (and_both (eq-eqb (length (head_in l).voters) hubs_most seven_voters)
            (and_both (v 0) (and_both (v 1) (and_both (v 2) (and_both (t 1) p))))));
      }
  says (suc (suc zero)) e within h =
      let n = word_at 12 4 l in
      let ws = words_in hubs_most (drop 28 l) in
      let t =
      each_holds
      (eqb (word_at 4 4 l) (word_at 0 4 l) ∷ leb 1 (word_at 0 4 l) ∷ eqb (word_at 16 4 l) 0 ∷ all not (head_in l).voters
      ∷ confirmed_in w n (head_in l).confirmed ∷ [])
      h in
      let g = eqb-true (word_at 16 4 l) 0 (t 2) in
      let c = sym (confirmed_passes w n ws) ∙ t 4 in
      record {
        role = sym e;
        gathered = no_pairs g;
        voters = no_voters (t 3);
        confirmed = refl;
        room = omega arith;
        legal =
            λ p. rw log_count
            (and_both (t 0) (and_both (t 1) (and_both (eq-eqb (length ws) hubs_most (words_length hubs_most (drop 28 l))) c)));
      }
  says (suc (suc (suc r))) e within h = absurd (false≢true h)

  module _ (x : Lost) (s : Says x) where
    head_is : head_of (kept_in l) x ≡ head_in l
    unfolding head_of head_in kept_in
    head_is =
        let n = log_count in
        let g : length (gathered_of x) ≡ word_at 16 4 l =
        ap length s.gathered ∙ rows_in_length pair_of (word_at 16 4 l) (drop (head_size + word_at 12 4 l * row_size) l) in
        λ i. record {
          term = term (word_at 0 4 l);
          ballot = term (word_at 4 4 l);
          chosen = place (word_at 8 4 l);
          length = place (n i);
          gathered = place (g i);
          role = s.role i;
          voters = s.voters i;
          confirmed = s.confirmed i;
        }

    rows_are : rows_of (record {
      kept = kept_in l;
      lost =
          x;
    }) ≡ rows_in row_of (word_at 12 4 l) (drop head_size l) ++ rows_in row_of (word_at 16 4 l) (drop (head_size + word_at 12 4 l * row_size) l)
    unfolding rows_of kept_in
    rows_are =
        rw (
          s.gathered,
          rows_in_map entry_of entry_row (word_at 12 4 l) (drop head_size l),
          rows_in_map pair_of pair_row (word_at 16 4 l) (drop (head_size + word_at 12 4 l * row_size) l),
        )

    -- The bytes are the image of the state that they hold.
    image_back : all is_flag (part 21 hubs_most l) ≡ true →
        zeros (drop (head_size + (word_at 12 4 l + word_at 16 4 l) * row_size) l) ≡ true →
        image (record { kept = kept_in l; lost = x }) ≡ l
    unfolding table state_size
    image_back f z =
        let n = word_at 12 4 l in
        let g = word_at 16 4 l in
        let room = s.room in
        let first = drop head_size l in
        let second = drop (head_size + n * row_size) l in
        let rest = drop (head_size + (n + g) * row_size) l in
        let dl = length-drop head_size l in
        let dm = length-drop (head_size + n * row_size) l in
        let dr = length-drop (head_size + (n + g) * row_size) l in
        let a = bytes_rows_in n first (drop_bytes head_size l o) (omega arith) in
        let b = bytes_rows_in g second (drop_bytes (head_size + n * row_size) l o) (omega arith) in
        let count : length (rows_in row_of n first ++ rows_in row_of g second) ≡ n + g =
        length-append (rows_in row_of n first) (rows_in row_of g second) ∙ rw (rows_in_length row_of n first, rows_in_length row_of g second) in
        let unused : replicate ((limit - (n + g)) * row_size) 0 ≡ rest =
        let e : (limit - (n + g)) * row_size ≡ length rest = omega arith in ap (λ (k : ℕ). replicate k 0) e ∙ sym (zeros_are rest z) in
        rw (
          image_is (record { kept = kept_in l; lost = x }),
          head_is,
          rows_are,
          bytes_head_in l o long_enough f,
          count,
          unused,
          bytes_of_append row_bytes (rows_in row_of n first) (rows_in row_of g second),
          a,
          b,
        )
        (four_parts l head_size (n * row_size) (g * row_size) ((n + g) * row_size) (omega arith))

  -- Bytes that pass are the image of the state that they hold, and it is legal.
  passed : (checked_head w l && checked_table l) ≡ true → (image (state_in l) ≡ l) × (legal_state w (state_in l) ≡ true)
  unfolding checked_head checked_table legal_gathered head_in state_in legal_state
  passed h =
      let n = word_at 12 4 l in
      let g = word_at 16 4 l in
      let kept = kept_head (head_in l) in
      let role = role_head w (word_at 20 1 l) (head_in l) in
      let log = legal_log 1 (word_at 4 4 l) n (drop head_size l) in
      let head = each_holds (all is_flag (part 21 hubs_most l) ∷ kept ∷ role ∷ []) (and_first (checked_head w l) (checked_table l) h) in
      let rest =
      each_holds
      (log ∷ all (legal_pair (word_at 0 4 l)) (rows_in pair_of g (drop (head_size + n * row_size) l)) ∷ zeros (drop (head_size + (n + g) * row_size) l)
      ∷ [])
      (and_second (checked_head w l) (checked_table l) h) in
      let k : legal_kept (kept_in l) ≡ true = kept_checked l o long_enough ∙ and_both (head 1) (rest 0) in
      let within : n ≤ limit = omega (arith, (legal_kept_is (kept_in l) k).within, log_count) in
      let s = says (word_at 20 1 l) refl within (head 2) in
      (image_back (lost_in (word_at 20 1 l) l) s (head 0) (rest 2), and_both k (s.legal (rest 1)))

  passes : image (state_in l) ≡ l → legal_state w (state_in l) ≡ true → (checked_head w l && checked_table l) ≡ true
  passes e legal = rw e at (and_both (head_passes w (state_in l) legal) (table_passes w (state_in l) legal))

  -- Bytes of the layout's length are read as a state exactly if the tests hold.
  pub state_checked : is_some (read_state w l) ≡ (checked_head w l && checked_table l)
  unfolding read_state
  state_checked =
      let s = state_in l in
      let rest = same (image s) l && legal_state w s in
      is_some_if (eqb (length l) state_size && rest) s
      ∙ rw (eq-eqb (length l) state_size long)
      (same_test rest (checked_head w l && checked_table l)
      (λ h. passes (same_is (image s) l (and_first (same (image s) l) (legal_state w s) h)) (and_second (same (image s) l) (legal_state w s) h))
      (λ h. and_both (is_same (image s) l (passed h).0) (passed h).1))

-- ---- what a passed check says

holds_if : {A : Type 0} (b : Bool) (x : A) → is_some (cond b (some x) none) ≡ true → cond b (some x) none ≡ some x
unfolding is_some
holds_if true x h = refl
holds_if false x h = absurd (false≢true h)

-- ---- the kept parts

-- A state's bytes hold at least a head.
pub size_least : head_size ≤ state_size
unfolding state_size
size_least = omega arith

-- Kept parts in bytes of the layout's length are read exactly if the tests of those hold.
pub kept_part_checked : (l : List ℕ) →
    Bytes l →
    length l ≡ state_size →
    is_some (read_kept l) ≡ (kept_head (head_in l) && legal_log 1 (head_in l).ballot.0 (head_in l).length.0 (drop head_size l))
unfolding read_kept
kept_part_checked l o long =
    is_some_if (eqb (length l) state_size && legal_kept (kept_in l)) (kept_in l)
    ∙ rw (eq-eqb (length l) state_size long) (kept_checked l o (omega (arith, size_least)))

-- ---- bytes of another length

-- They are not read as a state.
pub state_length : (w : Who) (l : List ℕ) → (length l ≡ state_size → ⊥) → is_some (read_state w l) ≡ false
unfolding read_state is_some
state_length w l h = rw (ne_eqb (length l) state_size h)

-- Nor are their kept parts.
pub kept_length : (l : List ℕ) → (length l ≡ state_size → ⊥) → is_some (read_kept l) ≡ false
unfolding read_kept is_some
kept_length l h = rw (ne_eqb (length l) state_size h)
