-- What legality says, part by part, and that these parts are all of it: the kept parts, a candidate, a leader; and that a legal state's numbers and rows
-- fit their bytes. Assumes nothing.
use Prim.Native.Nat.{ℕ, zero, suc, ◌+◌, ◌-◌, ◌≤◌, ◌<◌}
use native.Mathlib.Omega.{arith}
use mathlib.Core.Path.{◌≡◌, refl, sym, ◌∙◌}
use mathlib.Core.Bool.{Bool, true, false, cond, not, ◌||◌}
use mathlib.Core.List.{List, [], ◌∷◌, map, ◌++◌}
use borrow.Author.Tests.{eqb-true, leb-true, ltb-true, eq-eqb, le-leb, lt-ltb, eqb-false, not-true, not-false}
use lib.Dec.{eqb, leb, ltb}
use lib.ListN.{length, drop, get_or, length-append, length-map}
use Rattle.std.specs.List.{list_all, count_by}
use Rattle.std.proofs.lemmas.List.Recursion.{is_count_by}
use Rattle.kinds.specs.Sizes.{Who, hubs_most, majority, limit, term_most}
use Rattle.kinds.specs.Of.{place}
use Rattle.kinds.proofs.SizesLaws.{limit_small}
use Rattle.command.specs.Entry.{legal_entries}
use Rattle.state.specs.State.{Kept, Pair, Lost, follower, candidate, leader, State}
use Rattle.state.specs.Legal.{all, count, legal_kept, legal_pair, legal_candidate, legal_leader, legal_lost, legal_state}
use Rattle.state.specs.Image.{voters_of, gathered_of, confirmed_of}
use Rattle.state.specs.Head.{head_of}
use Rattle.rows.specs.Rows.{entry_row}
use Rattle.state.specs.Table.{pair_row, rows_of}
use Rattle.kinds.proofs.BoolLaws.{and_first, and_second, and_both, each_holds, or_either, or_one}
use Rattle.state.proofs.HeadLaws.{Fits, place_fits}
use Rattle.rows.proofs.RowLaws.{row_fits, entries_fit}
use Rattle.state.proofs.TableLaws.{pairs_fit}

-- All members have a property that a property of all implies.
pub all_map : {A B : Type 0} (P : A → Bool) (Q : B → Bool) (f : A → B) → ((x : A) → P x ≡ true → Q (f x) ≡ true) → (xs : List A) →
    all P xs ≡ true →
    all Q (map f xs) ≡ true
unfolding all
all_map P Q f i [] h = refl
all_map P Q f i (x ∷ xs) h = and_both (i x (and_first (P x) (all P xs) h)) (all_map P Q f i xs (and_second (P x) (all P xs) h))

-- The library's words: what a chain of iterators asks of all members, and how many it counts.
pub all_is : {A : Type 0} (P : A → Bool) (xs : List A) → list_all P xs ≡ all P xs
unfolding all
all_is P [] = refl
all_is P (x ∷ xs) = rw (all_is P xs)

pub count_is : {A : Type 0} (P : A → Bool) (xs : List A) → count_by P xs ≡ count P xs
unfolding count
count_is P xs = sym (is_count_by (count P) P refl (λ x xs. one_more (P x) (count P xs)) xs)
  where
    one_more : (v : Bool) (n : ℕ) → ◌≡◌ {A = ℕ} (elim v [ true ↦ 1 + n | false ↦ n ]) (cond v (1 + n) n)
    one_more true n = refl
    one_more false n = refl

-- Each member of a list whose members all have a property.
pub all_member : {A : Type 0} (P : A → Bool) (xs : List A) (i : ℕ) (d : A) → i < length xs → all P xs ≡ true → P (get_or xs i d) ≡ true
unfolding all
all_member P [] i d h a = absurd (omega arith)
all_member P (x ∷ xs) zero d h a = and_first (P x) (all P xs) a
all_member P (x ∷ xs) (suc i) d h a = all_member P xs i d (omega arith) (and_second (P x) (all P xs) a)

-- All members of two lists.
pub all_append : {A : Type 0} (P : A → Bool) (xs ys : List A) → all P xs ≡ true → all P ys ≡ true → all P (xs ++ ys) ≡ true
unfolding all
all_append P [] ys p q = q
all_append P (x ∷ xs) ys p q = and_both (and_first (P x) (all P xs) p) (all_append P xs ys (and_second (P x) (all P xs) p) q)

-- ---- none without a ballot

-- Where the ballot is 0 there is nothing.
pub none_is : (b n : ℕ) → (not (eqb b 0) || eqb n 0) ≡ true → b ≡ 0 → n ≡ 0
none_is b n h e =
    or_either (not (eqb b 0)) (eqb n 0) h (λ t. absurd (eqb-false b 0 (not-true (eqb b 0) t) e)) (λ t. eqb-true n 0 t)

-- And the other way.
pub is_none_lem : (b n : ℕ) → (b ≡ 0 → n ≡ 0) → (not (eqb b 0) || eqb n 0) ≡ true
is_none_lem b n f = or_one (not (eqb b 0)) (eqb n 0) (λ t. eq-eqb n 0 (f (eqb-true b 0 (not-false (eqb b 0) t))))

-- ---- the kept parts

-- The tests of the kept parts, as facts.
pub record IsKept (k : Kept) : Type 0 where
  pub term : k.term ≤ term_most
  pub ballot : k.ballot ≤ k.term
  pub chosen : k.chosen ≤ length k.log
  pub within : length k.log ≤ limit
  pub empty : k.ballot ≡ 0 → length k.log ≡ 0
  pub entries : legal_entries 1 k.ballot k.log ≡ true

-- Legal kept parts pass each of them.
pub legal_kept_is : (k : Kept) → legal_kept k ≡ true → IsKept k
unfolding legal_kept
legal_kept_is k h =
    let n = length k.log in
    let none = not (eqb k.ballot 0) || eqb n 0 in
    let entries = legal_entries 1 k.ballot k.log in
    let t = each_holds (leb k.term term_most ∷ leb k.ballot k.term ∷ leb k.chosen n ∷ leb n limit ∷ none ∷ entries ∷ []) h in
    record {
      term = leb-true _ _ (t 0);
      ballot = leb-true _ _ (t 1);
      chosen = leb-true _ _ (t 2);
      within = leb-true _ _ (t 3);
      empty = none_is k.ballot n (t 4);
      entries = t 5;
    }

-- There are no others.
pub is_legal_kept : (k : Kept) → IsKept k → legal_kept k ≡ true
unfolding legal_kept
is_legal_kept k i =
    and_both (le-leb _ _ i.term)
    (and_both (le-leb _ _ i.ballot)
    (and_both (le-leb _ _ i.chosen)
    (and_both (le-leb _ _ i.within) (and_both (is_none_lem k.ballot (length k.log) i.empty) i.entries))))

-- ---- a candidate

-- The tests of what a candidate holds, as facts.
pub record IsCandidate (w : Who) (k : Kept) (voters : List Bool) (gathered : List Pair) : Type 0 where
  pub ballot : k.ballot < k.term
  pub seven : length voters ≡ hubs_most
  pub itself : get_or voters (w.own - 1) false ≡ true
  pub few : count (λ v. v) voters < majority w.size
  pub inside : all not (drop w.size voters) ≡ true
  pub room : length k.log + length gathered ≤ limit
  pub pairs : all (legal_pair k.term) gathered ≡ true

-- A legal candidate passes each of them.
pub legal_candidate_is :
    (w : Who) (k : Kept) (voters : List Bool) (gathered : List Pair) → legal_candidate w k voters gathered ≡ true → IsCandidate w k voters gathered
unfolding legal_candidate
legal_candidate_is w k voters gathered h =
    let itself = get_or voters (w.own - 1) false in
    let few = ltb (count (λ v. v) voters) (majority w.size) in
    let inside = all not (drop w.size voters) in
    let room = leb (length k.log + length gathered) limit in
    let pairs = all (legal_pair k.term) gathered in
    let t = each_holds (ltb k.ballot k.term ∷ eqb (length voters) hubs_most ∷ itself ∷ few ∷ inside ∷ room ∷ pairs ∷ []) h in
    record {
      ballot = ltb-true _ _ (t 0);
      seven = eqb-true _ _ (t 1);
      itself = t 2;
      few = ltb-true _ _ (t 3);
      inside = t 4;
      room = leb-true _ _ (t 5);
      pairs = t 6;
    }

-- There are no others.
pub is_legal_candidate :
    (w : Who) (k : Kept) (voters : List Bool) (gathered : List Pair) → IsCandidate w k voters gathered → legal_candidate w k voters gathered ≡ true
unfolding legal_candidate
is_legal_candidate w k voters gathered i =
    and_both (lt-ltb _ _ i.ballot)
    (and_both (eq-eqb _ _ i.seven)
    (and_both i.itself
    (and_both (lt-ltb _ _ i.few) (and_both i.inside (and_both (le-leb _ _ i.room) i.pairs)))))

-- ---- a leader

-- The tests of what a leader holds, as facts.
pub record IsLeader (w : Who) (k : Kept) (confirmed : List ℕ) : Type 0 where
  pub ballot : k.ballot ≡ k.term
  pub term : 1 ≤ k.term
  pub seven : length confirmed ≡ hubs_most
  pub most : all (λ n. leb n (length k.log)) confirmed ≡ true
  pub itself : get_or confirmed (w.own - 1) 0 ≡ length k.log
  pub inside : all (λ n. eqb n 0) (drop w.size confirmed) ≡ true

-- A legal leader passes each of them.
pub legal_leader_is : (w : Who) (k : Kept) (confirmed : List ℕ) → legal_leader w k confirmed ≡ true → IsLeader w k confirmed
unfolding legal_leader
legal_leader_is w k confirmed h =
    let n = length k.log in
    let most = all (λ m. leb m n) confirmed in
    let itself = eqb (get_or confirmed (w.own - 1) 0) n in
    let inside = all (λ m. eqb m 0) (drop w.size confirmed) in
    let t = each_holds (eqb k.ballot k.term ∷ leb 1 k.term ∷ eqb (length confirmed) hubs_most ∷ most ∷ itself ∷ inside ∷ []) h in
    record {
      ballot = eqb-true _ _ (t 0);
      term = leb-true _ _ (t 1);
      seven = eqb-true _ _ (t 2);
      most = t 3;
      itself = eqb-true _ _ (t 4);
      inside = t 5;
    }

-- There are no others.
pub is_legal_leader : (w : Who) (k : Kept) (confirmed : List ℕ) → IsLeader w k confirmed → legal_leader w k confirmed ≡ true
unfolding legal_leader
is_legal_leader w k confirmed i =
    and_both (eq-eqb _ _ i.ballot)
    (and_both (le-leb _ _ i.term)
    (and_both (eq-eqb _ _ i.seven) (and_both i.most (and_both (eq-eqb _ _ i.itself) i.inside))))

-- ---- a state

-- The kept parts of a legal state.
pub legal_state_kept : (w : Who) (s : State) → legal_state w s ≡ true → IsKept s.kept
unfolding legal_state
legal_state_kept w s h = legal_kept_is s.kept (and_first (legal_kept s.kept) (legal_lost w s.kept s.lost) h)

-- Its lost parts.
pub legal_state_lost : (w : Who) (s : State) → legal_state w s ≡ true → legal_lost w s.kept s.lost ≡ true
unfolding legal_state
legal_state_lost w s h = and_second (legal_kept s.kept) (legal_lost w s.kept s.lost) h

-- A follower with legal kept parts.
pub follower_legal : (w : Who) (k : Kept) → IsKept k → legal_state w (record { kept = k; lost = follower }) ≡ true
unfolding legal_state legal_lost
follower_legal w k i = and_both (is_legal_kept k i) refl

-- A candidate.
pub candidate_legal :
    (w : Who) (k : Kept) (voters : List Bool) (gathered : List Pair)
    → IsKept k → IsCandidate w k voters gathered → legal_state w (record { kept = k; lost = candidate voters gathered }) ≡ true
unfolding legal_state legal_lost
candidate_legal w k voters gathered i c = and_both (is_legal_kept k i) (is_legal_candidate w k voters gathered c)

-- A leader.
pub leader_legal :
    (w : Who) (k : Kept) (confirmed : List ℕ) → IsKept k → IsLeader w k confirmed
    → legal_state w (record { kept = k; lost = leader confirmed }) ≡ true
unfolding legal_state legal_lost
leader_legal w k confirmed i c = and_both (is_legal_kept k i) (is_legal_leader w k confirmed c)

-- ---- a legal state fits its bytes

-- What the image of a state needs: numbers, rows and their count fit.
pub record Held (s : State) : Type 0 where
  pub head : Fits (head_of s.kept s.lost)
  pub entries : all row_fits (map entry_row s.kept.log) ≡ true
  pub pairs : all row_fits (map pair_row (gathered_of s.lost)) ≡ true
  pub room : length (rows_of s) ≤ limit

-- A row for each entry and each gathered pair.
pub rows_of_length : (s : State) → length (rows_of s) ≡ length s.kept.log + length (gathered_of s.lost)
unfolding rows_of
rows_of_length s =
    length-append (map entry_row s.kept.log) (map pair_row (gathered_of s.lost))
    ∙ rw (length-map s.kept.log entry_row, length-map (gathered_of s.lost) pair_row)

module _ (k : Kept) (i : IsKept k) (l : Lost)
    (voters : length (voters_of l) ≡ hubs_most)
    (confirmed : length (confirmed_of l) ≡ hubs_most)
    (places : all place_fits (map place (confirmed_of l)) ≡ true)
    (pairs : all row_fits (map pair_row (gathered_of l)) ≡ true)
    (room : length k.log + length (gathered_of l) ≤ limit) where
  held : Held (record { kept = k; lost = l })
  unfolding head_of rows_of
  held =
      let m = limit_small in
      record {
        head =
            record {
              term = omega (arith, i.term);
              ballot = omega (arith, i.term, i.ballot);
              chosen = omega (arith, i.chosen, i.within);
              length = omega (arith, i.within);
              gathered = omega arith;
              voters = voters;
              confirmed = length-map (confirmed_of l) place ∙ confirmed;
              places = places;
            };
        entries = entries_fit 1 k.ballot k.log i.entries (omega (arith, i.term, i.ballot));
        pairs = pairs;
        room = rw (rows_of_length (record { kept = k; lost = l })) room;
      }

-- Whatever the role, a legal state fits its bytes.
legal_lost_lem : (w : Who) (k : Kept) (l : Lost) → IsKept k → legal_lost w k l ≡ true → Held (record { kept = k; lost = l })
unfolding legal_lost voters_of gathered_of confirmed_of all
legal_lost_lem w k follower i h = held k i follower refl refl refl refl (omega (arith, i.within))
legal_lost_lem w k (candidate voters gathered) i h =
    let c = legal_candidate_is w k voters gathered h in
    held k i (candidate voters gathered) c.seven refl refl (pairs_fit k.term gathered c.pairs i.term) c.room
legal_lost_lem w k (leader confirmed) i h =
    let c = legal_leader_is w k confirmed h in
    let n = length k.log in
    held k i (leader confirmed) refl c.seven
    (all_map (λ m. leb m n) place_fits place (λ m h. le-leb m term_most (omega (arith, leb-true m n h, i.within, limit_small))) confirmed c.most)
    refl (omega (arith, i.within))

-- A legal state fits its bytes.
pub legal_held : (w : Who) (s : State) → legal_state w s ≡ true → Held s
legal_held w s h = legal_lost_lem w s.kept s.lost (legal_state_kept w s h) (legal_state_lost w s h)
