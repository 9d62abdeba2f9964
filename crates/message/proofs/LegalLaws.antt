-- What the fields of each type of a legal message say, and that this is all of it; and what every legal message has: numbers of 32 bits, at
-- most as many entries as there are places, and entries with legal commands.
-- Assumes nothing.
use Prim.Native.Nat.{ℕ, zero, suc, ◌+◌, ◌≤◌, ◌<◌, max}
use native.Mathlib.Omega.{arith}
use mathlib.Core.Path.{◌≡◌, refl, sym, ◌∙◌}
use mathlib.Core.Logic.{◌↔◌}
use mathlib.Core.Bool.{true, beq, ◌&&◌, ◌||◌, not}
use lib.Dec.{leb, ltb, eqb}
use mathlib.Core.List.{List, [], ◌∷◌}
use borrow.Author.Tests.{leb-true, ltb-true, eqb-true, eqb-false, le-leb, lt-ltb, eq-eqb, not-true, not-false}
use lib.ListN.{length, get_or}
use Rattle.kinds.specs.Sizes.{between, hubs_most, term_most, limit}
use Rattle.kinds.proofs.BetweenLaws.{between_true}
use Rattle.kinds.proofs.SizesLaws.{limit_small}
use Rattle.command.specs.Entry.{Entry, legal_entries}
use Rattle.command.proofs.Tests.{both}
use Rattle.kinds.proofs.BoolLaws.{and_both, each_holds, or_either, or_one, beq_true, beq_both}
use Rattle.message.specs.Message.{Message, Body, vote_request, vote_yes, vote_no, append, append_yes, append_no, entries_of}
use Rattle.message.specs.Legal.{legal_to, legal_body, legal_message}
use Rattle.message.specs.Fields.{own_numbers, numbers}

-- ---- the rules between fields, as facts about numbers

-- A number that is zero only where another is: the test, and what it says.
zero_only : (x y : ℕ) → (x ≡ 0 → y ≡ 0) → (not (eqb x 0) || eqb y 0) ≡ true
zero_only x y f = or_one (not (eqb x 0)) (eqb y 0) (λ t. eq-eqb y 0 (f (eqb-true x 0 (not-false (eqb x 0) t))))

only_zero : (x y : ℕ) → (not (eqb x 0) || eqb y 0) ≡ true → x ≡ 0 → y ≡ 0
only_zero x y h z =
    or_either (not (eqb x 0)) (eqb y 0) h (λ t. absurd (eqb-false x 0 (not-true (eqb x 0) t) z)) (λ t. eqb-true y 0 t)

-- Two numbers that are zero together: what the test says, and the test.
both_zero : (x y : ℕ) → beq (eqb x 0) (eqb y 0) ≡ true → (x ≡ 0) ↔ (y ≡ 0)
both_zero x y h =
    let e = beq_true (eqb x 0) (eqb y 0) h in
    (λ z. eqb-true y 0 (sym e ∙ eq-eqb x 0 z), λ z. eqb-true x 0 (e ∙ eq-eqb y 0 z))

zero_both : (x y : ℕ) → (x ≡ 0) ↔ (y ≡ 0) → beq (eqb x 0) (eqb y 0) ≡ true
zero_both x y f = beq_both (eqb x 0) (eqb y 0) (λ t. eq-eqb y 0 (f.0 (eqb-true x 0 t))) (λ t. eq-eqb x 0 (f.1 (eqb-true y 0 t)))

-- ---- vote-request

-- The tests of its fields, as facts.
pub record IsRequest (term last ballot : ℕ) : Type 0 where
  pub within : last ≤ limit
  pub below : ballot < term
  pub empty : ballot ≡ 0 → last ≡ 0

-- A legal one passes each of them.
pub request_is : (term last ballot : ℕ) → legal_body term (vote_request last ballot) ≡ true → IsRequest term last ballot
unfolding legal_body
request_is term last ballot h =
    let t = each_holds (leb last limit ∷ ltb ballot term ∷ (not (eqb ballot 0) || eqb last 0) ∷ []) h in
    record { within = leb-true _ _ (t 0); below = ltb-true _ _ (t 1); empty = only_zero ballot last (t 2) }

-- There are no others.
pub is_request_lem : (term last ballot : ℕ) → IsRequest term last ballot → legal_body term (vote_request last ballot) ≡ true
unfolding legal_body
is_request_lem term last ballot i =
    and_both (le-leb _ _ i.within) (and_both (lt-ltb _ _ i.below) (zero_only ballot last i.empty))

-- ---- vote-yes

-- The tests of its fields, as facts.
pub record IsYes (term last ballot : ℕ) (entries : List Entry) : Type 0 where
  pub within : last + length entries ≤ limit
  pub below : ballot < term
  pub empty : ballot ≡ 0 → length entries ≡ 0
  pub legal : legal_entries 1 ballot entries ≡ true

-- A legal one passes each of them.
pub yes_is : (term last ballot : ℕ) (entries : List Entry) → legal_body term (vote_yes last ballot entries) ≡ true → IsYes term last ballot entries
unfolding legal_body
yes_is term last ballot entries h =
    let none = not (eqb ballot 0) || eqb (length entries) 0 in
    let t = each_holds (leb (last + length entries) limit ∷ ltb ballot term ∷ none ∷ legal_entries 1 ballot entries ∷ []) h in
    record { within = leb-true _ _ (t 0); below = ltb-true _ _ (t 1); empty = only_zero ballot (length entries) (t 2); legal = t 3 }

-- There are no others.
pub is_yes : (term last ballot : ℕ) (entries : List Entry) → IsYes term last ballot entries → legal_body term (vote_yes last ballot entries) ≡ true
unfolding legal_body
is_yes term last ballot entries i =
    and_both (le-leb _ _ i.within)
    (and_both (lt-ltb _ _ i.below) (and_both (zero_only ballot (length entries) i.empty) i.legal))

-- ---- append

-- The tests of its fields, as facts.
pub record IsAppend (term prev prevterm chosen : ℕ) (entries : List Entry) : Type 0 where
  pub within : prev + length entries ≤ limit
  pub start : (prevterm ≡ 0) ↔ (prev ≡ 0)
  pub low : prevterm ≤ term
  pub known : chosen ≤ prev + length entries
  pub legal : legal_entries (max 1 prevterm) term entries ≡ true

-- A legal one passes each of them.
pub append_is :
    (term prev prevterm chosen : ℕ) (entries : List Entry) → legal_body term (append prev prevterm chosen entries) ≡ true
    → IsAppend term prev prevterm chosen entries
unfolding legal_body
append_is term prev prevterm chosen entries h =
    let end = prev + length entries in
    let same = beq (eqb prevterm 0) (eqb prev 0) in
    let legal = legal_entries (max 1 prevterm) term entries in
    let t = each_holds (leb end limit ∷ same ∷ leb prevterm term ∷ leb chosen end ∷ legal ∷ []) h in
    record {
      within = leb-true _ _ (t 0);
      start = both_zero prevterm prev (t 1);
      low = leb-true _ _ (t 2);
      known = leb-true _ _ (t 3);
      legal = t 4;
    }

-- There are no others.
pub is_append_lem :
    (term prev prevterm chosen : ℕ) (entries : List Entry) → IsAppend term prev prevterm chosen entries
    → legal_body term (append prev prevterm chosen entries) ≡ true
unfolding legal_body
is_append_lem term prev prevterm chosen entries i =
    and_both (le-leb _ _ i.within)
    (and_both (zero_both prevterm prev i.start)
    (and_both (le-leb _ _ i.low) (and_both (le-leb _ _ i.known) i.legal)))

-- ---- what every legal message has

-- Numbers of 32 bits.
abbrev pub Most : List ℕ → Type 0
Most [] = Unit
Most (n ∷ ns) = (n ≤ term_most) × Most ns

pub most_at : (ns : List ℕ) (i : ℕ) → Most ns → get_or ns i 0 ≤ term_most
most_at [] i h = omega arith
most_at (n ∷ ns) zero h = h.0
most_at (n ∷ ns) (suc i) h = most_at ns i h.1

-- What a legal body has. Its entries' terms lie in some range of 32 bits that does not hold 0.
pub record OwnHeld (b : Body) : Type 0 where
  pub own_most : Most (own_numbers b)
  pub count_most : length (entries_of b) ≤ limit
  pub low : ℕ
  pub high : ℕ
  pub low_first : 1 ≤ low
  pub high_most : high ≤ term_most
  pub entries_legal : legal_entries low high (entries_of b) ≡ true

own_held : (term : ℕ) (b : Body) → term ≤ term_most → legal_body term b ≡ true → OwnHeld b
unfolding legal_body own_numbers entries_of legal_entries
own_held term (vote_request last ballot) most h =
    let r = request_is term last ballot h in
    let small = limit_small in
    record { own_most = (omega arith, (omega arith, (omega arith, (omega arith, tt)))); count_most = omega arith; low = 1; high = 0; low_first = omega arith; high_most = omega arith; entries_legal = refl }
own_held term (vote_yes last ballot es) most h =
    let r = yes_is term last ballot es h in
    let small = limit_small in
    record {
      own_most = (omega arith, (omega arith, (omega arith, (omega arith, tt))));
      count_most = omega arith;
      low = 1;
      high = ballot;
      low_first = omega arith;
      high_most = omega arith;
      entries_legal = r.legal;
    }
own_held term vote_no most h =
    record { own_most = (omega arith, (omega arith, (omega arith, (omega arith, tt)))); count_most = omega arith; low = 1; high = 0; low_first = omega arith; high_most = omega arith; entries_legal = refl }
own_held term (append prev prevterm chosen es) most h =
    let r = append_is term prev prevterm chosen es h in
    let small = limit_small in
    record {
      own_most = (omega arith, (omega arith, (omega arith, (omega arith, tt))));
      count_most = omega arith;
      low = max 1 prevterm;
      high = term;
      low_first = omega arith;
      high_most = most;
      entries_legal = r.legal;
    }
own_held term (append_yes end) most h =
    let p : end ≤ limit = leb-true end limit h in
    let small = limit_small in
    record { own_most = (omega arith, (omega arith, (omega arith, (omega arith, tt)))); count_most = omega arith; low = 1; high = 0; low_first = omega arith; high_most = omega arith; entries_legal = refl }
own_held term (append_no n) most h =
    let p : n ≤ limit = leb-true n limit h in
    let small = limit_small in
    record { own_most = (omega arith, (omega arith, (omega arith, (omega arith, tt)))); count_most = omega arith; low = 1; high = 0; low_first = omega arith; high_most = omega arith; entries_legal = refl }

to_most : (to : ℕ) (b : Body) → legal_to to b ≡ true → to ≤ hubs_most
unfolding legal_to
to_most to (vote_request last ballot) h = omega (arith, eqb-true to 0 h)
to_most to (vote_yes last ballot entries) h = (between_true 1 hubs_most to h).1
to_most to vote_no h = (between_true 1 hubs_most to h).1
to_most to (append prev prevterm chosen entries) h = (between_true 1 hubs_most to h).1
to_most to (append_yes end) h = (between_true 1 hubs_most to h).1
to_most to (append_no length) h = (between_true 1 hubs_most to h).1

-- What a legal message has.
pub record Held (m : Message) : Type 0 where
  pub numbers_most : Most (numbers m)
  pub own : OwnHeld m.body

-- The test says so.
pub legal_held : (m : Message) → legal_message m ≡ true → Held m
unfolding legal_message numbers
legal_held m h =
    let three = legal_to m.to m.body && legal_body m.term m.body in
    let a = both (between 1 term_most m.term) (between 1 hubs_most m.from && three) h in
    let b = both (between 1 hubs_most m.from) three a.1 in
    let d = both (legal_to m.to m.body) (legal_body m.term m.body) b.1 in
    let t = between_true 1 term_most m.term a.0 in
    let f = between_true 1 hubs_most m.from b.0 in
    let o = to_most m.to m.body d.0 in
    let own = own_held m.term m.body t.1 d.1 in
    record { numbers_most = (t.1, (omega arith, (omega arith, own.own_most))); own = own }
