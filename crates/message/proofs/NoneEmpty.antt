-- No range is empty: whatever legal numbers stand before a field (rule R30), there is a legal number for it; and for an entry's term, where
-- entries follow. So a reader by ranges fails at the very line that no legal message has there. Assumes nothing.
use Prim.Native.Nat.{ℕ, ◌-◌, ◌≤◌, ◌<◌, max}
use native.Mathlib.Omega.{arith}
use mathlib.Core.Bool.{cond}
use mathlib.Core.List.{List, [], ◌∷◌}
use borrow.Author.Tests.{eqb-false}
use lib.Dec.{eqb}
use Rattle.kinds.specs.Sizes.{limit}
use Rattle.command.proofs.Tests.{by_test}
use Rattle.message.specs.Fields.{
  MessageType,
  type=vote_request,
  type=vote_yes,
  type=vote_no,
  type=append,
  type=append_yes,
  type=append_no,
  Field,
  term=,
  to=,
  last=,
  prev=,
  prevterm=,
  own_fields,
  fields,
  number_of,
  count_in,
}
use Rattle.message.specs.Range.{range, low_in, high_in}
use Rattle.message.proofs.RangeLegal.{cond_in, not_zero}

-- A field's number lies in its range.
abbrev pub Lies : MessageType → Field → List ℕ → Type 0
Lies t f ns = ((range t f ns).lo ≤ number_of f ns) × (number_of f ns ≤ (range t f ns).hi)

-- The range of the first of these fields is not empty; if its number lies there, the next one's is not, and so on. Last come the entries' terms.
abbrev pub NoneEmpty : MessageType → List Field → List ℕ → Type 0
NoneEmpty t [] ns = 0 < count_in t ns → low_in t ns ≤ high_in t ns
NoneEmpty t (f ∷ fs) ns = ((range t f ns).lo ≤ (range t f ns).hi) × (Lies t f ns → NoneEmpty t fs ns)

-- ---- the ranges that depend on numbers

-- A vote-request's ballot.
some_ballot : (term last : ℕ) → 1 ≤ term → last ≤ cond (eqb term 1) 0 limit → cond (eqb last 0) 0 1 ≤ term - 1
some_ballot term last h l =
    let zeroed = (cond_in term 1 last limit l).1 in
    by_test (eqb last 0) (λ e. rw e (omega arith))
    (λ e.
    let two : 1 ≤ term - 1 = not_zero (term - 1) (λ z. eqb-false last 0 e (zeroed (omega arith))) in
    rw e two)

-- A vote-yes's entries.
some_term : (ballot count most : ℕ) → count ≤ cond (eqb ballot 0) 0 most → 0 < count → 1 ≤ ballot
some_term ballot count most h more =
    let zeroed = (cond_in ballot 0 count most h).1 in
    not_zero ballot (λ z. omega (arith, zeroed z))

-- An append's prevterm,
some_prevterm : (prev term : ℕ) → 1 ≤ term → cond (eqb prev 0) 0 1 ≤ cond (eqb prev 0) 0 term
some_prevterm prev term h = by_test (eqb prev 0) (λ e. rw e (omega arith)) (λ e. rw e h)

-- and its entries.
some_later : (prev prevterm term : ℕ) → 1 ≤ term → prevterm ≤ cond (eqb prev 0) 0 term → max 1 prevterm ≤ term
some_later prev prevterm term h p = omega (arith, (cond_in prev 0 prevterm term p).0)

-- ---- all

-- What follows term, from and to.
own_none_empty : (t : MessageType) (ns : List ℕ) → 1 ≤ number_of term= ns → NoneEmpty t (own_fields t) ns
unfolding own_fields range count_in low_in high_in
own_none_empty type=vote_request ns h =
    (omega arith, λ last. (some_ballot (number_of term= ns) (number_of last= ns) h last.1, λ ballot more. absurd (omega arith)))
own_none_empty type=vote_yes ns h =
    (omega arith, λ last. (omega arith, λ ballot. (omega arith, λ count more. some_term _ _ _ count.1 more)))
own_none_empty type=vote_no ns h = λ more. absurd (omega arith)
own_none_empty type=append ns h = (
  omega arith,
  λ prev. (
    some_prevterm (number_of prev= ns) (number_of term= ns) h,
    λ prevterm. (
      omega arith,
      λ chosen. (
        omega arith,
        λ count more. some_later (number_of prev= ns) (number_of prevterm= ns) (number_of term= ns) h prevterm.1,
      ),
    ),
  ),
)
own_none_empty type=append_yes ns h = (omega arith, λ end more. absurd (omega arith))
own_none_empty type=append_no ns h = (omega arith, λ n more. absurd (omega arith))

to_some : (t : MessageType) (ns : List ℕ) → (range t to= ns).lo ≤ (range t to= ns).hi
unfolding range
to_some type=vote_request ns = omega arith
to_some type=vote_yes ns = omega arith
to_some type=vote_no ns = omega arith
to_some type=append ns = omega arith
to_some type=append_yes ns = omega arith
to_some type=append_no ns = omega arith

-- No range of any type is empty.
pub none_empty : (t : MessageType) (ns : List ℕ) → NoneEmpty t (fields t) ns
unfolding fields range
none_empty t ns = (omega arith, λ term. (omega arith, λ from. (to_some t ns, λ to. own_none_empty t ns term.0)))
