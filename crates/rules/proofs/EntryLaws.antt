-- Laws of legal entries: other bounds, parts, one list after another; and of the term of an entry of a log. Assumes nothing.
use Prim.Native.Nat.{ℕ, zero, suc, ◌≤◌, ◌<◌, max}
use native.Mathlib.Omega.{arith}
use mathlib.Core.Path.{◌≡◌, refl}
use mathlib.Core.Logic.{◌↔◌}
use mathlib.Core.Bool.{true}
use mathlib.Core.List.{List, [], ◌∷◌, ◌++◌, map}
use lib.ListN.{length, take, drop}
use Rattle.kinds.proofs.BetweenLaws.{between_in}
use Rattle.command.specs.Command.{Command, legal_command}
use Rattle.command.specs.Entry.{Entry, legal_entries}
use Rattle.state.specs.Legal.{all}
use Rattle.command.proofs.EntryLaws.{legal_entries_first, first_legal_entries, legal_entries_wider}
use Rattle.rules.specs.Events.{term_at}
use Rattle.kinds.proofs.BoolLaws.{and_first, and_second, and_both}

-- ---- the last term

-- The term of the last entry; without entries the one given.
unfoldable pub last_term : ℕ → List Entry → ℕ
last_term low [] = low
last_term low (e ∷ es) = last_term e.term es

-- Terms never fall.
pub last_term_from : (low high : ℕ) (es : List Entry) → legal_entries low high es ≡ true → low ≤ last_term low es
unfolding last_term
last_term_from low high [] h = omega arith
last_term_from low high (e ∷ es) h =
    let f = legal_entries_first low high e es h in
    omega (arith, f.from, last_term_from e.term high es f.rest)

-- They stay within the bound.
pub last_term_to : (low high : ℕ) (es : List Entry) → low ≤ high → legal_entries low high es ≡ true → last_term low es ≤ high
unfolding last_term
last_term_to low high [] p h = p
last_term_to low high (e ∷ es) p h =
    let f = legal_entries_first low high e es h in
    last_term_to e.term high es f.to f.rest

-- ---- parts

-- A first part.
pub legal_entries_take : (low high n : ℕ) (es : List Entry) → legal_entries low high es ≡ true → legal_entries low high (take n es) ≡ true
unfolding legal_entries
legal_entries_take low high zero es h = refl
legal_entries_take low high (suc n) [] h = refl
legal_entries_take low high (suc n) (e ∷ es) h =
    let f = legal_entries_first low high e es h in
    first_legal_entries low high e (take n es)
    (record { from = f.from; to = f.to; command = f.command; rest = legal_entries_take e.term high n es f.rest })

-- The rest, which goes on from the first part's last term.
pub legal_entries_drop :
    (low high n : ℕ) (es : List Entry) → legal_entries low high es ≡ true → legal_entries (last_term low (take n es)) high (drop n es) ≡ true
unfolding legal_entries last_term
legal_entries_drop low high zero es h = h
legal_entries_drop low high (suc n) [] h = refl
legal_entries_drop low high (suc n) (e ∷ es) h =
    let f = legal_entries_first low high e es h in
    legal_entries_drop e.term high n es f.rest

-- The rest, within the bounds of the whole.
pub legal_entries_after : (low high n : ℕ) (es : List Entry) → legal_entries low high es ≡ true → legal_entries low high (drop n es) ≡ true
legal_entries_after low high n es h =
    legal_entries_wider (last_term low (take n es)) low high high (drop n es) (last_term_from low high (take n es) (legal_entries_take low high n es h))
    (omega arith) (legal_entries_drop low high n es h)

-- ---- the term at a place

-- The term at a place is the last up to there.
term_at_take : (low : ℕ) (log : List Entry) (p : ℕ) → p < length log → term_at log (suc p) ≡ last_term low (take (suc p) log)
unfolding term_at last_term
term_at_take low [] p h = absurd (omega arith)
term_at_take low (e ∷ log) zero h = refl
term_at_take low (e ∷ log) (suc p) h = term_at_take e.term log p (omega arith)

-- The term at a place of a legal log: 0 exactly at place 0, within the bound, and from it on the entries after the place go on.
pub record IsTermAt (high : ℕ) (log : List Entry) (p : ℕ) : Type 0 where
  pub start : (term_at log p ≡ 0) ↔ (p ≡ 0)
  pub low : term_at log p ≤ high
  pub last : last_term 1 (take p log) ≡ max 1 (term_at log p)

-- A legal log says so of each of its places.
pub term_at_is : (high : ℕ) (log : List Entry) (p : ℕ) → legal_entries 1 high log ≡ true → 1 ≤ high → p ≤ length log → IsTermAt high log p
unfolding term_at last_term
term_at_is high log zero h first in_log = record { start = (λ e. refl, λ e. refl); low = omega arith; last = omega arith }
term_at_is high log (suc p) h first in_log =
    let part = legal_entries_take 1 high (suc p) log h in
    let same = term_at_take 1 log p in_log in
    let from = last_term_from 1 high (take (suc p) log) part in
    record {
      start = (λ e. absurd (omega arith), λ e. absurd (omega arith));
      low = omega (arith, last_term_to 1 high (take (suc p) log) first part);
      last = omega arith;
    }

-- ---- one list after another

-- One list after another, which goes on from the last term.
pub legal_entries_append :
    (low high : ℕ) (xs ys : List Entry) → legal_entries low high xs ≡ true
    → legal_entries (last_term low xs) high ys ≡ true → legal_entries low high (xs ++ ys) ≡ true
unfolding last_term
legal_entries_append low high [] ys h k = k
legal_entries_append low high (e ∷ xs) ys h k =
    let f = legal_entries_first low high e xs h in
    first_legal_entries low high e (xs ++ ys)
    (record { from = f.from; to = f.to; command = f.command; rest = legal_entries_append e.term high xs ys f.rest k })

-- Legal commands, all with one term.
pub legal_entries_same :
    {A : Type 0} (f : A → Command) (low t : ℕ) (l : List A) → low ≤ t → all (λ x. legal_command (f x)) l ≡ true
    → legal_entries low t (map (λ x. record { term = t; command = f x }) l) ≡ true
unfolding legal_entries all
legal_entries_same f low t [] p h = refl
legal_entries_same f low t (x ∷ l) p h =
    let first = legal_command (f x) in
    let rest = all (λ y. legal_command (f y)) l in
    and_both (between_in low t t p (omega arith))
    (and_both (and_first first rest h) (legal_entries_same f t t l (omega arith) (and_second first rest h)))

-- Legal commands join a legal log with a term that is no lower.
pub legal_entries_joined :
    {A : Type 0} (f : A → Command) (ballot t : ℕ) (log : List Entry) (l : List A) → ballot ≤ t → 1 ≤ t → legal_entries 1 ballot log ≡ true
    → all (λ x. legal_command (f x)) l ≡ true → legal_entries 1 t (log ++ map (λ x. record { term = t; command = f x }) l) ≡ true
legal_entries_joined f ballot t log l up first held new =
    let wider = legal_entries_wider 1 1 ballot t log (omega arith) up held in
    legal_entries_append 1 t log (map (λ x. record { term = t; command = f x }) l) wider
    (legal_entries_same f (last_term 1 log) t l (last_term_to 1 t log first wider) new)

-- The commands of legal entries are legal.
pub legal_entries_commands : (low high : ℕ) (es : List Entry) → legal_entries low high es ≡ true → all (λ e. legal_command e.command) es ≡ true
unfolding all
legal_entries_commands low high [] h = refl
legal_entries_commands low high (e ∷ es) h =
    let f = legal_entries_first low high e es h in
    and_both f.command (legal_entries_commands e.term high es f.rest)
