-- What legality says of who calls and of a message, test by test, and that these tests are all of it. Assumes nothing.
use Prim.Native.Nat.{ℕ, ◌≤◌}
use native.Mathlib.Omega.{arith}
use mathlib.Core.Path.{◌≡◌}
use mathlib.Core.Bool.{true, ◌||◌}
use mathlib.Core.List.{[], ◌∷◌}
use borrow.Author.Tests.{eqb-true}
use lib.Dec.{eqb}
use Rattle.kinds.specs.Sizes.{Who, between, is_size, is_hub, hubs_most, term_most}
use Rattle.message.specs.Message.{Message}
use Rattle.message.specs.Legal.{legal_to, legal_body, legal_message}
use Rattle.kinds.proofs.BoolLaws.{and_both, each_holds, or_either}
use Rattle.kinds.proofs.BetweenLaws.{between_in, between_true}

-- ---- sizes

-- The group and the own number.
pub record IsWho (w : Who) : Type 0 where
  pub least : 3 ≤ w.size
  pub most : w.size ≤ hubs_most
  pub first : 1 ≤ w.own
  pub last : w.own ≤ w.size

is_size_is : (n : ℕ) → is_size n ≡ true → (3 ≤ n) × (n ≤ hubs_most)
unfolding is_size
is_size_is n h =
    or_either (eqb n 3) (eqb n 5 || eqb n 7) h (λ e. omega (arith, eqb-true n 3 e))
    (λ k. or_either (eqb n 5) (eqb n 7) k (λ e. omega (arith, eqb-true n 5 e)) (λ e. omega (arith, eqb-true n 7 e)))

-- A hub of the group.
pub is_hub_is : (n h : ℕ) → is_hub n h ≡ true → (1 ≤ h) × (h ≤ n)
unfolding is_hub
is_hub_is n h e = between_true 1 n h e

-- The step's first tests say so.
pub is_who : (w : Who) → is_size w.size ≡ true → is_hub w.size w.own ≡ true → IsWho w
is_who w s h =
    let size = is_size_is w.size s in
    let own = is_hub_is w.size w.own h in
    record { least = size.0; most = size.1; first = own.0; last = own.1 }

-- ---- a message

-- The tests of a message, as facts; those of its fields stay a test.
pub record IsMessage (m : Message) : Type 0 where
  pub term : 1 ≤ m.term
  pub last : m.term ≤ term_most
  pub from : 1 ≤ m.from
  pub seven : m.from ≤ hubs_most
  pub to : legal_to m.to m.body ≡ true
  pub body : legal_body m.term m.body ≡ true

-- A legal message passes each of them.
pub legal_message_is : (m : Message) → legal_message m ≡ true → IsMessage m
unfolding legal_message
legal_message_is m h =
    let term = between 1 term_most m.term in
    let from = between 1 hubs_most m.from in
    let t = each_holds (term ∷ from ∷ legal_to m.to m.body ∷ legal_body m.term m.body ∷ []) h in
    let terms = between_true 1 term_most m.term (t 0) in
    let hubs = between_true 1 hubs_most m.from (t 1) in
    record { term = terms.0; last = terms.1; from = hubs.0; seven = hubs.1; to = t 2; body = t 3 }

-- There are no others.
pub is_legal_message : (m : Message) → IsMessage m → legal_message m ≡ true
unfolding legal_message
is_legal_message m i =
    and_both (between_in 1 term_most m.term i.term i.last)
    (and_both (between_in 1 hubs_most m.from i.from i.seven) (and_both i.to i.body))
