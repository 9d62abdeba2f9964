-- The place that is told of a refused text: there is one, and none with any outcome but 4. Assumes nothing.
use Prim.Native.Nat.{ℕ, ◌≤◌}
use native.Mathlib.Omega.{arith}
use mathlib.Core.List.{List}
use mathlib.Core.Path.{◌≡◌, refl, sym, ◌∙◌}
use lib.Dec.{eqb, leb}
use lib.ListN.{length}
use borrow.Author.Tests.{eqb-true, eqb-false, leb-true, leb-false}
use Rattle.kinds.specs.Outcome.{bad_message}
use Rattle.kinds.specs.Sizes.{text_room}
use Rattle.text.proofs.PlaceLaws.{place_one}
use Rattle.command.proofs.Tests.{by_test}
use Rattle.message.specs.Place.{RefusedAt, PlaceWith}

-- A text has one place.
pub refused_one : (s : List ℕ) {p q : ℕ} → RefusedAt s p → RefusedAt s q → p ≡ q
refused_one s {p} {q} x y =
    by_test (leb (length s) text_room)
    (λ e. let h = leb-true (length s) text_room e in place_one s p q (x.first_wrong h) (y.first_wrong h))
    (λ e. let h = leb-false (length s) text_room e in x.too_long h ∙ sym (y.too_long h))

-- It lies within the text, and within the limit.
pub refused_within : (s : List ℕ) {p : ℕ} → RefusedAt s p → (p ≤ length s) × (p ≤ text_room)
refused_within s {p} x =
    by_test (leb (length s) text_room)
    (λ e. let h = leb-true (length s) text_room e in let i = (x.first_wrong h).inside in (i, omega (arith, h, i)))
    (λ e. let h = leb-false (length s) text_room e in let i = x.too_long h in (omega (arith, h, i), omega (arith, i)))

-- An outcome goes with one place.
pub place_with_one : (outcome : ℕ) (s : List ℕ) {p q : ℕ} → PlaceWith outcome s p → PlaceWith outcome s q → p ≡ q
place_with_one outcome s x y =
    by_test (eqb outcome bad_message)
    (λ e. let h = eqb-true outcome bad_message e in refused_one s (x.refused h) (y.refused h))
    (λ e. let n = eqb-false outcome bad_message e in x.others n ∙ sym (y.others n))

-- It is within the limit.
pub place_with_most : (outcome : ℕ) (s : List ℕ) {p : ℕ} → PlaceWith outcome s p → p ≤ text_room
place_with_most outcome s x =
    by_test (eqb outcome bad_message)
    (λ e. (refused_within s (x.refused (eqb-true outcome bad_message e))).1)
    (λ e. let none = x.others (eqb-false outcome bad_message e) in omega (arith, none))

-- None goes with any outcome but 4.
pub no_place : {outcome : ℕ} {s : List ℕ} → (outcome ≡ bad_message → ⊥) → PlaceWith outcome s 0
no_place other = record { refused = λ e. absurd (other e); others = λ _. refl }

-- With 4 it is the text's.
pub with_place : {s : List ℕ} {p : ℕ} → RefusedAt s p → PlaceWith bad_message s p
with_place x = record { refused = λ _. x; others = λ other. absurd (other refl) }
