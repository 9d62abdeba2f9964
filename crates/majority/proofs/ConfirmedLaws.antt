-- Laws of counting the confirmed lengths. Assumes nothing.
use Prim.Native.Nat.{ℕ, zero, suc}
use mathlib.Core.Path.{◌≡◌, refl, sym, ◌∙◌, ap}
use mathlib.Core.Bool.{Bool}
use mathlib.Core.List.{List, [], ◌∷◌}
use lib.ListN.{take, get_or}
use Rattle.std.specs.List.{count_by}
use Rattle.kinds.specs.declared.Place.{Place}
use Rattle.kinds.specs.Of.{place}
use Rattle.state.specs.Legal.{count}
use Rattle.state.proofs.LegalLaws.{count_is}
use Rattle.rules.proofs.CountLaws.{tally, count_cons}
use Rattle.majority.specs.Numbers.{place_numbers}

-- A length's number stands where the length does.
pub number_at : (ps : List Place) (i : ℕ) → get_or (place_numbers ps) i 0 ≡ (get_or ps i (place 0)).0
number_at [] i = refl
number_at (p ∷ ps) zero = refl
number_at (p ∷ ps) (suc i) = number_at ps i

-- The numbers of the first lengths.
pub numbers_take : (n : ℕ) (ps : List Place) → take n (place_numbers ps) ≡ place_numbers (take n ps)
numbers_take zero ps = refl
numbers_take (suc n) [] = refl
numbers_take (suc n) (p ∷ ps) = rw (numbers_take n ps)

-- The lengths whose numbers have a property.
count_numbers : (P : ℕ → Bool) (ps : List Place) → count (λ (q : Place). P q.0) ps ≡ count P (place_numbers ps)
unfolding count
count_numbers P [] = refl
count_numbers P (p ∷ ps) =
    count_cons (λ (q : Place). P q.0) p ps (P p.0) refl ∙ ap (tally (P p.0)) (count_numbers P ps) ∙ sym (count_cons P p.0 (place_numbers ps) (P p.0) refl)

-- The first lengths whose numbers have a property, as the library counts them.
pub numbers_counted : (P : ℕ → Bool) (n : ℕ) (ps : List Place) → count_by (λ (q : Place). P q.0) (take n ps) ≡ count P (take n (place_numbers ps))
numbers_counted P n ps = rw (numbers_take n ps) (count_is (λ (q : Place). P q.0) (take n ps) ∙ count_numbers P (take n ps))
