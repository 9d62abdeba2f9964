-- A packed answer comes apart into what was put in. Assumes nothing.
use Prim.Native.Nat.{ℕ, ◌/◌, ◌%◌, ◌<◌}
use native.Mathlib.Omega.{arith}
use mathlib.Core.Path.{◌≡◌, sym, ◌∙◌, ap}
use Rattle.kinds.specs.Packed.{half, eight_bits, places_room, placed, packed, outcome_in, place_in, many_in}

module _ (lower many : ℕ) where
  -- The upper half.
  pub packed_upper : lower < half → packed lower many / half ≡ many
  packed_upper small = omega arith

  -- The lower half.
  pub packed_lower : lower < half → packed lower many % half ≡ lower
  packed_lower small = omega arith

-- So two that are equal were made of the same.
pub packed_one : (o m p n : ℕ) → o < half → p < half → packed o m ≡ packed p n → (o ≡ p) × (m ≡ n)
packed_one o m p n small little same = (
  sym (packed_lower o m small) ∙ ap (λ (x : ℕ). x % half) same ∙ packed_lower p n little,
  sym (packed_upper o m small) ∙ ap (λ (x : ℕ). x / half) same ∙ packed_upper p n little,
)

-- An outcome alone.
pub packed_alone : (outcome : ℕ) → packed outcome 0 ≡ outcome
packed_alone outcome = omega arith

-- ---- three numbers

-- What an answer says, once it is taken apart: all that was put in.
pub record Parts (answer outcome place many : ℕ) : Type 0 where
  pub outcome_back : outcome_in answer ≡ outcome
  pub place_back : place_in answer ≡ place
  pub many_back : many_in answer ≡ many

-- Each of three numbers comes back as it was put in.
pub parts_back : (outcome place many : ℕ) → outcome < eight_bits → place < places_room → Parts (packed (placed outcome place) many) outcome place many
parts_back outcome place many small inside = record { outcome_back = omega arith; place_back = omega arith; many_back = omega arith }

-- Place 0 leaves the outcome.
pub placed_none : (outcome : ℕ) → placed outcome 0 ≡ outcome
placed_none outcome = omega arith
