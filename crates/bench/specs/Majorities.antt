-- Examples of the largest place that a majority has confirmed (rule R25). A length stands for each of seven hubs, and the first N of them count.
-- Assumes nothing.
use Rattle.std.specs.Prelude.{◌≡◌, [], ◌∷◌}
use Rattle.kinds.specs.Sizes.{limit}
use Rattle.rules.specs.Majority.{majority_place}

pub record MajoritiesHold : Type 0 where
  pub two_of_three : majority_place 3 (4 ∷ 2 ∷ 0 ∷ 0 ∷ 0 ∷ 0 ∷ 0 ∷ []) ≡ 2
  pub three_of_five : majority_place 5 (9 ∷ 0 ∷ 4 ∷ 7 ∷ 0 ∷ 0 ∷ 0 ∷ []) ≡ 4
  pub four_of_seven : majority_place 7 (0 ∷ 3 ∷ 6 ∷ 1 ∷ 5 ∷ 2 ∷ 4 ∷ []) ≡ 3
  -- Two of five are no majority.
  pub two_of_five : majority_place 5 (9 ∷ 0 ∷ 0 ∷ 7 ∷ 0 ∷ 0 ∷ 0 ∷ []) ≡ 0
  -- There is no hub above N.
  pub above_n : majority_place 3 (9 ∷ 4 ∷ 0 ∷ 9 ∷ 9 ∷ 9 ∷ 9 ∷ []) ≡ 4
  -- There is no place beyond the last.
  pub beyond_last : majority_place 3 (90_000 ∷ 80_000 ∷ 0 ∷ 0 ∷ 0 ∷ 0 ∷ 0 ∷ []) ≡ limit
