-- Lists over the seven hubs, hub h at h - 1: what stands for a hub, the list with another thing there, and how many hubs have a property.
-- Assumes nothing.
use Rattle.std.specs.Prelude.{ℕ, zero, suc, ◌+◌, ◌-◌, Bool, true, false, ◌&&◌, List, [], ◌∷◌, get_or, set}

-- What stands for hub h, and the list with x there.
abbrev pub for_hub : {A : Type 0} → List A → ℕ → A → A
for_hub l h none-there = get_or l (h - 1) none-there

abbrev pub set_hub : {A : Type 0} → List A → ℕ → A → List A
set_hub l h x = set l (h - 1) x

-- The same for any number: x for 0, which is no hub's, and for one beyond the list.
unfoldable pub of_hub : {A : Type 0} → List A → A → ℕ → A
of_hub l x zero = x
of_hub l x (suc i) = get_or l i x

-- All of a list's members have a property.
unfoldable pub all : {A : Type 0} → (A → Bool) → List A → Bool
all P [] = true
all P (x ∷ xs) = P x && all P xs

-- How many of a list's members have a property.
unfoldable pub count : {A : Type 0} → (A → Bool) → List A → ℕ
count P [] = 0
count P (x ∷ xs) = elim (P x) [ true ↦ 1 + count P xs | false ↦ count P xs ]
