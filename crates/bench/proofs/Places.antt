-- Damaged messages: each row of the table tells the place of its text by the place's meaning. The places are computed, and what is computed is the place.
-- Assumes nothing.
use Prim.Native.Nat.{ℕ}
use mathlib.Core.Path.{◌≡◌, refl, subst}
use mathlib.Core.List.{List, [], ◌∷◌, head-eq_of_cons-eq, tail-eq_of_cons-eq}
use Rattle.text.specs.Place.{IsPlace}
use Rattle.message.specs.Place.{BeginsMessage}
use Rattle.begins.specs.Seek.{place_of}
use Rattle.begins.specs.Entries.{seek_message}
use Rattle.bench.specs.Places.{Damaged, damaged, EachIsPlace, DamagedPlaces}
use Rattle.begins.proofs.Computed.{computed}
use Rattle.begins.proofs.MeaningLaws.{message_place}

-- The places that the seeker finds,
abbrev sought : List Damaged → List ℕ
sought [] = []
sought (d ∷ ds) = place_of seek_message d.text ∷ sought ds

-- and those that the rows tell.
abbrev told : List Damaged → List ℕ
told [] = []
told (d ∷ ds) = d.place ∷ told ds

-- Rows that tell what the seeker finds tell the places.
each_is_place : (ds : List Damaged) → sought ds ≡ told ds → EachIsPlace ds
each_is_place [] e = tt
each_is_place (d ∷ ds) e =
    (subst (λ (p : ℕ). IsPlace BeginsMessage d.text p) (head-eq_of_cons-eq e) (message_place d.text), each_is_place ds (tail-eq_of_cons-eq e))

-- They are the same, computed.
sought_told : sought damaged ≡ told damaged
unfolding computed
sought_told = refl

-- Each row tells its text's place.
pub damaged_places : DamagedPlaces
damaged_places = each_is_place damaged sought_told
