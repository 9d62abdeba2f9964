-- What holds of the place of a text's first wrong byte (rule R46), of every text: the statements. Their proofs stand in proofs/Theorems. Assumes nothing.
use Rattle.std.specs.Prelude.{ℕ, suc, ◌≤◌, ◌<◌, ◌≡◌, ◌↔◌, true, List, [], ◌∷◌, ◌++◌, length, take}
use Rattle.std.proofs.Math.Option.{some}
use Rattle.kinds.specs.Sizes.{text_room}
use Rattle.text.specs.Place.{IsPlace}
use Rattle.message.specs.Message.{Message}
use Rattle.message.specs.Legal.{legal_message}
use Rattle.message.specs.Text.{text, read}
use Rattle.message.specs.Place.{BeginsMessage, RefusedAt}

-- ---- the place

-- Every text has a place, and one only.
abbrev pub EveryTextHasOnePlace : Type 0
EveryTextHasOnePlace = (s : List ℕ) → (p : ℕ) × IsPlace BeginsMessage s p × ((q : ℕ) → IsPlace BeginsMessage s q → q ≡ p)

-- A place parts its text: what stands before it begins a message, and with the byte there, if there is one, nothing does.
abbrev pub PlaceParts : Type 0
PlaceParts =
    (s : List ℕ) (p : ℕ) → IsPlace BeginsMessage s p
    → BeginsMessage (take p s) × (p < length s → BeginsMessage (take (suc p) s) → ⊥)

-- The place that is told of a refused text lies in it or at its end, and is at most the limit of a text.
abbrev pub PlaceWithin : Type 0
PlaceWithin = (s : List ℕ) (p : ℕ) → RefusedAt s p → (p ≤ length s) × (p ≤ text_room)

-- The empty text has place 0.
abbrev pub EmptyText : Type 0
EmptyText = IsPlace BeginsMessage [] 0

-- ---- whole messages

-- A text is accepted exactly if it is the whole text of a legal message, with that message.
abbrev pub AcceptedIsWhole : Type 0
AcceptedIsWhole = (s : List ℕ) (m : Message) → (read s ≡ some m) ↔ ((legal_message m ≡ true) × (text m ≡ s))

-- No legal message's text begins another's.
abbrev pub NoneBeginsAnother : Type 0
NoneBeginsAnother =
    (m n : Message) (r : List ℕ) → legal_message m ≡ true → legal_message n ≡ true → text n ≡ text m ++ r
    → r ≡ []

-- So where more stands behind a whole message, the place is the first byte behind it.
abbrev pub BehindAMessage : Type 0
BehindAMessage =
    (m : Message) (b : ℕ) (bs : List ℕ) → legal_message m ≡ true
    → IsPlace BeginsMessage (text m ++ (b ∷ bs)) (length (text m))
