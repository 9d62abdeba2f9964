-- What holds of the place of a text's first wrong byte, of every text: the proofs of specs/Theorems. Assumes nothing.
use Prim.Native.Nat.{ℕ, zero, suc}
use native.Mathlib.Omega.{arith}
use mathlib.Core.Path.{sym, ◌∙◌, ap}
use mathlib.Core.List.{List, [], ◌∷◌, append_assoc, append-nil, cons≢nil}
use lib.ListN.{take}
use Rattle.text.specs.Place.{IsPlace}
use Rattle.text.proofs.PlaceLaws.{place_one}
use Rattle.text.proofs.ReaderLaws.{got_rest}
use Rattle.message.specs.Legal.{legal_message}
use Rattle.message.specs.Text.{text, read}
use Rattle.message.specs.Range.{message_in}
use Rattle.message.specs.Place.{BeginsMessage}
use Rattle.message.proofs.PlaceLaws.{refused_within}
use Rattle.message.proofs.ReadLaws.{read_text, read_sound}
use Rattle.begins.specs.Seek.{place_of}
use Rattle.begins.specs.Entries.{seek_message}
use Rattle.begins.specs.Theorems.{
  EveryTextHasOnePlace,
  PlaceParts,
  PlaceWithin,
  EmptyText,
  AcceptedIsWhole,
  NoneBeginsAnother,
  BehindAMessage,
}
use Rattle.begins.proofs.Seeks.{reads_alone}
use Rattle.begins.proofs.MeaningLaws.{place_at, message_means, message_place, begins_nothing}

-- ---- the place

-- Every text has a place, and one only.
pub every_text_has_one_place : EveryTextHasOnePlace
every_text_has_one_place s = (place_of seek_message s, message_place s, λ q y. place_one s q (place_of seek_message s) y (message_place s))

-- What stands before a place begins a message.
place_begins : (s : List ℕ) (p : ℕ) → IsPlace BeginsMessage s p → BeginsMessage (take p s)
place_begins s zero x = begins_nothing
place_begins s (suc p) x = x.before p (omega arith)

-- A place parts its text.
pub place_parts : PlaceParts
place_parts s p x = (place_begins s p x, x.wrong)

-- The place that is told of a refused text lies in it or at its end, and is at most the limit of a text.
pub place_within : PlaceWithin
place_within s p x = refused_within s x

-- The empty text has place 0.
pub empty_text : EmptyText
empty_text = record { inside = omega arith; before = λ q l. absurd (omega arith); wrong = λ l. absurd (omega arith) }

-- ---- whole messages

-- A text is accepted exactly if it is the whole text of a legal message.
pub accepted_is_whole : AcceptedIsWhole
accepted_is_whole s m = (
  λ e.
      let w = read_sound s m e in
      (w.legal, w.text_is),
  λ w. ap read (sym w.1) ∙ read_text m w.0,
)

-- No legal message's text begins another's.
pub none_begins_another : NoneBeginsAnother
none_begins_another m n r h k e =
    got_rest (sym (message_means.written m h r) ∙ ap message_in (sym e) ∙ reads_alone message_in (text n) (message_means.written n k))

-- Where more stands behind a whole message, the place is the first byte behind it.
pub behind_a_message : BehindAMessage
behind_a_message m b bs h =
    let u = text m in
    place_at legal_message text u (b ∷ bs) (record { thing = m; is_legal = h; rest = []; starts = sym (append-nil u) })
    (λ c cs e x. cons≢nil (none_begins_another m x.thing (c ∷ x.rest) h x.is_legal (x.starts ∙ append_assoc u (c ∷ []) x.rest)))
