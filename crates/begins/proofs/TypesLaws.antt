-- The line `type` is sought exactly: no name with its line's end begins as another does. Assumes nothing.
use Prim.Native.Nat.{ℕ}
use mathlib.Core.Path.{◌≡◌, refl, ◌∙◌, ap}
use mathlib.Core.List.{List, [], ◌∷◌, ◌++◌}
use Rattle.text.specs.Line.{LF}
use Rattle.text.specs.Reader.{Got, got, lost, Reader, onward, pure, literal, ◌>>=◌}
use Rattle.text.proofs.ReaderLaws.{lost_never, onward_lost, literal_sound}
use Rattle.message.specs.Fields.{MessageType}
use Rattle.message.specs.Text.{type=, name, type_among, types}
use Rattle.message.specs.Opening.{type_line}
use Rattle.begins.specs.Seek.{found, seek_literal}
use Rattle.begins.specs.Types.{seek_name, seek_types, seek_type}
use Rattle.begins.proofs.Seeks.{Seeks, seeks_then, seeks_pure, seeks_literal, seeks_same}
use Rattle.begins.proofs.EitherLaws.{or_else, either, seeks_either, seeks_last}

abbrev one : MessageType → Reader MessageType
one t = ◌>>=◌ (literal (name t ++ LF)) (λ a. pure t)

seeks_one : (t : MessageType) → Seeks (one t) (seek_name t)
seeks_one t =
    let word = name t ++ LF in
    seeks_then (literal word) (λ a. pure t) (seek_literal word) (λ a. found t) (seeks_literal word) (λ a u r. seeks_pure t)

among_either : (t : MessageType) (ts : List MessageType) (s : List ℕ) → either (one t) (type_among ts) s ≡ type_among (t ∷ ts) s
unfolding type_among or_else onward
among_either t ts s = go (literal (name t ++ LF) s) refl
  where
    go : (g : Got Unit) → literal (name t ++ LF) s ≡ g → either (one t) (type_among ts) s ≡ type_among (t ∷ ts) s
    go (got a r) e = rw (e, type_among)
    go lost e = rw (e, type_among)

among_one : (t : MessageType) (s : List ℕ) → one t s ≡ type_among (t ∷ []) s
unfolding type_among onward
among_one t s = go (literal (name t ++ LF) s) refl
  where
    go : (g : Got Unit) → literal (name t ++ LF) s ≡ g → one t s ≡ type_among (t ∷ []) s
    go (got a r) e = rw (e, type_among)
    go lost e = rw (e, type_among)

-- No name of these begins as the name of t, with its end.
abbrev Apart : MessageType → List MessageType → Type 0
Apart t [] = Unit
Apart t (u ∷ us) = ((rest : List ℕ) → literal (name t ++ LF) ((name u ++ LF) ++ rest) ≡ lost) × Apart t us

apart_lost : (t : MessageType) (ts : List MessageType) → Apart t ts → (s : List ℕ) {a : MessageType} {r : List ℕ} → type_among ts s ≡ got a r → one t s ≡ lost
unfolding type_among
apart_lost t [] h s e = absurd (lost_never e)
apart_lost t (u ∷ us) h s {a} {r} e = go (literal (name u ++ LF) s) refl (λ f. apart_lost t us h.1 s f)
  where
    go : (g : Got Unit) → literal (name u ++ LF) s ≡ g → (type_among us s ≡ got a r → one t s ≡ lost) → one t s ≡ lost
    go (got b q) f ih = onward_lost (λ c. pure t) (ap (literal (name t ++ LF)) (literal_sound (name u ++ LF) s f) ∙ h.0 q)
    go lost f ih = ih (rw (f, type_among) at e)

-- The names are apart from one another.
abbrev Names : List MessageType → Type 0
Names [] = Unit
Names (t ∷ ts) = Apart t ts × Names ts

seeks_more : (t : MessageType) (ts : List MessageType) → Apart t ts → Seeks (type_among ts) (seek_types ts) → Seeks (type_among (t ∷ ts)) (seek_types (t ∷ ts))
unfolding seek_types
seeks_more t ts h x =
    seeks_same (either (one t) (type_among ts)) (type_among (t ∷ ts)) (seek_types (t ∷ ts)) (among_either t ts)
    (seeks_either (one t) (type_among ts) (λ s a r e. apart_lost t ts h s e) (seek_name t) (seek_types ts) (seeks_one t) x)

seeks_names : (t : MessageType) (ts : List MessageType) → Names (t ∷ ts) → Seeks (type_among (t ∷ ts)) (seek_types (t ∷ ts))
unfolding seek_types
seeks_names t [] h = seeks_same (one t) (type_among (t ∷ [])) (seek_types (t ∷ [])) (among_one t) (seeks_last (one t) (seek_name t) (seeks_one t))
seeks_names t (u ∷ us) h = seeks_more t (u ∷ us) h.0 (seeks_names u us h.1)

names_apart : Names types
unfolding types literal
names_apart = (
  (λ r. refl, (λ r. refl, (λ r. refl, (λ r. refl, (λ r. refl, tt))))),
  (
    (λ r. refl, (λ r. refl, (λ r. refl, (λ r. refl, tt)))),
    (
      (λ r. refl, (λ r. refl, (λ r. refl, tt))),
      (
        (λ r. refl, (λ r. refl, tt)),
        (
          (λ r. refl, tt),
          (tt, tt),
        ),
      ),
    ),
  ),
)

-- The six types.
pub seeks_types : Seeks (type_among types) (seek_types types)
unfolding types
seeks_types = seeks_names _ _ names_apart

-- The line `type`.
pub seeks_type : Seeks type_line seek_type
unfolding type_line seek_type
seeks_type =
    seeks_then (literal type=) (λ a. type_among types) (seek_literal type=) (λ a. seek_types types) (seeks_literal type=) (λ a t r. seeks_types)
