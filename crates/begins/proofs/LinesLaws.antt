-- Lines, and the lines of a message's fields by their ranges, are sought exactly: no range is empty, whatever numbers of their ranges stand before.
-- Assumes nothing.
use Prim.Native.Nat.{ℕ, ◌≤◌, ◌<◌}
use native.Mathlib.Omega.{arith}
use mathlib.Core.Path.{◌≡◌}
use mathlib.Core.List.{List, [], ◌∷◌}
use Rattle.kinds.proofs.BetweenLaws.{between_below}
use Rattle.text.specs.Reader.{got, literal}
use Rattle.text.specs.Range.{number_in, line_in}
use Rattle.text.proofs.ReaderLaws.{got_same, onward_sound}
use Rattle.message.specs.Fields.{
  MessageType,
  type=vote_request,
  type=vote_yes,
  type=vote_no,
  type=append,
  type=append_yes,
  type=append_no,
  Field,
  own_fields,
  fields,
  unset,
  with_number,
  count_in,
}
use Rattle.message.specs.Text.{key}
use Rattle.message.specs.Range.{range, field_in, low_in, high_in, lines_in}
use Rattle.message.proofs.NoneEmpty.{NoneEmpty, none_empty}
use Rattle.begins.specs.Seek.{seek_literal}
use Rattle.begins.specs.Digits.{seek_number}
use Rattle.begins.specs.Lines.{seek_line, seek_field, seek_lines}
use Rattle.begins.proofs.Seeks.{Seeks, seeks_then, seeks_pure, seeks_literal}
use Rattle.begins.proofs.NumberLaws.{seeks_number, number_range}

-- ---- a line

-- A line whose number lies in a range that is not empty.
pub seeks_line : (key : List ℕ) (lo hi : ℕ) → lo ≤ hi → Seeks (line_in key lo hi) (seek_line key lo hi)
unfolding line_in seek_line
seeks_line key lo hi R =
    seeks_then (literal key) (λ a. number_in lo hi 10) (seek_literal key) (λ a. seek_number lo hi 10) (seeks_literal key)
    (λ a t r. seeks_number lo hi 10 R (between_below 48 57 10 (omega arith)))

-- The number that is read lies there.
pub line_range : (key : List ℕ) (lo hi : ℕ) (s : List ℕ) {x : ℕ} {rest : List ℕ} → line_in key lo hi s ≡ got x rest → (lo ≤ x) × (x ≤ hi)
unfolding line_in
line_range key lo hi s e =
    let k = onward_sound e in
    number_range lo hi 10 k.left k.next

-- ---- no range is empty

-- Behind the numbers ns the fields fs, then the entries, can follow: each range has numbers, and any of them can be followed.
abbrev pub Open : MessageType → List Field → List ℕ → Type 0
Open t [] ns = 0 < count_in t ns → low_in t ns ≤ high_in t ns
Open t (f ∷ fs) ns =
    ((range t f ns).lo ≤ (range t f ns).hi)
    × ((n : ℕ) → (range t f ns).lo ≤ n → n ≤ (range t f ns).hi → Open t fs (with_number f n ns))

-- What follows term, from and to; `none` says that no range is empty, whatever the other four numbers are.
open_own : (t : MessageType) (term from to : ℕ) →
    ((x y z w : ℕ) → NoneEmpty t (own_fields t) (term ∷ from ∷ to ∷ x ∷ y ∷ z ∷ w ∷ [])) →
    Open t (own_fields t) (term ∷ from ∷ to ∷ 0 ∷ 0 ∷ 0 ∷ 0 ∷ [])
unfolding own_fields range count_in low_in high_in
open_own type=vote_request term from to none = (
  (none 0 0 0 0).0,
  λ last a b.
      (((none last 0 0 0).1 (a, b)).0, λ ballot c d. ((none last ballot 0 0).1 (a, b)).1 (c, d)),
)
open_own type=vote_yes term from to none = (
  (none 0 0 0 0).0,
  λ last a b. (
    ((none last 0 0 0).1 (a, b)).0,
    λ ballot c d.
        ((((none last ballot 0 0).1 (a, b)).1 (c, d)).0, λ count e f. (((none last ballot 0 count).1 (a, b)).1 (c, d)).1 (e, f)),
  ),
)
open_own type=vote_no term from to none = none 0 0 0 0
open_own type=append term from to none = (
  (none 0 0 0 0).0,
  λ prev a b. (
    ((none prev 0 0 0).1 (a, b)).0,
    λ prevterm c d. (
      (((none prev prevterm 0 0).1 (a, b)).1 (c, d)).0,
      λ chosen e f. (
        ((((none prev prevterm chosen 0).1 (a, b)).1 (c, d)).1 (e, f)).0,
        λ count g h.
            ((((none prev prevterm chosen count).1 (a, b)).1 (c, d)).1 (e, f)).1 (g, h),
      ),
    ),
  ),
)
open_own type=append_yes term from to none = ((none 0 0 0 0).0, λ end a b. (none end 0 0 0).1 (a, b))
open_own type=append_no term from to none = ((none 0 0 0 0).0, λ n a b. (none n 0 0 0).1 (a, b))

-- Every type's lines can be followed, from the first number on.
pub open_all : (t : MessageType) → Open t (fields t) unset
unfolding fields range
open_all t =
    let none = none_empty t in (
      (none unset).0,
      λ term a b. (
        ((none (term ∷ 0 ∷ 0 ∷ 0 ∷ 0 ∷ 0 ∷ 0 ∷ [])).1 (a, b)).0,
        λ from c d. (
          (((none (term ∷ from ∷ 0 ∷ 0 ∷ 0 ∷ 0 ∷ 0 ∷ [])).1 (a, b)).1 (c, d)).0,
          λ to e f.
              open_own t term from to (λ x y z w. (((none (term ∷ from ∷ to ∷ x ∷ y ∷ z ∷ w ∷ [])).1 (a, b)).1 (c, d)).1 (e, f)),
        ),
      ),
    )

-- ---- lines

-- Lines that can be followed.
pub seeks_lines : (t : MessageType) (fs : List Field) (ns : List ℕ) → Open t fs ns → Seeks (lines_in t fs ns) (seek_lines t fs ns)
unfolding lines_in seek_lines
seeks_lines t [] ns o = seeks_pure ns
seeks_lines t (f ∷ fs) ns o =
    let lo = (range t f ns).lo in
    let hi = (range t f ns).hi in
    seeks_then (field_in t f ns) (λ n. lines_in t fs (with_number f n ns)) (seek_field t f ns) (λ n. seek_lines t fs (with_number f n ns))
    (seeks_line (key f) lo hi o.0)
    (λ n u r.
    let w = line_range (key f) lo hi u r in
    seeks_lines t fs (with_number f n ns) (o.1 n w.0 w.1))

-- What is read leaves the entries open.
pub lines_open : (t : MessageType) (fs : List Field) (ns s : List ℕ) {ms rest : List ℕ} → Open t fs ns → lines_in t fs ns s ≡ got ms rest → Open t [] ms
unfolding lines_in
lines_open t [] ns s o e = got_same (λ l r. Open t [] l) e o
lines_open t (f ∷ fs) ns s o e =
    let k = onward_sound e in
    let w = line_range (key f) (range t f ns).lo (range t f ns).hi s k.first in
    lines_open t fs (with_number f k.value ns) k.left (o.1 k.value w.0 w.1) k.next
