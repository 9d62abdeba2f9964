-- A seeker reads as its reader does. So a reader may go ahead as far as it reads, and the seeker is asked only from the line on that it does not read:
-- the first wrong byte of that line is that of the whole text. Assumes nothing.
use Prim.Native.Nat.{ℕ, zero, suc, ◌≤◌, ◌<◌}
use native.Mathlib.Omega.{arith}
use mathlib.Core.Path.{◌≡◌, refl, sym, ◌∙◌, ap, subst}
use mathlib.Core.List.{List, [], ◌∷◌, append-nil, nil≢cons}
use lib.ListN.{take, drop}
use Rattle.text.specs.Reader.{Got, got, lost, Reader}
use Rattle.text.proofs.ReaderLaws.{got_value, got_rest, got_same, lost_never, onward_sound}
use Rattle.command.specs.Entry.{Entry}
use Rattle.message.specs.Message.{Message}
use Rattle.message.specs.Fields.{MessageType, Field, fields, unset, with_number}
use Rattle.message.specs.Opening.{Opening, type_line, opening}
use Rattle.message.specs.Text.{key}
use Rattle.message.specs.Range.{range, field_in, lines_in, entry_in, entries_in, least_after, message_in}
use Rattle.begins.specs.Seek.{Sought, found, wrong, Seeker, on, rest_of}
use Rattle.begins.specs.Lines.{seek_field, seek_lines}
use Rattle.begins.specs.Types.{seek_type}
use Rattle.begins.specs.Entries.{seek_entry, seek_entries, seek_opening, seek_after, seek_message}
use Rattle.begins.proofs.Exact.{Exact}
use Rattle.begins.proofs.Seeks.{Seeks}
use Rattle.begins.proofs.LinesLaws.{Open, open_all, seeks_line, line_range}
use Rattle.begins.proofs.TypesLaws.{seeks_type}
use Rattle.begins.proofs.EntriesLaws.{seeks_entry, entry_term}
use Rattle.begins.proofs.MessageLaws.{seeks_opening, seeks_message}

-- ---- a seeker and its reader

-- What is found, without the place.
unfoldable pub got_of : {A : Type 0} → Sought A → Got A
got_of (found a r) = got a r
got_of (wrong r) = lost

-- What is exact reads as the reader does.
pub agree : {A : Type 0} (p : Reader A) (s : List ℕ) (o : Sought A) → Exact p s o → p s ≡ got_of o
unfolding got_of
agree p s (found a r) x = ap p x.split ∙ x.reads r
agree p s (wrong []) x = ap p (x.split ∙ append-nil x.good) ∙ x.stops
agree p s (wrong (b ∷ bs)) x = ap p x.split ∙ x.stops bs

found_of : {A : Type 0} (o : Sought A) {a : A} {r : List ℕ} → got_of o ≡ got a r → o ≡ found a r
unfolding got_of
found_of (found b q) e = λ i. found (got_value e i) (got_rest e i)
found_of (wrong q) e = absurd (lost_never e)

wrong_of : {A : Type 0} (o : Sought A) → got_of o ≡ lost → o ≡ wrong (rest_of o)
unfolding got_of rest_of
wrong_of (found b q) e = absurd (lost_never (sym e))
wrong_of (wrong q) e = refl

module _ {A : Type 0} (p : Reader A) (g : Seeker A) (x : Seeks p g) (s : List ℕ) where
  -- What the reader reads the seeker finds.
  pub found_back : {a : A} {r : List ℕ} → p s ≡ got a r → g s ≡ found a r
  found_back e = found_of (g s) (sym (agree p s (g s) (x.exact s)) ∙ e)

  -- What the reader does not read is wrong.
  pub wrong_back : p s ≡ lost → g s ≡ wrong (rest_of (g s))
  wrong_back e = wrong_of (g s) (sym (agree p s (g s) (x.exact s)) ∙ e)

-- ---- what is left of two seekers

module _ {A B : Type 0} (g : A → Seeker B) where
  -- Behind what the first found.
  rest_found : {o : Sought A} {a : A} {r : List ℕ} → o ≡ found a r → rest_of (on o g) ≡ rest_of (g a r)
  unfolding on
  rest_found e = rw e

  -- Where the first is wrong.
  rest_wrong : {o : Sought A} → o ≡ wrong (rest_of o) → rest_of (on o g) ≡ rest_of o
  unfolding on rest_of
  rest_wrong {o} e = ap (λ (x : Sought A). rest_of (on x g)) e

-- A reader and its seeker, and what is sought behind them.
module _ {A B : Type 0} (p : Reader A) (g : Seeker A) (x : Seeks p g) (f : A → Seeker B) (s : List ℕ) where
  -- What the reader does not read is wrong where its seeker is.
  pub rest_lost : p s ≡ lost → rest_of (on (g s) f) ≡ rest_of (g s)
  rest_lost e = rest_wrong f (wrong_back p g x s e)

  -- Behind what it reads the other decides.
  pub rest_got : {a : A} {r : List ℕ} → p s ≡ got a r → rest_of (on (g s) f) ≡ rest_of (f a r)
  rest_got e = rest_found f (found_back p g x s e)

-- What is only told leaves what was left.
rest_pure : {A B : Type 0} (f : A → B) (o : Sought A) → rest_of (on o (λ a. found (f a))) ≡ rest_of o
unfolding on rest_of
rest_pure f (found a r) = refl
rest_pure f (wrong r) = refl

-- ---- lines

lines_wrong_from :
    (t : MessageType) (n : ℕ) (all : List Field) (before s : List ℕ) {ns q : List ℕ} {f : Field} {fs : List Field} → Open t all before →
    lines_in t (take n all) before s ≡ got ns q → drop n all ≡ f ∷ fs → field_in t f ns q ≡ lost →
    rest_of (seek_lines t all before s) ≡ rest_of (seek_field t f ns q)
unfolding lines_in seek_lines
lines_wrong_from t zero all before s {f = f} {fs} o e d l =
    ap (λ (gs : List Field). rest_of (seek_lines t gs before s)) d
    ∙ got_same (λ ns q. field_in t f ns q ≡ lost → rest_of (seek_lines t (f ∷ fs) before s) ≡ rest_of (seek_field t f ns q)) e
    (rest_lost (field_in t f before) (seek_field t f before)
    (seeks_line (key f) (range t f before).lo (range t f before).hi (subst (λ (gs : List Field). Open t gs before) d o).0)
    (λ x. seek_lines t fs (with_number f x before)) s)
    l
lines_wrong_from t (suc n) [] before s o e d l = absurd (nil≢cons d)
lines_wrong_from t (suc n) (g ∷ gs) before s o e d l =
    let k = onward_sound e in
    let w = line_range (key g) (range t g before).lo (range t g before).hi s k.first in
    rest_got (field_in t g before) (seek_field t g before) (seeks_line (key g) (range t g before).lo (range t g before).hi o.0)
    (λ x. seek_lines t gs (with_number g x before)) s k.first
    ∙ lines_wrong_from t n gs (with_number g k.value before) k.left (o.1 k.value w.0 w.1) k.next d l

-- If so many lines of a type are read and the next one is not, the lines are wrong where that one is.
pub lines_wrong :
    (t : MessageType) (n : ℕ) (s : List ℕ) {ns q : List ℕ} {f : Field} {fs : List Field} →
    lines_in t (take n (fields t)) unset s ≡ got ns q → drop n (fields t) ≡ f ∷ fs → field_in t f ns q ≡ lost →
    rest_of (seek_lines t (fields t) unset s) ≡ rest_of (seek_field t f ns q)
lines_wrong t n s e d l = lines_wrong_from t n (fields t) unset s (open_all t) e d l

-- ---- the lines before the entries

-- If the line `type` is not read, the opening is wrong where that line is.
pub type_wrong : (s : List ℕ) → type_line s ≡ lost → rest_of (seek_opening s) ≡ rest_of (seek_type s)
unfolding seek_opening
type_wrong s e = rest_lost type_line seek_type seeks_type _ s e

-- If it is read, the opening is wrong where the lines behind it are.
pub type_right : (s : List ℕ) {t : MessageType} {r : List ℕ} → type_line s ≡ got t r → rest_of (seek_opening s) ≡ rest_of (seek_lines t (fields t) unset r)
unfolding seek_opening
type_right s {t} {r} e =
    rest_got type_line seek_type seeks_type _ s e ∙ rest_pure (λ ns. record { type = t; numbers = ns }) (seek_lines t (fields t) unset r)

-- If an opening is not read, the message is wrong where the opening is.
pub opening_wrong : (s : List ℕ) → opening s ≡ lost → rest_of (seek_message s) ≡ rest_of (seek_opening s)
unfolding seek_message
opening_wrong s e = rest_lost opening seek_opening seeks_opening _ s e

-- ---- entries

-- If fewer entries are read than are counted and the next one is not, the entries are wrong where that one is.
pub entries_wrong :
    (n count low high : ℕ) (s : List ℕ) {es : List Entry} {q : List ℕ} → low ≤ high → n < count →
    entries_in n low high s ≡ got es q → entry_in (least_after low es) high q ≡ lost →
    rest_of (seek_entries count low high s) ≡ rest_of (seek_entry (least_after low es) high q)
unfolding entries_in seek_entries least_after
entries_wrong n zero low high s h more e l = absurd (omega arith)
entries_wrong zero (suc c) low high s h more e l =
    got_same (λ es q. entry_in (least_after low es) high q ≡ lost → rest_of (seek_entries (suc c) low high s) ≡ rest_of (seek_entry (least_after low es) high q)) e
    (rest_lost (entry_in low high) (seek_entry low high) (seeks_entry low high h) _ s) l
entries_wrong (suc n) (suc c) low high s h more e l =
    let k = onward_sound e in
    let x = k.value in
    let ks = onward_sound k.next in
    let w = entry_term low high s k.first in
    rest_got (entry_in low high) (seek_entry low high) (seeks_entry low high h) _ s k.first
    ∙ rest_pure (λ xs. x ∷ xs) (seek_entries c x.term high k.left)
    ∙ got_same
    (λ es q.
    entry_in (least_after low es) high q ≡ lost → rest_of (seek_entries c x.term high k.left) ≡ rest_of (seek_entry (least_after low es) high q))
    ks.next
    (λ j. entries_wrong n c x.term high k.left w.1 (omega arith) ks.first j) l

-- Behind entries that are read some term can follow.
pub least_open : (n low high : ℕ) (s : List ℕ) {es : List Entry} {q : List ℕ} → low ≤ high → entries_in n low high s ≡ got es q → least_after low es ≤ high
unfolding entries_in least_after
least_open zero low high s h e = got_same (λ es q. least_after low es ≤ high) e h
least_open (suc n) low high s h e =
    let k = onward_sound e in
    let ks = onward_sound k.next in
    got_same (λ es q. least_after low es ≤ high) ks.next
    (least_open n k.value.term high k.left (entry_term low high s k.first).1 ks.first)

-- If an opening is read, the message is wrong where the entries behind it are.
pub opening_right : (s : List ℕ) {o : Opening} {r : List ℕ} → opening s ≡ got o r → rest_of (seek_message s) ≡ rest_of (seek_after o r)
unfolding seek_message
opening_right s {o} {r} e = rest_got opening seek_opening seeks_opening _ s e ∙ rest_pure _ (seek_after o r)

-- ---- messages

-- If a message is read, what is left of the text is what the reader leaves.
pub message_more : (s : List ℕ) {m : Message} {r : List ℕ} → message_in s ≡ got m r → rest_of (seek_message s) ≡ r
unfolding rest_of
message_more s e = ap rest_of (found_back message_in seek_message seeks_message s e)
