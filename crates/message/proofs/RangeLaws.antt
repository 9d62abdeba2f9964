-- Reading by ranges accepts the same texts as reading and then asking whether the message is legal, with the same messages: what is
-- legal of a message's fields (rule R30) is, for each, a range of the next number, given the numbers before it. Assumes nothing.
use Prim.Native.Nat.{ℕ, zero, suc}
use mathlib.Core.Path.{◌≡◌, refl, sym, ◌∙◌, ap}
use mathlib.Core.Bool.{Bool, true, false, ◌&&◌, and_assoc}
use mathlib.Core.List.{List, [], ◌∷◌}
use lib.ListN.{length}
use Rattle.kinds.specs.Sizes.{between}
use Rattle.text.specs.Ascii.{ascii}
use Rattle.text.specs.Reader.{Got, got, lost, Reader, onward, pure, literal, whole, ◌>>=◌, ◌>>◌}
use Rattle.text.specs.Decimal.{number}
use Rattle.text.specs.Hex.{hex_bytes}
use Rattle.text.specs.Line.{LF, line}
use Rattle.text.specs.Range.{within, number_in}
use Rattle.text.proofs.ReaderLaws.{got_same, lost_never, onward_got, onward_lost, onward_never, onward_same, onward_sound, onward-assoc}
use Rattle.text.proofs.RangeLaws.{line_in_is}
use Rattle.command.specs.Command.{command_size, command_of, legal_command}
use Rattle.command.specs.Entry.{Entry, legal_entries}
use Rattle.command.proofs.Tests.{by_test}
use Rattle.message.specs.Message.{Message}
use Rattle.message.specs.Legal.{legal_message}
use Rattle.message.specs.Fields.{
  MessageType,
  Field,
  fields,
  unset,
  with_number,
  count_in,
  message_of,
}
use Rattle.message.specs.Text.{type=, entry=, key, type_among, types, entry, entries, message, if_legal}
use Rattle.message.specs.Range.{
  range,
  low_in,
  high_in,
  lines_in,
  legal_only,
  entry_in,
  entries_in,
  message_in,
}
use Rattle.message.proofs.RangeLegal.{ranged, ranged_legal}
use Rattle.message.proofs.TextLaws.{entry_after, message_after, message_from, values, placed, lines_values, values_sound, placed_slotted, entries_sound}
use Rattle.message.proofs.FieldsLaws.{Slotted}

-- A value, if a test holds. It stands for no text.
unfoldable pub keep_if : {A : Type 0} → Bool → A → Reader A
keep_if true a s = got a s
keep_if false a s = lost

-- ---- tests among readers

-- What follows two readers follows the second.
onward_into : {A B C : Type 0} (g : Got A) (f : A → Reader B) (h : B → Reader C) {k : A → Reader C} → ((a : A) (s : List ℕ) → onward (f a s) h ≡ k a s) → onward (onward g f) h ≡ onward g k
onward_into g f h e = onward-assoc g f h ∙ onward_same g e

keep_all : {B : Type 0} (g : Got B) → onward g (keep_if true) ≡ g
unfolding onward keep_if
keep_all (got b r) = refl
keep_all lost = refl

-- A test before a reader may as well come behind it.
keep_then : {A B : Type 0} (b : Bool) (a : A) (r : List ℕ) (f : A → Reader B) → onward (keep_if b a r) f ≡ onward (f a r) (keep_if b)
unfolding keep_if
keep_then true a r f = onward_got f refl ∙ sym (keep_all (f a r))
keep_then false a r f = onward_lost f refl ∙ sym (onward_never (f a r) (keep_if false) (λ x q. refl))

-- Two tests are one.
keep_keep : {A : Type 0} (b c : Bool) (a : A) (s : List ℕ) → onward (keep_if c a s) (keep_if b) ≡ keep_if (b && c) a s
unfolding onward keep_if
keep_keep true true a s = refl
keep_keep true false a s = refl
keep_keep false true a s = refl
keep_keep false false a s = refl

within_keep : (lo hi x : ℕ) (s : List ℕ) → within lo hi x s ≡ keep_if (between lo hi x) x s
unfolding within keep_if
within_keep lo hi x s = by_test (between lo hi x) (λ e. rw (e, within)) (λ e. rw (e, within))

legal_only_keep : (e : Entry) (s : List ℕ) → legal_only e s ≡ keep_if (legal_command e.command) e s
unfolding legal_only keep_if
legal_only_keep e s = by_test (legal_command e.command) (λ h. rw (h, legal_only)) (λ h. rw (h, legal_only))

-- ---- lines

-- Lines by ranges are lines whose numbers lie in their ranges.
pub lines_in_is : (t : MessageType) (fs : List Field) (before s : List ℕ) →
    lines_in t fs before s ≡ onward (values fs s) (λ xs. keep_if (ranged t fs before xs) (placed fs xs before))
unfolding onward lines_in values ranged keep_if
lines_in_is t [] before s = refl
lines_in_is t (f ∷ fs) before s =
    let lo = (range t f before).lo in
    let hi = (range t f before).hi in
    let K : List ℕ → Reader (List ℕ) = λ xs. keep_if (ranged t (f ∷ fs) before xs) (placed (f ∷ fs) xs before) in
    let F : ℕ → Reader (List ℕ) = λ n. lines_in t fs (with_number f n before) in
    let step : (n : ℕ) (r : List ℕ) → onward (within lo hi n r) F ≡ onward (onward (values fs r) (λ xs. pure (n ∷ xs))) K =
    λ n r.
    ap (λ (g : Got ℕ). onward g F) (within_keep lo hi n r)
    ∙ keep_then (between lo hi n) n r F
    ∙ ap (λ (g : Got (List ℕ)). onward g (keep_if (between lo hi n))) (lines_in_is t fs (with_number f n before) r)
    ∙ onward_into (values fs r) _ _
    (λ xs u. keep_keep (between lo hi n) (ranged t fs (with_number f n before) xs) (placed fs xs (with_number f n before)) u)
    ∙ sym (onward-assoc (values fs r) (λ xs. pure (n ∷ xs)) K) in
    ap (λ (g : Got ℕ). onward g F) (line_in_is (key f) lo hi s)
    ∙ onward_into (line (key f) s) _ _ step
    ∙ sym (onward-assoc (line (key f) s) (λ n. ◌>>=◌ (values fs) (λ xs. pure (n ∷ xs))) K)

-- What is kept was there.
pub kept : {A : Type 0} (b : Bool) (x : A) (q : List ℕ) {y : A} {rest : List ℕ} → keep_if b x q ≡ got y rest → got x q ≡ got y rest
unfolding keep_if
kept true x q k = k
kept false x q k = absurd (lost_never k)

-- The numbers of a type's lines take no slot but those of its fields.
pub lines_in_slotted : (t : MessageType) (s : List ℕ) {ns rest : List ℕ} → lines_in t (fields t) unset s ≡ got ns rest → Slotted t ns
lines_in_slotted t s e =
    let w = onward_sound (sym (lines_in_is t (fields t) unset s) ∙ e) in
    let are = values_sound (fields t) s w.first in
    got_same (λ l r. Slotted t l) (kept (ranged t (fields t) unset w.value) (placed (fields t) w.value unset) w.left w.next)
    (placed_slotted t w.value are.count)

-- ---- entries

-- An entry's test.
abbrev pub entry_test : ℕ → ℕ → Entry → Bool
entry_test low high e = between low high e.term && legal_command e.command

-- What is read behind an entry's term, by ranges.
abbrev legal_after : ℕ → Reader Entry
legal_after term = ◌>>=◌ (hex_bytes command_size) (λ bytes. ◌>>◌ (literal LF) (legal_only (record { term = term; command = command_of bytes })))

module _ (low high : ℕ) where
  keep_entry : Entry → Reader Entry
  keep_entry e = keep_if (entry_test low high e) e

  -- What is read behind an entry's term, its number among the range's or not.
  entry_in_after : (x : ℕ) (r : List ℕ) → onward (within low high x r) legal_after ≡ onward (entry_after x r) keep_entry
  unfolding onward keep_entry
  entry_in_after x r =
      let b = between low high x in
      let made : List ℕ → Entry = λ bs. record { term = x; command = command_of bs } in
      ap (λ (g : Got ℕ). onward g legal_after) (within_keep low high x r)
      ∙ keep_then b x r legal_after
      ∙ onward_into (hex_bytes command_size r) _ _
      (λ bs q. onward_into (literal LF q) _ _
      (λ a u. ap (λ (g : Got Entry). onward g (keep_if b)) (legal_only_keep (made bs) u) ∙ keep_keep b (legal_command (command_of bs)) (made bs) u))
      ∙ sym (onward_into (hex_bytes command_size r) _ _ (λ bs q. onward_into (literal LF q) _ _ (λ a u. refl)))

  -- An entry by its range is an entry whose term lies there and whose command is legal.
  pub entry_in_is : (s : List ℕ) → entry_in low high s ≡ onward (entry s) (λ e. keep_if (entry_test low high e) e)
  unfolding entry_in number_in entry keep_entry
  entry_in_is s =
      onward_same (literal entry= s)
      (λ a r. onward_into (number r) _ _ (λ x q. onward_into (literal (ascii ":") q) _ _ (λ b u. entry_in_after x u)))
      ∙ sym (onward_into (literal entry= s) _ _ (λ a r. onward_into (number r) _ _ (λ x q. onward_into (literal (ascii ":") q) _ _ (λ b u. refl))))

keep_cons : (b : Bool) (e : Entry) (es : List Entry) (s : List ℕ) → onward (keep_if b es s) (λ xs. pure (e ∷ xs)) ≡ keep_if b (e ∷ es) s
unfolding onward keep_if
keep_cons true e es s = refl
keep_cons false e es s = refl

-- Entries by their range are entries that are legal from low on.
pub entries_in_is : (n low high : ℕ) (s : List ℕ) → entries_in n low high s ≡ onward (entries n s) (λ es. keep_if (legal_entries low high es) es)
unfolding onward entries_in entries legal_entries keep_if
entries_in_is zero low high s = refl
entries_in_is (suc n) low high s =
    let E : Entry → Reader (List Entry) = λ e. ◌>>=◌ (entries_in n e.term high) (λ es. pure (e ∷ es)) in
    let K : List Entry → Reader (List Entry) = λ es. keep_if (legal_entries low high es) es in
    let others : (e : Entry) (r : List ℕ) → E e r ≡ onward (entries n r) (λ es. keep_if (legal_entries e.term high es) (e ∷ es)) =
    λ e r.
    ap (λ (g : Got (List Entry)). onward g (λ es. pure (e ∷ es))) (entries_in_is n e.term high r)
    ∙ onward_into (entries n r) _ _ (λ es u. keep_cons (legal_entries e.term high es) e es u) in
    let step : (e : Entry) (r : List ℕ) → onward (keep_if (entry_test low high e) e r) E ≡ onward (onward (entries n r) (λ es. pure (e ∷ es))) K =
    λ e r.
    keep_then (entry_test low high e) e r E
    ∙ ap (λ (g : Got (List Entry)). onward g (keep_if (entry_test low high e))) (others e r)
    ∙ onward_into (entries n r) _ _
    (λ es u. keep_keep (entry_test low high e) (legal_entries e.term high es) (e ∷ es) u
    ∙ ap (λ (b : Bool). keep_if b (e ∷ es) u) (and_assoc (between low high e.term) (legal_command e.command) (legal_entries e.term high es)))
    ∙ sym (onward-assoc (entries n r) (λ es. pure (e ∷ es)) K) in
    ap (λ (g : Got Entry). onward g E) (entry_in_is low high s)
    ∙ onward_into (entry s) _ _ step
    ∙ sym (onward-assoc (entry s) (λ e. ◌>>=◌ (entries n) (λ es. pure (e ∷ es))) K)

-- ---- messages

keep_message_lem : (b : Bool) (t : MessageType) (ns : List ℕ) (es : List Entry) (s : List ℕ) →
    onward (keep_if b es s) (λ xs. pure (message_of t ns xs)) ≡ keep_if b (message_of t ns es) s
unfolding onward keep_if
keep_message_lem true t ns es s = refl
keep_message_lem false t ns es s = refl

-- What is read behind the line `type`, by ranges.
abbrev message_in_from : MessageType → List ℕ → Reader Message
message_in_from t ns = ◌>>=◌ (entries_in (count_in t ns) (low_in t ns) (high_in t ns)) (λ es. pure (message_of t ns es))

-- Readers that go on alike from what was really found.
onward_found : {A B : Type 0} (g : Got A) (f h : A → Reader B) → ((a : A) (s : List ℕ) → g ≡ got a s → f a s ≡ h a s) → onward g f ≡ onward g h
unfolding onward
onward_found (got a s) f h e = e a s refl
onward_found lost f h e = refl

module _ (t : MessageType) where
  keep_message : Message → Reader Message
  keep_message m = keep_if (legal_message m) m

  -- Behind the numbers, which are as many as the type has fields.
  entries_alike : (xs q : List ℕ) → length xs ≡ length (fields t) →
      onward (keep_if (ranged t (fields t) unset xs) (placed (fields t) xs unset) q) (message_in_from t)
      ≡ onward (message_after t (placed (fields t) xs unset) q) keep_message
  unfolding onward keep_message
  entries_alike xs q n =
      let ns = placed (fields t) xs unset in
      let b = ranged t (fields t) unset xs in
      let legal : List Entry → Bool = λ es. legal_entries (low_in t ns) (high_in t ns) es in
      let found = entries (count_in t ns) q in
      keep_then b ns q (message_in_from t)
      ∙ ap (λ (g : Got (List Entry)). onward (onward g (λ es. pure (message_of t ns es))) (keep_if b)) (entries_in_is (count_in t ns) (low_in t ns) (high_in t ns) q)
      ∙ ap (λ (g : Got Message). onward g (keep_if b)) (onward_into found _ _ (λ es u. keep_message_lem (legal es) t ns es u))
      ∙ onward_into found _ _ (λ es u. keep_keep b (legal es) (message_of t ns es) u)
      ∙ onward_found found (λ es. keep_if (b && legal es) (message_of t ns es)) (λ es. keep_if (legal_message (message_of t ns es)) (message_of t ns es))
      (λ es u e. ap (λ (c : Bool). keep_if c (message_of t ns es) u) (sym (ranged_legal t xs es n (entries_sound (count_in t ns) q e).count)))
      ∙ sym (onward_into found _ _ (λ es u. refl))

  lines_alike : (r : List ℕ) → onward (lines_in t (fields t) unset r) (message_in_from t) ≡ onward (message_from t r) keep_message
  lines_alike r =
      let found = values (fields t) r in
      let put : List ℕ → Reader (List ℕ) = λ xs. pure (placed (fields t) xs unset) in
      ap (λ (g : Got (List ℕ)). onward g (message_in_from t)) (lines_in_is t (fields t) unset r)
      ∙ onward-assoc found (λ xs. keep_if (ranged t (fields t) unset xs) (placed (fields t) xs unset)) (message_in_from t)
      ∙ onward_found found _ _ (λ xs q e. entries_alike xs q (values_sound (fields t) r e).count)
      ∙ sym (ap (λ (g : Got (List ℕ)). onward (onward g (message_after t)) keep_message) (lines_values (fields t) unset r)
      ∙ onward_into (onward found put) (message_after t) keep_message (λ ns q. refl)
      ∙ onward_into found put _ (λ xs q. onward_got _ refl))

-- A message by ranges is a message that is legal.
pub message_in_is : (s : List ℕ) → message_in s ≡ onward (message s) (λ m. keep_if (legal_message m) m)
unfolding message_in message keep_message
message_in_is s =
    onward_same (literal type= s) (λ a r. onward_same (type_among types r) (λ t q. lines_alike t q))
    ∙ sym (onward_into (literal type= s) _ _ (λ a r. onward-assoc (type_among types r) message_from (λ m. keep_if (legal_message m) m)))

whole_keep : (g : Got Message) → if_legal (whole g) ≡ whole (onward g (λ m. keep_if (legal_message m) m))
unfolding onward whole if_legal keep_if
whole_keep lost = refl
whole_keep (got m []) = by_test (legal_message m) (λ e. rw e) (λ e. rw e)
whole_keep (got m (b ∷ bs)) = by_test (legal_message m) (λ e. rw e) (λ e. rw e)

-- The two ways of reading a whole text agree.
pub message_in_whole : (s : List ℕ) → if_legal (whole (message s)) ≡ whole (message_in s)
message_in_whole s = whole_keep (message s) ∙ ap whole (sym (message_in_is s))
