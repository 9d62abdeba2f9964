-- The place that an exact seeker finds is the place of the first wrong byte by its meaning (rule R46), in numbers and in messages. Assumes nothing.
use Prim.Native.Nat.{ℕ, suc, ◌+◌, ◌-◌, ◌≤◌, ◌<◌}
use native.Mathlib.Omega.{arith}
use mathlib.Core.Path.{◌≡◌, refl, sym, ◌∙◌, ap, subst}
use mathlib.Core.Bool.{Bool, true, false}
use mathlib.Core.List.{List, [], ◌∷◌, ◌++◌, append_assoc, append-nil, cons≢nil}
use lib.ListN.{length, take, drop, length-append, take-append-drop}
use lib.Seq.{take-append-le}
use Rattle.kinds.specs.Sizes.{between}
use Rattle.kinds.proofs.BetweenLaws.{between_in, between_true}
use Rattle.text.specs.Reader.{got, Reader}
use Rattle.text.specs.Decimal.{is_digit, decimal}
use Rattle.text.specs.Place.{Begins, IsPlace, BeginsNumber}
use Rattle.text.specs.Range.{within, number_in}
use Rattle.text.proofs.ReaderLaws.{got_value, got_rest, lost_never, onward_got, onward_sound, Reads}
use Rattle.text.proofs.RangeLaws.{within_in, within_sound}
use Rattle.text.proofs.LineLaws.{ended-written, ended-sound}
use Rattle.message.specs.Message.{Message, entries_of}
use Rattle.message.specs.Legal.{legal_message}
use Rattle.message.specs.Text.{text}
use Rattle.message.specs.Range.{message_in}
use Rattle.message.specs.Place.{BeginsMessage}
use Rattle.message.proofs.LegalLaws.{legal_held}
use Rattle.message.proofs.TextLaws.{message_written, message_sound}
use Rattle.message.proofs.ReadLaws.{entries_ranged}
use Rattle.message.proofs.RangeLaws.{keep_if, message_in_is}
use Rattle.begins.specs.Seek.{Sought, found, wrong, Seeker, rest_of, place_of}
use Rattle.begins.specs.Digits.{seek_number}
use Rattle.begins.specs.Entries.{seek_message}
use Rattle.begins.proofs.Exact.{Opens, Stops, Exact}
use Rattle.begins.proofs.Seeks.{Seeks, reads_alone}
use Rattle.begins.proofs.NumberLaws.{seeks_number}
use Rattle.begins.proofs.MessageLaws.{seeks_message}

-- ---- parts of lists

-- The start of a text, and what is left of its first part.
take_some : (u r : List ℕ) (i : ℕ) → i ≤ length u → u ≡ take i (u ++ r) ++ drop i u
take_some u r i h = sym (take-append-drop i u) ∙ ap (λ (l : List ℕ). l ++ drop i u) (sym (take-append-le i u r h))

-- A part of a text, and one byte more.
take_one : (u : List ℕ) (b : ℕ) (bs : List ℕ) → take (suc (length u)) (u ++ (b ∷ bs)) ≡ u ++ (b ∷ [])
take_one [] b bs = refl
take_one (c ∷ cs) b bs = ap (λ (l : List ℕ). c ∷ l) (take_one cs b bs)

-- ---- what begins something

module _ {A : Type 0} (legal : A → Bool) (write : A → List ℕ) where
  -- So does each start of it.
  begins_shorter : (u r : List ℕ) (i : ℕ) → i ≤ length u → Begins legal write u → Begins legal write (take i (u ++ r))
  begins_shorter u r i h x =
      record {
        thing = x.thing;
        is_legal = x.is_legal;
        rest = drop i u ++ x.rest;
        starts = x.starts ∙ ap (λ (l : List ℕ). l ++ x.rest) (take_some u r i h) ∙ append_assoc (take i (u ++ r)) (drop i u) x.rest;
      }

  -- Behind what begins something, if with the next byte nothing begins so.
  pub place_at : (u r : List ℕ) → Begins legal write u →
      ((b : ℕ) (bs : List ℕ) → r ≡ b ∷ bs → Begins legal write (u ++ (b ∷ [])) → ⊥) →
      IsPlace (Begins legal write) (u ++ r) (length u)
  place_at u r h n =
      let l : length (u ++ r) ≡ length u + length r = length-append u r in
      record {
        inside = omega arith;
        before = λ q lt. begins_shorter u r (suc q) (omega arith) h;
        wrong = λ lt x. go r refl (omega arith) x;
      }
    where
      go : (q : List ℕ) → r ≡ q → 0 < length q → Begins legal write (take (suc (length u)) (u ++ r)) → ⊥
      go [] e l x = omega arith
      go (b ∷ bs) e l x = n b bs e (subst (Begins legal write) (ap (λ (q : List ℕ). take (suc (length u)) (u ++ q)) e ∙ take_one u b bs) x)

  -- The place behind the good part of a text.
  place_split : (s u r : List ℕ) → s ≡ u ++ r → Begins legal write u →
      ((b : ℕ) (bs : List ℕ) → r ≡ b ∷ bs → Begins legal write (u ++ (b ∷ [])) → ⊥) →
      IsPlace (Begins legal write) s (length s - length r)
  place_split s u r e h n =
      let l : length s ≡ length u + length r = ap length e ∙ length-append u r in
      let here : length s - length r ≡ length u = omega arith in
      rw here (subst (λ (t : List ℕ). IsPlace (Begins legal write) t (length u)) (sym e) (place_at u r h n))

-- ---- a reader that reads exactly the texts of legal things

-- What is legal is read from its text, and what is read is the text of something legal.
pub record Means {A : Type 0} (p : Reader A) (legal : A → Bool) (write : A → List ℕ) : Type 0 where
  pub written : (a : A) → legal a ≡ true → Reads p (write a) a
  pub sound : (s : List ℕ) (a : A) (rest : List ℕ) → p s ≡ got a rest → (legal a ≡ true) × (s ≡ write a ++ rest)

module _ {A : Type 0} (p : Reader A) (legal : A → Bool) (write : A → List ℕ) (M : Means p legal write) where
  -- What can be read on begins something legal.
  pub opens_begins : (s : List ℕ) → Opens p s → Begins legal write s
  opens_begins s o =
      let w = M.sound (s ++ o.more) o.value [] (reads_alone p (s ++ o.more) o.reads) in
      record { thing = o.value; is_legal = w.0; rest = o.more; starts = sym (w.1 ∙ append-nil (write o.value)) }

  -- Where nothing is read, nothing legal begins.
  stops_begins : (u : List ℕ) (b : ℕ) → ((q : List ℕ) (a : A) → p (u ++ (b ∷ q)) ≡ got a [] → ⊥) → Begins legal write (u ++ (b ∷ [])) → ⊥
  stops_begins u b h x =
      h x.rest x.thing
      (ap p (sym (x.starts ∙ append_assoc u (b ∷ []) x.rest)) ∙ reads_alone p (write x.thing) (M.written x.thing x.is_legal))

  -- What is exact stops at the place by its meaning.
  place_exact : (s : List ℕ) (o : Sought A) → Exact p s o → IsPlace (Begins legal write) s (length s - length (rest_of o))
  unfolding rest_of
  place_exact s (found a r) x =
      let t = x.text in
      let o : Opens p t = record { more = []; value = a; reads = subst (λ (l : List ℕ). Reads p l a) (sym (append-nil t)) x.reads } in
      place_split legal write s t r x.split (opens_begins t o) (λ b bs e. stops_begins t b (λ q c f. cons≢nil (got_rest (sym (x.reads (b ∷ q)) ∙ f))))
  place_exact s (wrong r) x =
      place_split legal write s x.good r x.split (opens_begins x.good x.opens)
      (λ b bs e. stops_begins x.good b (λ q c f. lost_never (sym (subst (λ (l : List ℕ). Stops p x.good l) e x.stops q) ∙ f)))

  -- The place that an exact seeker finds is the place by its meaning.
  pub place_is : (g : Seeker A) → Seeks p g → (s : List ℕ) → IsPlace (Begins legal write) s (place_of g s)
  unfolding place_of
  place_is g x s = place_exact s (g s) (x.exact s)

-- ---- numbers

-- A number of a range is read exactly where its one text stands with its end.
number_means : (lo hi end : ℕ) → is_digit end ≡ false → Means (number_in lo hi end) (between lo hi) (λ n. decimal n ++ (end ∷ []))
unfolding number_in
number_means lo hi end E =
    record {
      written =
          λ n h.
          let w = between_true lo hi n h in
          ended-written end (within lo hi) n [] E (λ rest. within_in lo hi n rest w.0 w.1);
      sound =
          λ s a rest e.
          let n = ended-sound end (within lo hi) s e in
          let w = within_sound lo hi n.x n.left n.next in (
            subst (λ (y : ℕ). between lo hi y ≡ true) (got_value w.0) (between_in lo hi n.x w.1 w.2),
            n.split
                ∙ (λ i. decimal (got_value w.0 i) ++ (end ∷ got_rest w.0 i))
                ∙ sym (append_assoc (decimal a) (end ∷ []) rest),
          );
    }

-- The place found in a number's text is that of its first wrong byte.
pub number_place : (lo hi end : ℕ) → lo ≤ hi → is_digit end ≡ false → (s : List ℕ) → IsPlace (BeginsNumber lo hi end) s (place_of (seek_number lo hi end) s)
number_place lo hi end R E s =
    place_is (number_in lo hi end) (between lo hi) (λ n. decimal n ++ (end ∷ [])) (number_means lo hi end E)
    (seek_number lo hi end) (seeks_number lo hi end R E) s

-- ---- messages

-- What is kept passed the test.
keep_sound : (b : Bool) (m n : Message) (r q : List ℕ) → keep_if b m r ≡ got n q → (b ≡ true) × (got m r ≡ got n q)
unfolding keep_if
keep_sound true m n r q e = (refl, e)
keep_sound false m n r q e = absurd (lost_never e)

-- Reading by ranges reads exactly the texts of legal messages.
pub message_means : Means message_in legal_message text
unfolding keep_if
message_means =
    record {
      written =
          λ m h rest.
          let own = (legal_held m h).own in
          let read-it = message_written m (entries_ranged own.low own.high (entries_of m.body) own.entries_legal) rest in
          message_in_is (text m ++ rest) ∙ onward_got (λ n. keep_if (legal_message n) n) read-it ∙ rw (h, keep_if);
      sound =
          λ s m rest e.
          let k = onward_sound (sym (message_in_is s) ∙ e) in
          let w = keep_sound (legal_message k.value) k.value m k.left rest k.next in
          (ap legal_message (sym (got_value w.1)) ∙ w.0, message_sound s (k.first ∙ w.1));
    }

-- The place found in a message's text is that of its first wrong byte.
pub message_place : (s : List ℕ) → IsPlace BeginsMessage s (place_of seek_message s)
message_place s = place_is message_in legal_message text message_means seek_message seeks_message s

-- The empty text begins a message.
pub begins_nothing : BeginsMessage []
begins_nothing = opens_begins message_in legal_message text message_means [] seeks_message.opens
