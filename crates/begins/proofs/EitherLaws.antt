-- Two readers of which at most one finds something, the first asked first: the later of their wrong bytes is the wrong one. Assumes nothing.
use Prim.Native.Nat.{ℕ, ◌+◌, ◌≤◌, ◌<◌}
use native.Mathlib.Omega.{arith}
use mathlib.Core.Path.{◌≡◌, refl, sym, ◌∙◌, ap, subst}
use mathlib.Core.Bool.{Bool, true, false, cond}
use mathlib.Core.List.{List, [], ◌∷◌, ◌++◌, head-eq_of_cons-eq, tail-eq_of_cons-eq}
use lib.Dec.{leb}
use lib.ListN.{length, length-append}
use borrow.Author.Tests.{leb-true, leb-false, le-leb}
use Rattle.text.specs.Reader.{Got, got, lost, Reader}
use Rattle.text.proofs.ReaderLaws.{Reads}
use Rattle.begins.specs.Seek.{Sought, found, wrong, Seeker}
use Rattle.begins.specs.Types.{later}
use Rattle.begins.proofs.Exact.{Opens, Stops, Exact, Stopped}
use Rattle.begins.proofs.Seeks.{Seeks}

-- What stops at a byte stops at every later one.
stops_later : {A : Type 0} (p : Reader A) (u v r q : List ℕ) → u ++ r ≡ v ++ q → length q ≤ length r → Stops p u r → Stops p v q
stops_later p [] [] r q e h x = subst (λ (l : List ℕ). Stops p [] l) e x
stops_later p [] (c ∷ cs) r q e h x = go q (subst (λ (l : List ℕ). Stops p [] l) e x)
  where
    go : (q : List ℕ) → ((k : List ℕ) → p (c ∷ k) ≡ lost) → Stops p (c ∷ cs) q
    go [] y = y cs
    go (b ∷ bs) y = λ k. y (cs ++ (b ∷ k))
stops_later p (b ∷ bs) [] r q e h x =
    let n : length (b ∷ (bs ++ r)) ≡ length q = ap length e in
    let m : length (bs ++ r) ≡ length bs + length r = length-append bs r in
    absurd (omega arith)
stops_later p (b ∷ bs) (c ∷ cs) r q e h x =
    subst (λ (d : ℕ). Stops p (d ∷ cs) q) (head-eq_of_cons-eq e) (back q (stops_later (λ l. p (b ∷ l)) bs cs r q (tail-eq_of_cons-eq e) h (into r x)))
  where
    into : (r : List ℕ) → Stops p (b ∷ bs) r → Stops (λ l. p (b ∷ l)) bs r
    into [] y = y
    into (d ∷ ds) y = y

    back : (q : List ℕ) → Stops (λ l. p (b ∷ l)) cs q → Stops p (b ∷ cs) q
    back [] y = y
    back (d ∷ ds) y = y

-- Nothing is later than the wrong byte of the one reader there is.
later_none : {A : Type 0} (p : Reader A) (s : List ℕ) (x : Sought A) → Exact p s x → Exact p s (later x (wrong s))
unfolding later
later_none p s (found a r) d = d
later_none p s (wrong r) d =
    let n : length s ≡ length (d.good ++ r) = ap length d.split in
    let m : length (d.good ++ r) ≡ length d.good + length r = length-append d.good r in
    rw (le-leb (length r) (length s) (omega arith)) d

-- One reader alone.
pub seeks_last : {A : Type 0} (p : Reader A) (g : Seeker A) → Seeks p g → Seeks p (λ s. later (g s) (wrong s))
seeks_last p g x = record { opens = x.opens; exact = λ s. later_none p s (g s) (x.exact s) }

-- What the first reader found, or where it found nothing what the second did.
unfoldable pub or_else : {A : Type 0} → Got A → Got A → Got A
or_else (got a r) g = got a r
or_else lost g = g

module _ {A : Type 0} (p q : Reader A) where
  -- The first reader, or where it finds nothing the second.
  abbrev pub either : Reader A
  either s = or_else (p s) (q s)

  either_first : (s : List ℕ) {a : A} {r : List ℕ} → p s ≡ got a r → either s ≡ got a r
  unfolding or_else
  either_first s e = rw (e, or_else)

  either_second : (s : List ℕ) → p s ≡ lost → either s ≡ q s
  unfolding or_else
  either_second s e = rw (e, or_else)

  stops_both : (u r : List ℕ) → Stops p u r → Stops q u r → Stops either u r
  stops_both u [] x y = either_second u x ∙ y
  stops_both u (b ∷ bs) x y = λ k. either_second (u ++ (b ∷ k)) (x k) ∙ y k

  reads_first : (t : List ℕ) {a : A} → Reads p t a → Reads either t a
  reads_first t h rest = either_first (t ++ rest) (h rest)

  opens_first : (s : List ℕ) → Opens p s → Opens either s
  opens_first s o = record { more = o.more; value = o.value; reads = reads_first (s ++ o.more) o.reads }

  module _ (apart : (s : List ℕ) (a : A) (r : List ℕ) → q s ≡ got a r → p s ≡ lost) where
    reads_second : (t : List ℕ) {a : A} → Reads q t a → Reads either t a
    reads_second t {a} h rest = either_second (t ++ rest) (apart (t ++ rest) a rest (h rest)) ∙ h rest

    opens_second : (s : List ℕ) → Opens q s → Opens either s
    opens_second s o = record { more = o.more; value = o.value; reads = reads_second (s ++ o.more) o.reads }

    later_wrong : (s r k : List ℕ) → Stopped p s r → Stopped q s k → (b : Bool) → leb (length r) (length k) ≡ b → Stopped either s (cond b r k)
    later_wrong s r k x y true e =
        let beyond : Stops q x.good r = stops_later q y.good x.good k r (sym y.split ∙ x.split) (leb-true (length r) (length k) e) y.stops in
        record { good = x.good; split = x.split; opens = opens_first x.good x.opens; stops = stops_both x.good r x.stops beyond }
    later_wrong s r k x y false e =
        let less : length k < length r = leb-false (length r) (length k) e in
        let beyond : Stops p y.good k = stops_later p x.good y.good r k (sym x.split ∙ y.split) (omega arith) x.stops in
        record { good = y.good; split = y.split; opens = opens_second y.good y.opens; stops = stops_both y.good k beyond y.stops }

    exact_either : (s : List ℕ) (x y : Sought A) → Exact p s x → Exact q s y → Exact either s (later x y)
    unfolding later
    exact_either s (found a r) y d e = record { text = d.text; split = d.split; reads = reads_first d.text d.reads }
    exact_either s (wrong r) (found a k) d e = record { text = e.text; split = e.split; reads = reads_second e.text e.reads }
    exact_either s (wrong r) (wrong k) d e = later_wrong s r k d e (leb (length r) (length k)) refl

    -- Two readers that never both find something.
    pub seeks_either : (g h : Seeker A) → Seeks p g → Seeks q h → Seeks either (λ s. later (g s) (h s))
    seeks_either g h x y = record { opens = opens_first [] x.opens; exact = λ s. exact_either s (g s) (h s) (x.exact s) (y.exact s) }
