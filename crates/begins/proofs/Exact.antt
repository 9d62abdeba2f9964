-- A seeker is exact for a reader: what it finds the reader finds; and from where it says wrong, no text is read. Assumes nothing.
use Prim.Native.Nat.{ℕ}
use mathlib.Core.Path.{◌≡◌, refl, sym, ◌∙◌, ap, subst}
use mathlib.Core.Bool.{Bool, true, false}
use mathlib.Core.List.{List, [], ◌∷◌, ◌++◌, append_assoc}
use lib.Dec.{eqb}
use borrow.Author.Tests.{eqb-true, eqb-false}
use Rattle.text.specs.Reader.{lost, Reader, onward, pure, literal, ◌>>=◌}
use Rattle.text.proofs.ReaderLaws.{onward_got, onward_lost, Reads, Reads-then, behind, literal_written, literal_same, literal_other}
use Rattle.begins.specs.Seek.{Sought, found, wrong, Seeker, on, seek_literal}

-- Some text that starts with s is read, whatever follows it.
pub record Opens {A : Type 0} (p : Reader A) (s : List ℕ) : Type 0 where
  pub more : List ℕ
  pub value : A
  pub reads : Reads p (s ++ more) value

-- Nothing is read that starts with the text so far and the next byte; at the end of the text, the text itself is not read.
abbrev pub Stops : {A : Type 0} → Reader A → List ℕ → List ℕ → Type 0
Stops p good [] = p good ≡ lost
Stops p good (b ∷ bs) = (q : List ℕ) → p (good ++ (b ∷ q)) ≡ lost

pub record Did {A : Type 0} (p : Reader A) (s : List ℕ) (a : A) (rest : List ℕ) : Type 0 where
  pub text : List ℕ
  pub split : s ≡ text ++ rest
  pub reads : Reads p text a

pub record Stopped {A : Type 0} (p : Reader A) (s rest : List ℕ) : Type 0 where
  pub good : List ℕ
  pub split : s ≡ good ++ rest
  pub opens : Opens p good
  pub stops : Stops p good rest

abbrev pub Exact : {A : Type 0} → Reader A → List ℕ → Sought A → Type 0
Exact p s (found a rest) = Did p s a rest
Exact p s (wrong rest) = Stopped p s rest

-- ---- one behind another

-- What opens behind a text that is read.
opens_behind : {A B : Type 0} (p : Reader A) (f : A → Reader B) (t u : List ℕ) {a : A} → Reads p t a → Opens (f a) u → Opens (◌>>=◌ p f) (t ++ u)
opens_behind p f t u {a} r o =
    record {
      more = o.more;
      value = o.value;
      reads = subst (λ (l : List ℕ). Reads (◌>>=◌ p f) l o.value) (sym (append_assoc t u o.more)) (Reads-then p f t (u ++ o.more) r o.reads);
    }

-- What opens, and can always be followed.
pub opens_before : {A B : Type 0} (p : Reader A) (f : A → Reader B) (s : List ℕ) (o : Opens p s) → Opens (f o.value) [] → Opens (◌>>=◌ p f) s
opens_before p f s o n =
    record {
      more = o.more ++ n.more;
      value = n.value;
      reads = subst (λ (l : List ℕ). Reads (◌>>=◌ p f) l n.value) (append_assoc s o.more n.more) (Reads-then p f (s ++ o.more) n.more o.reads n.reads);
    }

stops_behind : {A B : Type 0} (p : Reader A) (f : A → Reader B) (t u r : List ℕ) {a : A} → Reads p t a → Stops (f a) u r → Stops (◌>>=◌ p f) (t ++ u) r
stops_behind p f t u [] h e = onward_got f (h u) ∙ e
stops_behind p f t u (b ∷ bs) h e =
    λ q. ap (λ (l : List ℕ). onward (p l) f) (append_assoc t u (b ∷ q)) ∙ onward_got f (h (u ++ (b ∷ q))) ∙ e q

stops_before : {A B : Type 0} (p : Reader A) (f : A → Reader B) (u r : List ℕ) → Stops p u r → Stops (◌>>=◌ p f) u r
stops_before p f u [] e = onward_lost f e
stops_before p f u (b ∷ bs) e = λ q. onward_lost f (e q)

exact_behind : {A B : Type 0} (p : Reader A) (f : A → Reader B) (s t r : List ℕ) {a : A} → Reads p t a → s ≡ t ++ r →
    (o : Sought B) → Exact (f a) r o → Exact (◌>>=◌ p f) s o
exact_behind p f s t r h e (found b q) x =
    record { text = t ++ x.text; split = behind t x.text q e x.split; reads = Reads-then p f t x.text h x.reads }
exact_behind p f s t r h e (wrong q) x =
    record {
      good = t ++ x.good;
      split = behind t x.good q e x.split;
      opens = opens_behind p f t x.good h x.opens;
      stops = stops_behind p f t x.good q h x.stops;
    }

-- Two seekers are exact for two readers, if what the first reads can always be followed.
pub exact_then : {A B : Type 0} (p : Reader A) (f : A → Reader B) (s : List ℕ) (g : A → Seeker B) (o : Sought A) →
    Exact p s o →
    ((a : A) (t : List ℕ) → Reads p t a → Opens (f a) []) →
    ((a : A) (t : List ℕ) → Reads p t a → (r : List ℕ) → Exact (f a) r (g a r)) →
    Exact (◌>>=◌ p f) s (on o g)
unfolding on
exact_then p f s g (found a r) x n next = exact_behind p f s x.text r x.reads x.split (g a r) (next a x.text x.reads r)
exact_then p f s g (wrong r) x n next =
    record {
      good = x.good;
      split = x.split;
      opens = opens_before p f x.good x.opens (n x.opens.value (x.good ++ x.opens.more) x.opens.reads);
      stops = stops_before p f x.good r x.stops;
    }

-- ---- nothing to read

pub exact_pure : {A : Type 0} (a : A) (s : List ℕ) → Exact (pure a) s (found a s)
exact_pure a s = record { text = []; split = refl; reads = λ rest. refl }

pub opens_pure : {A : Type 0} (a : A) → Opens (pure a) []
opens_pure a = record { more = []; value = a; reads = λ rest. refl }

-- ---- one more byte in front

-- A reader that reads b, then as p does.
pub exact_byte : {A : Type 0} (b : ℕ) (bs : List ℕ) (p q : Reader A) → ((s : List ℕ) → q (b ∷ s) ≡ p s) → (o : Sought A) → Exact p bs o → Exact q (b ∷ bs) o
exact_byte b bs p q e (found a r) x = record { text = b ∷ x.text; split = ap (λ (l : List ℕ). b ∷ l) x.split; reads = λ rest. e (x.text ++ rest) ∙ x.reads rest }
exact_byte b bs p q e (wrong r) x =
    record {
      good = b ∷ x.good;
      split = ap (λ (l : List ℕ). b ∷ l) x.split;
      opens = record { more = x.opens.more; value = x.opens.value; reads = λ rest. e ((x.good ++ x.opens.more) ++ rest) ∙ x.opens.reads rest };
      stops = go r x.stops;
    }
  where
    go : (r : List ℕ) → Stops p x.good r → Stops q (b ∷ x.good) r
    go [] h = e x.good ∙ h
    go (c ∷ cs) h = λ k. e (x.good ++ (c ∷ k)) ∙ h k

-- The text ends where a reader would go on.
pub exact_end : {A : Type 0} (p : Reader A) → Opens p [] → p [] ≡ lost → Exact p [] (wrong [])
exact_end p o e = record { good = []; split = refl; opens = o; stops = e }

-- The first byte is wrong.
pub exact_wrong : {A : Type 0} (p : Reader A) (b : ℕ) (bs : List ℕ) → Opens p [] → ((q : List ℕ) → p (b ∷ q) ≡ lost) → Exact p (b ∷ bs) (wrong (b ∷ bs))
exact_wrong p b bs o e = record { good = []; split = refl; opens = o; stops = e }

-- ---- a literal

pub opens_literal : (k : List ℕ) → Opens (literal k) []
opens_literal k = record { more = k; value = tt; reads = literal_written k }

pub exact_literal : (k s : List ℕ) → Exact (literal k) s (seek_literal k s)
unfolding seek_literal literal
exact_literal [] s = record { text = []; split = refl; reads = λ rest. refl }
exact_literal (k ∷ ks) [] = exact_end (literal (k ∷ ks)) (opens_literal (k ∷ ks)) refl
exact_literal (k ∷ ks) (b ∷ bs) = go (eqb b k) refl (exact_literal ks bs)
  where
    go : (t : Bool) → eqb b k ≡ t → Exact (literal ks) bs (seek_literal ks bs) → Exact (literal (k ∷ ks)) (b ∷ bs) (seek_literal (k ∷ ks) (b ∷ bs))
    go true e ih = rw (e, seek_literal) (exact_byte b bs (literal ks) (literal (k ∷ ks)) (λ s. literal_same k ks b s (eqb-true b k e)) (seek_literal ks bs) ih)
    go false e ih = rw (e, seek_literal) (exact_wrong (literal (k ∷ ks)) b bs (opens_literal (k ∷ ks)) (λ q. literal_other k ks b q (eqb-false b k e)))
