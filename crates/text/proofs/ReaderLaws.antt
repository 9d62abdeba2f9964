-- What joined readers find, from what each of them finds, and back; and that a literal is read exactly where it stands.
-- Assumes nothing.
use Prim.Native.Nat.{ℕ}
use mathlib.Core.Bool.{Bool, true, false}
use mathlib.Core.List.{List, [], ◌∷◌, ◌++◌, append_assoc}
use mathlib.Core.Option.{some}
use mathlib.Core.Path.{◌≡◌, refl, ap, ap₂, subst, sym, ◌∙◌}
use native.Mathlib.Omega.{arith}
use lib.Dec.{eqb}
use borrow.Author.Tests.{eq-eqb, ne_eqb, eqb-true, eqb-false}
use Rattle.text.specs.Reader.{Got, got, lost, Reader, onward, ◌>>=◌, pure, literal, whole}

-- ---- what was found

module _ {A : Type 0} where
  -- One answer has one value.
  pub got_value : {a b : A} {r q : List ℕ} → got a r ≡ got b q → a ≡ b
  got_value e = cc

  -- And one rest.
  pub got_rest : {a b : A} {r q : List ℕ} → got a r ≡ got b q → r ≡ q
  got_rest e = cc

  -- What holds of one holds of the other.
  pub got_same : (P : A → List ℕ → Type 0) {a b : A} {r q : List ℕ} → got a r ≡ got b q → P a r → P b q
  got_same P {a} {q = q} e h = subst (λ (x : A). P x q) (got_value e) (subst (λ (l : List ℕ). P a l) (got_rest e) h)

  -- Nothing found is no find.
  pub lost_never : {a : A} {r : List ℕ} → lost ≡ got a r → ⊥
  lost_never e = let z : ◌≡◌ {A = ℕ} 0 1 = cc in omega arith

  -- What is read whole leaves nothing.
  pub whole_sound : (g : Got A) {a : A} → whole g ≡ some a → g ≡ got a []
  unfolding whole
  whole_sound lost e = absurd (let z : ◌≡◌ {A = ℕ} 0 1 = cc in omega arith)
  whole_sound (got b []) e = cc
  whole_sound (got b (c ∷ cs)) e = absurd (let z : ◌≡◌ {A = ℕ} 0 1 = cc in omega arith)

  -- What leaves nothing is read whole.
  pub whole_got : {g : Got A} {a : A} → g ≡ got a [] → whole g ≡ some a
  unfolding whole
  whole_got e = rw e

-- ---- one reader, then another

-- The first reader's find g, taken on by f to the value b and the rest r: what the first one found and left.
pub record Went {A B : Type 0} (g : Got A) (f : A → Reader B) (b : B) (r : List ℕ) : Type 0 where
  pub value : A
  pub left : List ℕ
  pub first : g ≡ got value left
  pub next : f value left ≡ got b r

module _ {A B : Type 0} where
  -- The second goes on from what the first found.
  pub onward_got : {g : Got A} {a : A} {r : List ℕ} (f : A → Reader B) → g ≡ got a r → onward g f ≡ f a r
  unfolding onward
  onward_got f e = rw e

  -- Where the first finds nothing, both find nothing.
  pub onward_lost : {g : Got A} (f : A → Reader B) → g ≡ lost → onward g f ≡ lost
  unfolding onward
  onward_lost f e = rw e

  -- Where the second never finds anything, both find nothing.
  pub onward_never : (g : Got A) (f : A → Reader B) → ((a : A) (r : List ℕ) → f a r ≡ lost) → onward g f ≡ lost
  onward_never (got a r) f h = onward_got f refl ∙ h a r
  onward_never lost f h = onward_lost f refl

  -- Two readers that go on alike.
  pub onward_same : (g : Got A) {f h : A → Reader B} → ((a : A) (s : List ℕ) → f a s ≡ h a s) → onward g f ≡ onward g h
  onward_same g e = λ i. onward g (λ a s. e a s i)

  -- Where both find something, the first found something.
  pub onward_sound : {g : Got A} {f : A → Reader B} {b : B} {r : List ℕ} → onward g f ≡ got b r → Went g f b r
  onward_sound {g} {f} {b} {r} e = go g refl
    where
      go : (h : Got A) → g ≡ h → Went g f b r
      go (got a q) p = record { value = a; left = q; first = p; next = sym (onward_got f p) ∙ e }
      go lost p = absurd (lost_never (sym (onward_lost f p) ∙ e))

-- What is found and then only told is what was found.
pub onward_pure : {A : Type 0} (g : Got A) → onward g (λ a. pure a) ≡ g
unfolding onward
onward_pure (got a r) = refl
onward_pure lost = refl

-- Three readers, joined either way.
pub onward-assoc
    : {A B C : Type 0} (g : Got A) (f : A → Reader B) (h : B → Reader C)
    → onward (onward g f) h ≡ onward g (λ a s. onward (f a s) h)
unfolding onward
onward-assoc (got a r) f h = refl
onward-assoc lost f h = refl

-- ---- a text that is read

-- Wherever the text t begins, p finds a and leaves what follows t.
abbrev pub Reads : {A : Type 0} → Reader A → List ℕ → A → Type 0
Reads p t a = (rest : List ℕ) → p (t ++ rest) ≡ got a rest

-- Two readers read two texts, one behind the other.
pub Reads-then
    : {A B : Type 0} (p : Reader A) (f : A → Reader B) (t u : List ℕ) {a : A} {b : B}
    → Reads p t a
    → Reads (f a) u b
    → Reads (◌>>=◌ p f) (t ++ u) b
Reads-then p f t u g h rest =
    ap (λ (s : List ℕ). onward (p s) f) (append_assoc t u rest) ∙ onward_got f (g (u ++ rest)) ∙ h rest

-- Two texts, one behind the other.
pub behind : (t u r : List ℕ) {s q : List ℕ} → s ≡ t ++ q → q ≡ u ++ r → s ≡ (t ++ u) ++ r
behind t u r e f = e ∙ ap (λ (l : List ℕ). t ++ l) f ∙ sym (append_assoc t u r)

-- ---- a literal

module _ (k : ℕ) (ks : List ℕ) (b : ℕ) (bs : List ℕ) where
  -- The next byte is as it should be.
  pub literal_same : b ≡ k → literal (k ∷ ks) (b ∷ bs) ≡ literal ks bs
  unfolding literal
  literal_same e = simp (eq-eqb b k e, literal)

  -- The next byte is another.
  pub literal_other : (b ≡ k → ⊥) → literal (k ∷ ks) (b ∷ bs) ≡ lost
  unfolding literal
  literal_other e = simp (ne_eqb b k e, literal)

-- A literal is read where it stands.
pub literal_written : (k : List ℕ) → Reads (literal k) k tt
unfolding literal
literal_written [] rest = refl
literal_written (k ∷ ks) rest = literal_same k ks k (ks ++ rest) refl ∙ literal_written ks rest

-- And only there.
pub literal_sound : (k s : List ℕ) {rest : List ℕ} → literal k s ≡ got tt rest → s ≡ k ++ rest
unfolding literal
literal_sound [] s e = got_rest e
literal_sound (k ∷ ks) [] e = absurd (lost_never e)
literal_sound (k ∷ ks) (b ∷ bs) {rest} e = go (eqb b k) refl (λ f. literal_sound ks bs f)
  where
    go : (t : Bool) → eqb b k ≡ t → (literal ks bs ≡ got tt rest → bs ≡ ks ++ rest) → b ∷ bs ≡ (k ∷ ks) ++ rest
    go true p ih =
        let z : b ≡ k = eqb-true b k p in
        ap₂ (λ (c : ℕ) (l : List ℕ). c ∷ l) z (ih (sym (literal_same k ks b bs z) ∙ e))
    go false p ih = absurd (lost_never (sym (literal_other k ks b bs (eqb-false b k p)) ∙ e))
