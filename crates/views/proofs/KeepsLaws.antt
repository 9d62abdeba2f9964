-- What one event of the machine does to what holds of a hub: the frame (`keeps_event`: not an event of this hub) and the hub's own
-- doings. Assumes nothing.
use mathlib.Core.Path.{◌≡◌, refl, ◌∙◌}
use mathlib.Core.Logic.{◌≢◌, ◌⊎◌, ⊎_elim}
use mathlib.Core.Bool.{Bool, true}
use mathlib.Core.List.{List, ◌∷◌}
use Prim.Native.Nat.{ℕ, ◌≤◌, ◌<◌}
use native.Mathlib.Omega.{arith}
use Rattle.paxos.specs.Paxos.{Machine, Seen, never, at, Happening, asked, raised, reported, proposed, voted, History, ◌∈◌, here, there, ◌⊆◌, promise, Highest, Run}
use Rattle.paxos.proofs.PutLaws.{put_cases, put_same, put_other}
use Rattle.paxos.proofs.Member.{new}
use Rattle.paxos.proofs.Theorems.{binds, stays_at}
use Rattle.views.specs.Hall.{View, with_term, with_says, with_vote, Gift, gave}
use Rattle.views.specs.Faithful.{Settled, Known, Keeps}

-- The event is no promise and no vote of hub `g`.
abbrev pub Other : {C : Type 0} → ℕ → Happening C → Type 0
Other g (asked c) = Unit {0}
Other g (raised h b) = g ≢ h
Other g (reported h b seen) = Unit {0}
Other g (proposed b p c) = Unit {0}
Other g (voted h b p c) = g ≢ h

module _ {C : Type 0} where
  -- Such an event leaves the promise.
  promise_other : (s : History C) (g : ℕ) (e : Happening C) → Other g e → promise (e ∷ s) g ≡ promise s g
  unfolding promise
  promise_other s g (asked c) o = refl
  promise_other s g (raised h b) o = put_other (promise s) h b g o
  promise_other s g (reported h b seen) o = refl
  promise_other s g (proposed b p c) o = refl
  promise_other s g (voted h b p c) o = refl

  -- And the hub's votes.
  voted_other : {s : History C} {g b p : ℕ} {c : C} {e : Happening C} → Other g e → voted g b p c ∈ (e ∷ s) → voted g b p c ∈ s
  voted_other o here = absurd (o refl)
  voted_other o (there m) = m

  -- A promise is no vote.
  voted_raised : {s : History C} {g b p h t : ℕ} {c : C} → voted g b p c ∈ (raised h t ∷ s) → voted g b p c ∈ s
  voted_raised (there m) = m

  -- The highest vote at a place stays so, where no vote of the hub at the place is added.
  highest_on :
      {s t : History C} {h p : ℕ} (x : Seen C) → s ⊆ t
      → ((b : ℕ) (c : C) → voted h b p c ∈ t → voted h b p c ∈ s)
      → Highest s h p x → Highest t h p x
  highest_on never sub old f = λ b c m. f b c (old b c m)
  highest_on (at b c) sub old f = (sub _ f.0, λ k d m. f.1 k d (old k d m))

  -- A vote is not above the highest one.
  highest_top :
      {s : History C} {h p k t : ℕ} {d : C} (x : Seen C)
      → Highest s h p x
      → ((b : ℕ) (c : C) → x ≡ at b c → b ≤ t)
      → voted h k p d ∈ s
      → k ≤ t
  highest_top never f low m = absurd (f _ _ m)
  highest_top (at b c) f low m = omega (arith, f.1 _ _ m, low b c refl)

module _ {C : Type 0} {M : Machine C} where
  -- What is settled stays so, and at later terms.
  pub settled_on : {s t : History C} {k l p : ℕ} {c : C} → s ⊆ t → k ≤ l → Settled M s k p c → Settled M t l p c
  settled_on sub le (b, low, x) = (b, omega arith, stays_at sub x)

  -- What is known stays so, and at later terms.
  known_on : {s t : History C} {k l p : ℕ} {x : Seen C} → s ⊆ t → k ≤ l → Known M s k p x → Known M t l p x
  known_on sub le x = record { ballot = x.ballot; command = x.command; is = x.is; settled = settled_on sub le x.settled }

module _ {C : Type 0} {M : Machine C} {s : History C} {G : List (Gift C)} {h : ℕ} {v : View C} (ok : Keeps M s G h v) where
  -- Another's event: nothing changes for the hub.
  pub keeps_event : (e : Happening C) → Other h e → Keeps M (e ∷ s) G h v
  keeps_event e o =
      record {
        promised = promise_other s h e o ∙ ok.promised;
        held = λ p. highest_on (v.holds p) (λ a m. there m) (λ b c m. voted_other o m) (ok.held p);
        low = ok.low;
        early = ok.early;
        said = λ p w. known_on (λ a m. there m) (omega arith) (ok.said p w);
      }

  -- A gift: if it is this hub's own, it is of its term.
  pub keeps_gift : (g t l : ℕ) (x : ℕ → Seen C) → (h ≡ g → t ≤ v.term) → Keeps M s (gave g t l x ∷ G) h v
  keeps_gift g t l x le =
      record {
        promised = ok.promised;
        held = ok.held;
        low = ok.low;
        early = λ k m y z. new z (λ e. let k= : k ≡ t = cc in let h= : h ≡ g = cc in omega (arith, le h=)) (ok.early k m y);
        said = ok.said;
      }

  -- The hub raises its term.
  pub keeps_raise : (t : ℕ) → v.term < t → Keeps M (raised h t ∷ s) G h (with_term v t)
  unfolding promise
  keeps_raise t lt =
      record {
        promised = put_same (promise s) h t;
        held = λ p. highest_on (v.holds p) (λ a m. there m) (λ b c m. voted_raised m) (ok.held p);
        low = λ p b c e. omega (arith, ok.low p b c e);
        early = λ k l x m. omega (arith, ok.early k l x m);
        said = λ p w. known_on (λ a m. there m) (omega arith) (ok.said p w);
      }

  -- The hub reports other places as chosen.
  pub keeps_say :
      (w : ℕ → Bool) → ((p : ℕ) → w p ≡ true → (v.says p ≡ true) ⊎ Known M s v.term p (v.holds p)) → Keeps M s G h (with_says v w)
  keeps_say w all =
      record {
        promised = ok.promised;
        held = ok.held;
        low = ok.low;
        early = ok.early;
        said = λ p q. ⊎_elim (ok.said p) (λ x. x) (all p q);
      }

  -- The hub votes at its term.
  pub keeps_vote : (p : ℕ) (c : C) → Run M s → proposed v.term p c ∈ s → Keeps M (voted h v.term p c ∷ s) G h (with_vote v p c)
  unfolding promise
  keeps_vote p c run m =
      record {
        promised = ok.promised;
        held =
            put_cases (Highest s' h) v.holds p x
            (here, λ k d z. new z (λ e. let k= : k ≡ v.term = cc in omega arith) (highest_top (v.holds p) (ok.held p) (ok.low p)))
            (λ q ne. highest_on (v.holds q) (λ a z. there z) (λ b d z. new z (λ e. absurd (ne (cc))) (λ y. y)) (ok.held q));
        low =
            put_cases (λ q y. (b : ℕ) (d : C) → y ≡ at b d → b ≤ v.term) v.holds p x
            (λ b d e. let b= : b ≡ v.term = cc in omega arith)
            (λ q ne. ok.low q);
        early = ok.early;
        said =
            put_cases (λ q y. v.says q ≡ true → Known M s' v.term q y) v.holds p x
            (λ w. same (ok.said p w))
            (λ q ne w. known_on (λ a z. there z) (omega arith) (ok.said q w));
      }
    where
      x : Seen C
      x = at v.term c

      s' : History C
      s' = voted h v.term p c ∷ s

      -- What was settled at this place is what is proposed now.
      same : {y : Seen C} → Known M s v.term p y → Known M s' v.term p x
      same k =
          let (b, le, ch) = k.settled in
          record {
            ballot = v.term;
            command = c;
            is = refl;
            settled = rw (binds run ch m le) (settled_on (λ a z. there z) (omega arith) k.settled);
          }
