-- The largest of the lengths that a majority has confirmed: what the library's `filter` and `max` give, and what that says of all places.
-- Assumes nothing.
use Prim.Native.Nat.{ℕ, zero, suc, ◌≤◌, ◌<◌}
use native.Mathlib.Omega.{arith}
use mathlib.Core.Path.{◌≡◌, refl, sym, ◌∙◌, ap}
use mathlib.Core.Bool.{Bool, true, false}
use mathlib.Core.Logic.{◌⊎◌, inl, inr, ⊎_elim}
use mathlib.Core.List.{List, [], ◌∷◌}
use borrow.Author.Tests.{ltb-true, ltb-false, eqb-true}
use lib.Dec.{ltb, eqb}
use lib.ListN.{length, take, get_or, length-take, length-map}
use lib.Seq.{get_or-take}
use Rattle.std.specs.List.{filter, fold, reduce}
use Rattle.std.specs.Option.{unwrap_or}
use Rattle.std.specs.Ordering.{nat_cmp, max_by_ordering, ord_min}
use Rattle.kinds.specs.declared.Place.{Place}
use Rattle.kinds.specs.Of.{place}
use Rattle.kinds.specs.Sizes.{limit}
use Rattle.kinds.proofs.BoolLaws.{not_both}
use Rattle.rules.specs.Majority.{confirmed_by, majority_place}
use Rattle.rules.proofs.MajorityLaws.{majority_place_is_only}
use Rattle.majority.specs.Numbers.{place_numbers}
use Rattle.majority.proofs.ConfirmedLaws.{number_at}
use Rattle.majority.proofs.LengthLaws.{confirmed_below, confirmed_length}

-- The greater of two places, as `max` takes it: the second where they are equal.
abbrev pub later : Place → Place → Place
later p q = max_by_ordering (nat_cmp p.0 q.0) p q

later_is : (p q : Place) → ((later p q ≡ p) × (q.0 ≤ p.0)) ⊎ ((later p q ≡ q) × (p.0 ≤ q.0))
later_is p q = go (ltb p.0 q.0) refl (eqb p.0 q.0) refl
  where
    go : (l : Bool) → ltb p.0 q.0 ≡ l → (e : Bool) → eqb p.0 q.0 ≡ e → ((later p q ≡ p) × (q.0 ≤ p.0)) ⊎ ((later p q ≡ q) × (p.0 ≤ q.0))
    go true h e k = inr (rw h, omega (arith, ltb-true p.0 q.0 h))
    go false h true k = inr (rw (h, k), omega (arith, eqb-true p.0 q.0 k))
    go false h false k = inl (rw (h, k), omega (arith, ltb-false p.0 q.0 h))

-- No place is greater than one behind place 0.
later_zero : (p : Place) → later (place 0) p ≡ p
later_zero p = ⊎_elim (λ h. h.0 ∙ ap place (omega (arith, h.1))) (λ h. h.0) (later_is (place 0) p)

reduced : (ps : List Place) → unwrap_or (reduce later ps) (place 0) ≡ fold later (place 0) ps
reduced [] = refl
reduced (p ∷ ps) = ap (λ (q : Place). fold later q ps) (sym (later_zero p))

-- Of places with a property and a first one, `most` is the largest.
record Largest (P : Place → Bool) (ps : List Place) (first most : Place) : Type 0 where
  has : (P most ≡ true) ⊎ (most ≡ first)
  up : first.0 ≤ most.0
  above : (i : ℕ) → i < length ps → P (get_or ps i (place 0)) ≡ true → (get_or ps i (place 0)).0 ≤ most.0

module _ (P : Place → Bool) (p : Place) (ps : List Place) {first most : Place} where
  -- One more without the property.
  passed : P p ≡ false → Largest P ps first most → Largest P (p ∷ ps) first most
  passed e r = record { has = r.has; up = r.up; above = above }
    where
      above : (i : ℕ) → i < length (p ∷ ps) → P (get_or (p ∷ ps) i (place 0)) ≡ true → (get_or (p ∷ ps) i (place 0)).0 ≤ most.0
      above zero h t = absurd (not_both (P p) t e)
      above (suc i) h t = r.above i (omega arith) t

  -- One more with it.
  found : P p ≡ true → Largest P ps (later first p) most → Largest P (p ∷ ps) first most
  found e r = ⊎_elim first_later p_later (later_is first p)
    where
      above : p.0 ≤ most.0 → (i : ℕ) → i < length (p ∷ ps) → P (get_or (p ∷ ps) i (place 0)) ≡ true → (get_or (p ∷ ps) i (place 0)).0 ≤ most.0
      above k zero h t = k
      above k (suc i) h t = r.above i (omega arith) t

      first_later : (later first p ≡ first) × (p.0 ≤ first.0) → Largest P (p ∷ ps) first most
      first_later s =
          let up : first.0 ≤ most.0 = omega (arith, r.up, ap (λ (q : Place). q.0) s.0) in
          record { has = ⊎_elim (λ h. inl h) (λ h. inr (h ∙ s.0)) r.has; up = up; above = above (omega (arith, s.1)) }

      p_later : (later first p ≡ p) × (first.0 ≤ p.0) → Largest P (p ∷ ps) first most
      p_later s =
          let up : p.0 ≤ most.0 = omega (arith, r.up, ap (λ (q : Place). q.0) s.0) in
          record { has = ⊎_elim (λ h. inl h) (λ h. inl (ap P (h ∙ s.0) ∙ e)) r.has; up = omega (arith, s.1); above = above up }

module _ (P : Place → Bool) where
  one_more : (first p : Place) (ps : List Place) → ((q : Place) → Largest P ps q (fold later q (filter P ps))) → (b : Bool) → P p ≡ b →
      Largest P (p ∷ ps) first (fold later first (filter P (p ∷ ps)))
  one_more first p ps r true e = rw e (found P p ps e (r (later first p)))
  one_more first p ps r false e = rw e (passed P p ps e (r first))

  largest : (first : Place) (ps : List Place) → Largest P ps first (fold later first (filter P ps))
  largest first [] = record { has = inr refl; up = omega arith; above = λ i h. absurd (omega arith) }
  largest first (p ∷ ps) = one_more first p ps (λ q. largest q ps) (P p) refl

-- A place, or the last one if it lies beyond that.
abbrev pub cut : Place → Place
cut p = ord_min (λ p q. nat_cmp p.0 q.0) p (place limit)

cut_beyond : (p : Place) → ltb limit p.0 ≡ true → cut p ≡ place limit
cut_beyond p e = rw e

cut_within : (p : Place) → ltb limit p.0 ≡ false → cut p ≡ p
cut_within p e = go (eqb limit p.0) refl
  where
    go : (b : Bool) → eqb limit p.0 ≡ b → cut p ≡ p
    go true h = rw (e, h)
    go false h = rw (e, h)

-- ---- confirmed by a majority

module _ (n : ℕ) (ps : List Place) where
  -- Whether a majority has confirmed a place.
  abbrev pub is_confirmed : Place → Bool
  is_confirmed p = confirmed_by n (place_numbers ps) p.0

  -- The largest of the first n lengths that is.
  abbrev pub best : Place
  best = unwrap_or (reduce later (filter is_confirmed (take n ps))) (place 0)

  best_is : Largest is_confirmed (take n ps) (place 0) best
  best_is = rw reduced (largest is_confirmed (place 0) (take n ps))

  has : 1 ≤ best.0 → is_confirmed best ≡ true
  has h = ⊎_elim (λ t. t) (λ e. absurd (omega (arith, ap (λ (q : Place). q.0) e))) best_is.has

  module _ (long : n ≤ length ps) where
    -- No place above it is confirmed.
    none_above : (p : ℕ) → best.0 < p → confirmed_by n (place_numbers ps) p ≡ false
    none_above p above = go (confirmed_by n (place_numbers ps) p) refl
      where
        go : (b : Bool) → confirmed_by n (place_numbers ps) p ≡ b → confirmed_by n (place_numbers ps) p ≡ false
        go true e =
            let r = confirmed_length n (place_numbers ps) p (omega (arith, length-map ps (λ (q : Place). q.0))) e in
            let number : get_or (place_numbers ps) r.0 0 ≡ (get_or ps r.0 (place 0)).0 = number_at ps r.0 in
            let taken : get_or (take n ps) r.0 (place 0) ≡ get_or ps r.0 (place 0) = get_or-take n ps r.0 (place 0) r.1 in
            let low = best_is.above r.0 (omega (arith, r.1, length-take n ps)) (ap is_confirmed taken ∙ (rw number at r.3)) in
            absurd (omega (arith, r.2, number, ap (λ (q : Place). q.0) taken, low))
        go false e = e

    -- Cut to the last place, it is the largest place that a majority has confirmed.
    pub best_cut : cut best ≡ place (majority_place n (place_numbers ps))
    best_cut = go (ltb limit best.0) refl
      where
        go : (b : Bool) → ltb limit best.0 ≡ b → cut best ≡ place (majority_place n (place_numbers ps))
        go true e =
            let above = ltb-true limit best.0 e in
            let confirmed = confirmed_below n (place_numbers ps) limit best.0 (omega arith) (has (omega arith)) in
            let only = majority_place_is_only n (place_numbers ps) limit in
            cut_beyond best e ∙ ap place (only (record { has = λ h. confirmed; most = omega arith; none_above = λ p h w. absurd (omega arith) }))
        go false e =
            let within = ltb-false limit best.0 e in
            let only = majority_place_is_only n (place_numbers ps) best.0 in
            cut_within best e ∙ ap place (only (record { has = has; most = within; none_above = λ p h w. none_above p h }))
