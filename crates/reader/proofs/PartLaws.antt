-- A part of a lent text: the rest from a place on, and that its promise fixes it. Assumes nothing.
use Prim.Native.Nat.{ℕ, ◌-◌, ◌≤◌, ◌<◌}
use native.Mathlib.Omega.{arith}
use mathlib.Core.List.{List}
use mathlib.Core.Path.{◌≡◌, refl, sym, ◌∙◌, subst}
use denote.Ref.{Bor}
use lib.ListN.{length, drop, length-drop}
use lib.Seq.{take_all}
use Rattle.reader.specs.Part.{IsPart, IsRest}

-- A part by other names of its ends.
pub part_same : (s r : Bor (List ℕ)) (a e b f : ℕ) → IsPart s a e r → (a ≡ b) × (e ≡ f) → IsPart s b f r
part_same s r a e b f p (x, y) = subst (λ (k : ℕ). IsPart s b k r) y (subst (λ (k : ℕ). IsPart s k e r) x p)

-- Of one text no two parts are both right: they are the same bytes, and the same reference to a machine. (The logic also gives every reference a
-- ghost name when it is made. A program has no such thing, and no promise can speak of it.)
pub part_unique : (s r q : Bor (List ℕ)) (a e : ℕ) → IsPart s a e r → IsPart s a e q → (r.now ≡ q.now) × (r.ref_ptr ≡ q.ref_ptr)
part_unique s r q a e x y =
    let block = x.block ∙ sym y.block in
    let place = x.place ∙ sym y.place in
    (x.bytes ∙ sym y.bytes, λ i. (block i, place i))

module _ (s r : Bor (List ℕ)) (at : ℕ) where
  -- The rest from a place inside the text,
  pub rest_inside : at ≤ length s.now → IsPart s at (length s.now) r → IsRest s at r
  rest_inside h p = part_same s r at (length s.now) _ _ p (omega arith, refl)

  -- and from one beyond it.
  pub rest_beyond : length s.now < at → IsPart s (length s.now) (length s.now) r → IsRest s at r
  rest_beyond h p = part_same s r (length s.now) (length s.now) _ _ p (omega arith, refl)

  -- Where it lies,
  pub rest_part : at ≤ length s.now → IsRest s at r → IsPart s at (length s.now) r
  rest_part h p = part_same s r _ _ at (length s.now) p (omega arith, refl)

  -- and what stands in it.
  pub rest_bytes : at ≤ length s.now → IsRest s at r → r.now ≡ drop at s.now
  rest_bytes h p =
      (rest_part h p).bytes ∙ take_all (length s.now - at) (drop at s.now) (omega (arith, length-drop at s.now))
