-- An array that `from_fn` makes by calls that each give a function of their index, and change nothing. Assumes nothing.
use Prim.Native.Nat.{ℕ, zero, suc, ◌+◌, ◌≤◌, ◌<◌}
use native.Mathlib.Omega.{arith}
use mathlib.Core.Path.{◌≡◌, refl, ◌∙◌}
use mathlib.Core.Bool.{Bool, true, false}
use mathlib.Core.List.{List, map}
use borrow.Author.Tests.{eqb-true, eqb-false}
use lib.Dec.{eqb}
use lib.ListN.{get_or}
use denote.Param.Members.{Mut}
use Rattle.std.specs.Array.{IsElementAt, IsFromFnResult, IsFromFnResultFrom}
use Rattle.std.specs.Fn.{Called}
use Rattle.std.specs.List.{range_with_len}
use Rattle.std.proofs.lemmas.List.FromFn.{fill_by_all}

module _ {F B : Type 0} (g : Mut F (ℕ × Unit {0}) B) (f : F) (made : ℕ → B) where
  -- The call at index i, and those behind it.
  at_or_behind : (ys : List B) (i k : ℕ) (d y : B) → IsElementAt ys i y → y ≡ made i → (i + 1 ≤ k → get_or ys k d ≡ made k) → i ≤ k →
      (b : Bool) → eqb k i ≡ b → get_or ys k d ≡ made k
  at_or_behind ys i k d y at is behind low true e =
      let same : k ≡ i = eqb-true k i e in
      rw same (at.1 d ∙ is)
  at_or_behind ys i k d y at is behind low false e =
      let other = eqb-false k i e in
      behind (omega arith)

  -- The calls from index i on, n of them.
  from_call : (ys : List B) (i n : ℕ) → ((j : ℕ) (y : B) (q : F) → j < i + n → Called g f (j, tt) y q → (q ≡ f) × (y ≡ made j)) →
      IsFromFnResultFrom g f ys i n →
      (k : ℕ) → i ≤ k → k < i + n → (d : B) → get_or ys k d ≡ made k
  from_call ys i zero each r k low high d = absurd (omega arith)
  from_call ys i (suc n) each (q, y, at, called, rest) k low high d =
      let this = each i y q (omega arith) called in
      let behind = λ (l : i + 1 ≤ k). from_call ys (i + 1) n (λ j z p h. each j z p (omega arith)) (rw this.0 at rest) k l (omega arith) d in
      at_or_behind ys i k d y at this.1 behind low (eqb k i) refl

  -- The array, element by element.
  pub made_of : (ys : List B) (n : ℕ) (d : B) → ((j : ℕ) (y : B) (q : F) → j < n → Called g f (j, tt) y q → (q ≡ f) × (y ≡ made j)) →
      IsFromFnResult g f ys n →
      ys ≡ map made (range_with_len 0 n)
  made_of ys n d each r =
      fill_by_all made ys n d r.long
      (λ k h. from_call ys 0 n (λ j y q l. each j y q (omega arith)) r.each k (omega arith) (omega arith) d)
