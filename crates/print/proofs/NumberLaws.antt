-- A number's digits written from the last to the first: what each turn of the writer's loop leaves. Assumes nothing.
use Prim.Native.Nat.{ℕ, suc, ◌+◌, ◌-◌, ◌/◌, ◌%◌, ◌<◌}
use native.Mathlib.Omega.{arith}
use mathlib.Core.Path.{◌≡◌, refl, ◌∙◌, ap}
use mathlib.Core.Bool.{true, false}
use mathlib.Core.List.{List, [], ◌∷◌, ◌++◌, append_assoc}
use borrow.Author.Tests.{ltb-true, ltb-false}
use lib.Dec.{ltb}
use lib.ListN.{length, set, length-append}
use lib.Seq.{sets, set_comm}
use Rattle.text.specs.Decimal.{decimal}
use Rattle.text.specs.Wrote.{Wrote}
use Rattle.text.proofs.DecimalLaws.{decimal_one, decimal_more}

-- A number of one digit is written by one byte.
pub digit_written : {out : List ℕ} {at x : ℕ} → x < 10 → Wrote out at (decimal x) (at + 1) (set out at (48 + x))
digit_written {out} {at} {x} h = rw (decimal_one x h) (record { to = refl; text = refl })

-- A byte set before a text.
set_sets : (t l : List ℕ) (i j d : ℕ) → i < j → set (sets l j t) i d ≡ sets (set l i d) j t
set_sets [] l i j d h = refl
set_sets (b ∷ t) l i j d h =
    set_sets t (set l j b) i (suc j) d (omega arith)
    ∙ ap (λ (m : List ℕ). sets m (suc j) t) (set_comm l j i b d (λ e. omega arith))

-- Of the digits of x those from the place i on stand, and those before it are the digits of v, if any are left.
pub record Rest (out : List ℕ) (at x : ℕ) (now : List ℕ) (i v : ℕ) : Type 0 where
  pub front : List ℕ
  pub tail : List ℕ
  pub digits : decimal x ≡ front ++ tail
  pub text : now ≡ sets out i tail
  pub place : i ≡ at + length front
  pub left : 0 < length front → front ≡ decimal v

module _ (out : List ℕ) (at x : ℕ) (now : List ℕ) (i v : ℕ) (r : Rest out at x now i v) (some : at < i) where
  put : set now (i - 1) (48 + v % 10) ≡ sets out (i - 1) ((48 + v % 10) ∷ r.tail)
  put =
      let next : suc (i - 1) ≡ i = omega arith in
      rw (r.text, next) (set_sets r.tail out (i - 1) i (48 + v % 10) (omega arith))

  -- One digit more.
  pub rest_more : Rest out at x (set now (i - 1) (48 + v % 10)) (i - 1) (v / 10)
  rest_more = go (ltb v 10) refl
    where
      same : r.front ≡ decimal v
      same = r.left (omega (arith, r.place, some))

      go : (b : _) → ltb v 10 ≡ b → Rest out at x (set now (i - 1) (48 + v % 10)) (i - 1) (v / 10)
      go true t =
          let one : decimal v ≡ (48 + v % 10) ∷ [] = decimal_one v (ltb-true v 10 t) ∙ ap (λ (d : ℕ). (48 + d) ∷ []) (omega (arith, ltb-true v 10 t)) in
          record {
            front = [];
            tail = (48 + v % 10) ∷ r.tail;
            digits = r.digits ∙ ap (λ (l : List ℕ). l ++ r.tail) (same ∙ one);
            text = put;
            place = omega (arith, r.place, ap length (same ∙ one), some);
            left = λ k. absurd (omega (arith, k));
          }
      go false t =
          let more : decimal v ≡ decimal (v / 10) ++ ((48 + v % 10) ∷ []) = decimal_more v (ltb-false v 10 t) in
          record {
            front = decimal (v / 10);
            tail = (48 + v % 10) ∷ r.tail;
            digits =
                r.digits ∙ ap (λ (l : List ℕ). l ++ r.tail) (same ∙ more)
                ∙ append_assoc (decimal (v / 10)) ((48 + v % 10) ∷ []) r.tail;
            text = put;
            place = omega (arith, r.place, ap length (same ∙ more), some, length-append (decimal (v / 10)) ((48 + v % 10) ∷ []));
            left = λ k. refl;
          }
