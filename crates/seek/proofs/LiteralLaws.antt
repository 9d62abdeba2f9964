-- What is sought of a literal, from how many bytes of it stand at a place. Assumes nothing.
use Prim.Native.Nat.{ℕ, suc, ◌+◌, ◌-◌, ◌≤◌}
use native.Mathlib.Omega.{arith}
use mathlib.Core.List.{List, [], ◌∷◌}
use mathlib.Core.Path.{◌≡◌, refl, sym, ◌∙◌}
use lib.Dec.{eqb}
use lib.ListN.{length, drop, length-drop}
use Rattle.std.proofs.lemmas.List.{drop-drop}
use borrow.Author.Tests.{eqb-true, eqb-false, eq-eqb, ne_eqb}
use Rattle.command.proofs.Tests.{by_test}
use Rattle.begins.specs.Seek.{found, wrong, seek_literal}
use Rattle.seek.proofs.SoughtLaws.{ends_found, ends_wrong}
use Rattle.seek.specs.Spotted.{At, Ends, same_bytes}

-- No more of them than the text has.
pub same_fits : (key t : List ℕ) → same_bytes key t ≤ length t
same_fits [] t = omega arith
same_fits (k ∷ ks) [] = omega arith
same_fits (k ∷ ks) (b ∷ bs) = by_test (eqb k b) (λ e. let ih = same_fits ks bs in rw e (omega arith)) (λ e. rw e (omega arith))

one_more : (n : ℕ) → 1 + n ≡ suc n
one_more n = omega arith

-- All of them.
all_same : (key t : List ℕ) → same_bytes key t ≡ length key → seek_literal key t ≡ found tt (drop (same_bytes key t) t)
unfolding seek_literal
all_same [] t e = refl
all_same (k ∷ ks) [] e = absurd (omega arith)
all_same (k ∷ ks) (b ∷ bs) e =
    by_test (eqb k b)
    (λ q.
    let f : 1 + same_bytes ks bs ≡ suc (length ks) = rw q at e in
    rw (q, eq-eqb b k (sym (eqb-true k b q)), one_more (same_bytes ks bs), seek_literal) (all_same ks bs (omega arith)))
    (λ q. let f : 0 ≡ suc (length ks) = rw q at e in absurd (omega arith))

-- Fewer.
not_same : (key t : List ℕ) → (same_bytes key t ≡ length key → ⊥) → seek_literal key t ≡ wrong (drop (same_bytes key t) t)
unfolding seek_literal
not_same [] t n = absurd (n refl)
not_same (k ∷ ks) [] n = refl
not_same (k ∷ ks) (b ∷ bs) n =
    by_test (eqb k b)
    (λ q. rw (q, eq-eqb b k (sym (eqb-true k b q)), one_more (same_bytes ks bs), seek_literal) (not_same ks bs (λ e. n (rw q (omega (arith, e))))))
    (λ q. rw (q, ne_eqb b k (λ e. eqb-false k b q (sym e)), seek_literal))

-- The code finds so many of them at a place.
module _ (key s part : List ℕ) (at n : ℕ) (many : n ≡ same_bytes key part) (is : part ≡ drop at s) where
  many_fit : at ≤ length s → at + n ≤ length s
  many_fit h = let f = same_fits key part in let l : length part ≡ length s - at = rw is (length-drop at s) in omega arith

  -- All of them.
  pub literal_stood : at ≤ length s → n ≡ length key → At s (seek_literal key (drop at s)) (found tt) (at + n)
  literal_stood h e =
      let all = all_same key part (sym many ∙ e) in record { inside = many_fit h; is = rw (← many, is, drop-drop n at s) at all }

  -- Fewer: the next is wrong.
  pub literal_wrong : at ≤ length s → (n ≡ length key → ⊥) → At s (seek_literal key (drop at s)) wrong (at + n)
  literal_wrong h d =
      let few = not_same key part (λ e. d (many ∙ e)) in record { inside = many_fit h; is = rw (← many, is, drop-drop n at s) at few }

-- The place where they end.
pub literal_ends : (key s : List ℕ) (at : ℕ) → at ≤ length s → Ends s (seek_literal key (drop at s)) (at + same_bytes key (drop at s))
literal_ends key s at h =
    let n = same_bytes key (drop at s) in
    by_test (eqb n (length key))
    (λ e. ends_found (literal_stood key s (drop at s) at n refl refl h (eqb-true n (length key) e)))
    (λ e. ends_wrong (literal_wrong key s (drop at s) at n refl refl h (eqb-false n (length key) e)))
