-- The rules on the fields of a message (R30) are ranges: a message is legal exactly if each of its numbers lies in the range that
-- the numbers before it fix, and its entries are legal from the range's low end on. Assumes nothing.
use Prim.Native.Nat.{ℕ, zero, suc, ◌-◌, ◌≤◌, max}
use native.Mathlib.Omega.{arith}
use mathlib.Core.Path.{◌≡◌, refl, sym, ◌∙◌, ap, subst}
use mathlib.Core.Bool.{Bool, true, false, cond, ◌&&◌, and-true}
use mathlib.Core.List.{List, [], ◌∷◌}
use borrow.Author.Tests.{eq-eqb, eqb-true, eqb-false}
use lib.Dec.{leb, eqb, leb-zero}
use lib.ListN.{length, get_or}
use Rattle.kinds.specs.Sizes.{between, hubs_most, term_most, limit}
use Rattle.kinds.proofs.BetweenLaws.{between_in, between_true}
use Rattle.command.specs.Entry.{Entry, legal_entries}
use Rattle.command.proofs.Tests.{by_test, both}
use Rattle.message.specs.Message.{vote_request, vote_yes, vote_no, append}
use Rattle.message.specs.Legal.{legal_to, legal_body, legal_message}
use Rattle.message.specs.Fields.{
  MessageType,
  type=vote_request,
  type=vote_yes,
  type=vote_no,
  type=append,
  type=append_yes,
  type=append_no,
  Field,
  term=,
  from=,
  to=,
  last=,
  ballot=,
  count=,
  prev=,
  prevterm=,
  chosen=,
  end=,
  length=,
  own_fields,
  fields,
  unset,
  number_of,
  with_number,
  count_in,
  body_of,
  message_of,
}
use Rattle.message.specs.Range.{
  up_to,
  to_range,
  prevterm_range,
  range,
  low_in,
  high_in,
}
use Rattle.message.proofs.FieldsLaws.{spelled}
use Rattle.message.proofs.LegalLaws.{request_is, is_request_lem, yes_is, is_yes, append_is, is_append_lem}
use Rattle.message.proofs.TextLaws.{placed}

-- Whether these numbers of these fields lie in their ranges, given the numbers before them.
unfoldable pub ranged : MessageType → List Field → List ℕ → List ℕ → Bool
ranged t [] before ns = true
ranged t (f ∷ fs) before [] = true
ranged t (f ∷ fs) before (n ∷ ns) = between (range t f before).lo (range t f before).hi n && ranged t fs (with_number f n before) ns

-- ---- tests

-- Two tests that hold together are the same.
same_test : (a b : Bool) → (a ≡ true → b ≡ true) → (b ≡ true → a ≡ true) → a ≡ b
same_test true b f g = sym (f refl)
same_test false true f g = g refl
same_test false false f g = refl

-- Tests in front of both sides.
under : (a b c d e x : Bool) → (a ≡ true → x ≡ (d && e)) → (a && (b && (c && x))) ≡ ((a && (b && (c && d))) && e)
under true true true d e x h = h refl
under true true false d e x h = refl
under true false c d e x h = refl
under false b c d e x h = refl

-- At most a number that is 0 where n is y.
in_cond : (n y x hi : ℕ) → (n ≡ y → x ≡ 0) → x ≤ hi → x ≤ cond (eqb n y) 0 hi
in_cond n y x hi zeroed h = by_test (eqb n y) (λ e. rw e (omega (arith, zeroed (eqb-true n y e)))) (λ e. rw e h)

pub cond_in : (n y x hi : ℕ) → x ≤ cond (eqb n y) 0 hi → (x ≤ hi) × (n ≡ y → x ≡ 0)
cond_in n y x hi h =
    by_test (eqb n y)
    (λ e.
    let z : x ≤ 0 = rw e at h in
    (omega arith, λ p. omega arith))
    (λ e. (rw e at h, λ p. absurd (eqb-false n y e p)))

-- At least 1 where n is not 0.
low_cond : (n x : ℕ) → (x ≡ 0 → n ≡ 0) → cond (eqb n 0) 0 1 ≤ x
low_cond n zero h = rw (eq-eqb n 0 (h refl)) (omega arith)
low_cond n (suc x) h = by_test (eqb n 0) (λ e. rw e (omega arith)) (λ e. rw e (omega arith))

cond_low : (n x : ℕ) → cond (eqb n 0) 0 1 ≤ x → x ≡ 0 → n ≡ 0
cond_low n x h z =
    by_test (eqb n 0) (λ e. eqb-true n 0 e)
    (λ e.
    let p : 1 ≤ x = rw e at h in
    absurd (omega arith))

pub not_zero : (x : ℕ) → (x ≡ 0 → ⊥) → 1 ≤ x
not_zero zero h = absurd (h refl)
not_zero (suc x) h = omega arith

-- The range of prevterm: zero exactly with prev zero, and at most the term.
prevterm_in : (prev term x : ℕ) → (x ≡ 0 → prev ≡ 0) → (prev ≡ 0 → x ≡ 0) → x ≤ term →
    between (prevterm_range term prev).lo (prevterm_range term prev).hi x ≡ true
prevterm_in prev term x f g h =
    by_test (eqb prev 0) (λ e. rw e (between_in 0 0 x (omega arith) (omega (arith, g (eqb-true prev 0 e)))))
    (λ e. rw e (between_in 1 term x (not_zero x (λ z. eqb-false prev 0 e (f z))) h))

in_prevterm : (prev term x : ℕ) → between (prevterm_range term prev).lo (prevterm_range term prev).hi x ≡ true →
    (x ≡ 0 → prev ≡ 0) × (prev ≡ 0 → x ≡ 0) × (x ≤ term)
in_prevterm prev term x h =
    by_test (eqb prev 0)
    (λ e.
    let z : (0 ≤ x) × (x ≤ 0) = between_true 0 0 x (rw e at h) in
    (λ p. eqb-true prev 0 e, λ p. omega arith, omega arith))
    (λ e.
    let z : (1 ≤ x) × (x ≤ term) = between_true 1 term x (rw e at h) in
    (λ p. absurd (omega arith), λ p. absurd (eqb-false prev 0 e p), z.1))

-- The numbers of term, from and to.
abbrev head : ℕ → ℕ → ℕ → List ℕ
head term from to = term ∷ from ∷ to ∷ 0 ∷ 0 ∷ 0 ∷ 0 ∷ []

-- ---- the ranges of each type's own fields, of a message of term at least 1

module _ (term from to : ℕ) (some_term : 1 ≤ term) where
  own_request : (last ballot : ℕ) →
      legal_body term (vote_request last ballot)
      ≡ (ranged type=vote_request (last= ∷ ballot= ∷ []) (head term from to) (last ∷ ballot ∷ []) && true)
  unfolding ranged range
  own_request last ballot =
      let A = between 0 (cond (eqb term 1) 0 limit) last in
      let B = between (cond (eqb last 0) 0 1) (term - 1) ballot in
      same_test (legal_body term (vote_request last ballot)) ((A && (B && true)) && true)
      (λ h.
      let r = request_is term last ballot h in
      let a : A ≡ true = between_in 0 (cond (eqb term 1) 0 limit) last (omega arith) (in_cond term 1 last limit (λ e. r.empty (omega arith)) r.within) in
      let b : B ≡ true = between_in (cond (eqb last 0) 0 1) (term - 1) ballot (low_cond last ballot r.empty) (omega arith) in
      rw (a, b))
      (λ h.
      let x = both (A && (B && true)) true h in
      let y = both A (B && true) x.0 in
      let z = both B true y.1 in
      let a = cond_in term 1 last limit (between_true 0 (cond (eqb term 1) 0 limit) last y.0).1 in
      let b = between_true (cond (eqb last 0) 0 1) (term - 1) ballot z.0 in
      let below : ballot ≤ term - 1 = b.1 in
      is_request_lem term last ballot (record { within = a.0; below = omega arith; empty = cond_low last ballot b.0 }))

  own_yes : (last ballot : ℕ) (es : List Entry) →
      legal_body term (vote_yes last ballot es)
      ≡ (ranged type=vote_yes (last= ∷ ballot= ∷ count= ∷ []) (head term from to) (last ∷ ballot ∷ length es ∷ []) && legal_entries 1 ballot es)
  unfolding ranged range
  own_yes last ballot es =
      let n = length es in
      let A = between 0 limit last in
      let B = between 0 (term - 1) ballot in
      let C = between 0 (cond (eqb ballot 0) 0 (limit - last)) n in
      let L = legal_entries 1 ballot es in
      same_test (legal_body term (vote_yes last ballot es)) ((A && (B && (C && true))) && L)
      (λ h.
      let r = yes_is term last ballot es h in
      let a : A ≡ true = between_in 0 limit last (omega arith) (omega arith) in
      let b : B ≡ true = between_in 0 (term - 1) ballot (omega arith) (omega arith) in
      let c : C ≡ true = between_in 0 (cond (eqb ballot 0) 0 (limit - last)) n (omega arith) (in_cond ballot 0 n (limit - last) r.empty (omega arith)) in
      rw (a, b, c, r.legal))
      (λ h.
      let w = both (A && (B && (C && true))) L h in
      let x = both A (B && (C && true)) w.0 in
      let y = both B (C && true) x.1 in
      let z = both C true y.1 in
      let a : (0 ≤ last) × (last ≤ limit) = between_true 0 limit last x.0 in
      let b : (0 ≤ ballot) × (ballot ≤ term - 1) = between_true 0 (term - 1) ballot y.0 in
      let c = cond_in ballot 0 n (limit - last) (between_true 0 (cond (eqb ballot 0) 0 (limit - last)) n z.0).1 in
      let most : n ≤ limit - last = c.0 in
      is_yes term last ballot es (record { within = omega arith; below = omega arith; empty = c.1; legal = w.1 }))

  own_append : (prev prevterm chosen : ℕ) (es : List Entry) →
      legal_body term (append prev prevterm chosen es)
      ≡ (ranged type=append (prev= ∷ prevterm= ∷ chosen= ∷ count= ∷ []) (head term from to) (prev ∷ prevterm ∷ chosen ∷ length es ∷ [])
      && legal_entries (max 1 prevterm) term es)
  unfolding ranged range
  own_append prev prevterm chosen es =
      let n = length es in
      let A = between 0 limit prev in
      let B = between (prevterm_range term prev).lo (prevterm_range term prev).hi prevterm in
      let C = between 0 limit chosen in
      let D = between (chosen - prev) (limit - prev) n in
      let L = legal_entries (max 1 prevterm) term es in
      same_test (legal_body term (append prev prevterm chosen es)) ((A && (B && (C && (D && true)))) && L)
      (λ h.
      let r = append_is term prev prevterm chosen es h in
      let a : A ≡ true = between_in 0 limit prev (omega arith) (omega arith) in
      let b : B ≡ true = prevterm_in prev term prevterm r.start.0 r.start.1 r.low in
      let c : C ≡ true = between_in 0 limit chosen (omega arith) (omega arith) in
      let d : D ≡ true = between_in (chosen - prev) (limit - prev) n (omega arith) (omega arith) in
      rw (a, b, c, d, r.legal))
      (λ h.
      let v = both (A && (B && (C && (D && true)))) L h in
      let w = both A (B && (C && (D && true))) v.0 in
      let x = both B (C && (D && true)) w.1 in
      let y = both C (D && true) x.1 in
      let z = both D true y.1 in
      let a : (0 ≤ prev) × (prev ≤ limit) = between_true 0 limit prev w.0 in
      let b = in_prevterm prev term prevterm x.0 in
      let d : (chosen - prev ≤ n) × (n ≤ limit - prev) = between_true (chosen - prev) (limit - prev) n z.0 in
      is_append_lem term prev prevterm chosen es
      (record {
        within = omega arith;
        start = (b.0, b.1);
        low = b.2;
        known = omega arith;
        legal = v.1;
      }))

  own_none : legal_body term vote_no ≡ (ranged type=vote_no [] (head term from to) [] && true)
  unfolding legal_body ranged
  own_none = refl

  own_place : (f : Field) (t : MessageType) (place : ℕ) → range t f (head term from to) ≡ up_to limit →
      leb place limit ≡ (ranged t (f ∷ []) (head term from to) (place ∷ []) && true)
  unfolding ranged between
  own_place f t place e = rw (e, leb-zero place, and-true, and-true)

-- ---- all fields

none_legal : (low high : ℕ) (es : List Entry) → length es ≡ 0 → true ≡ legal_entries low high es
unfolding legal_entries
none_legal low high [] h = refl
none_legal low high (e ∷ es) h = absurd (omega arith)

at_zero : (x : ℕ) → eqb x 0 ≡ between 0 0 x
at_zero x =
    same_test (eqb x 0) (between 0 0 x)
    (λ e. between_in 0 0 x (omega arith) (omega (arith, eqb-true x 0 e)))
    (λ h. eq-eqb x 0 (omega (arith, between_true 0 0 x h)))

legal_to_range : (t : MessageType) (to : ℕ) (ns : List ℕ) (es : List Entry) → legal_to to (body_of t ns es) ≡ between (to_range t).lo (to_range t).hi to
unfolding legal_to body_of
legal_to_range type=vote_request to ns es = at_zero to
legal_to_range type=vote_yes to ns es = refl
legal_to_range type=vote_no to ns es = refl
legal_to_range type=append to ns es = refl
legal_to_range type=append_yes to ns es = refl
legal_to_range type=append_no to ns es = refl

-- The numbers xs of a type's lines, which are ns in their slots.
module _ (t : MessageType) (es : List Entry) where
  abbrev Told : List ℕ → List ℕ → Type 0
  Told ns xs = legal_message (message_of t ns es) ≡ (ranged t (fields t) unset xs && legal_entries (low_in t ns) (high_in t ns) es)

  abbrev Claim : List ℕ → Type 0
  Claim xs = length es ≡ count_in t (placed (fields t) xs unset) → Told (placed (fields t) xs unset) xs

  module _ (ns own : List ℕ) where
    abbrev before : List ℕ
    before = head (number_of term= ns) (number_of from= ns) (number_of to= ns)

    all_fields :
        (1 ≤ number_of term= ns → legal_body (number_of term= ns) (body_of t ns es) ≡ (ranged t (own_fields t) before own && legal_entries (low_in t ns) (high_in t ns) es))
        → Told ns (number_of term= ns ∷ number_of from= ns ∷ number_of to= ns ∷ own)
    unfolding legal_message message_of ranged range fields
    all_fields h =
        rw (legal_to_range t (number_of to= ns) ns es)
        (under (between 1 term_most (number_of term= ns)) (between 1 hubs_most (number_of from= ns)) (between (to_range t).lo (to_range t).hi (number_of to= ns))
        (ranged t (own_fields t) before own) (legal_entries (low_in t ns) (high_in t ns) es) (legal_body (number_of term= ns) (body_of t ns es))
        (λ a. h (between_true 1 term_most (number_of term= ns) a).0))

    -- The same without entries.
    all_fields_none : length es ≡ 0 →
        (1 ≤ number_of term= ns → legal_body (number_of term= ns) (body_of t ns es) ≡ (ranged t (own_fields t) before own && true))
        → Told ns (number_of term= ns ∷ number_of from= ns ∷ number_of to= ns ∷ own)
    all_fields_none e h =
        all_fields (λ s. h s ∙ ap (λ (b : Bool). ranged t (own_fields t) before own && b) (none_legal (low_in t ns) (high_in t ns) es e))

-- A message is legal exactly if the numbers of its lines lie in their ranges and its entries are legal.
pub ranged_legal : (t : MessageType) (xs : List ℕ) (es : List Entry) → length xs ≡ length (fields t) → length es ≡ count_in t (placed (fields t) xs unset) →
    legal_message (message_of t (placed (fields t) xs unset) es)
    ≡ (ranged t (fields t) unset xs && legal_entries (low_in t (placed (fields t) xs unset)) (high_in t (placed (fields t) xs unset)) es)
unfolding fields own_fields count_in body_of low_in high_in range legal_body
ranged_legal type=vote_request xs es n =
    let at : ℕ → ℕ = λ i. get_or xs i 0 in
    subst (Claim type=vote_request es) (spelled 5 xs n)
    (λ h. all_fields_none type=vote_request es (at 0 ∷ at 1 ∷ at 2 ∷ at 3 ∷ at 4 ∷ 0 ∷ 0 ∷ []) (at 3 ∷ at 4 ∷ []) h
    (λ s. own_request (at 0) (at 1) (at 2) s (at 3) (at 4)))
ranged_legal type=vote_yes xs es n =
    let at : ℕ → ℕ = λ i. get_or xs i 0 in
    subst (Claim type=vote_yes es) (spelled 6 xs n)
    (λ h. subst (λ (c : ℕ). Told type=vote_yes es (at 0 ∷ at 1 ∷ at 2 ∷ at 3 ∷ at 4 ∷ 0 ∷ c ∷ []) (at 0 ∷ at 1 ∷ at 2 ∷ at 3 ∷ at 4 ∷ c ∷ [])) h
    (all_fields type=vote_yes es (at 0 ∷ at 1 ∷ at 2 ∷ at 3 ∷ at 4 ∷ 0 ∷ length es ∷ []) (at 3 ∷ at 4 ∷ length es ∷ [])
    (λ s. own_yes (at 0) (at 1) (at 2) s (at 3) (at 4) es)))
ranged_legal type=vote_no xs es n =
    let at : ℕ → ℕ = λ i. get_or xs i 0 in
    subst (Claim type=vote_no es) (spelled 3 xs n)
    (λ h. all_fields_none type=vote_no es (at 0 ∷ at 1 ∷ at 2 ∷ 0 ∷ 0 ∷ 0 ∷ 0 ∷ []) [] h (λ s. own_none (at 0) (at 1) (at 2) s))
ranged_legal type=append xs es n =
    let at : ℕ → ℕ = λ i. get_or xs i 0 in
    subst (Claim type=append es) (spelled 7 xs n)
    (λ h. subst (λ (c : ℕ). Told type=append es (at 0 ∷ at 1 ∷ at 2 ∷ at 3 ∷ at 4 ∷ at 5 ∷ c ∷ []) (at 0 ∷ at 1 ∷ at 2 ∷ at 3 ∷ at 4 ∷ at 5 ∷ c ∷ [])) h
    (all_fields type=append es (at 0 ∷ at 1 ∷ at 2 ∷ at 3 ∷ at 4 ∷ at 5 ∷ length es ∷ []) (at 3 ∷ at 4 ∷ at 5 ∷ length es ∷ [])
    (λ s. own_append (at 0) (at 1) (at 2) s (at 3) (at 4) (at 5) es)))
ranged_legal type=append_yes xs es n =
    let at : ℕ → ℕ = λ i. get_or xs i 0 in
    subst (Claim type=append_yes es) (spelled 4 xs n)
    (λ h. all_fields_none type=append_yes es (at 0 ∷ at 1 ∷ at 2 ∷ at 3 ∷ 0 ∷ 0 ∷ 0 ∷ []) (at 3 ∷ []) h
    (λ s. own_place (at 0) (at 1) (at 2) s end= type=append_yes (at 3) refl))
ranged_legal type=append_no xs es n =
    let at : ℕ → ℕ = λ i. get_or xs i 0 in
    subst (Claim type=append_no es) (spelled 4 xs n)
    (λ h. all_fields_none type=append_no es (at 0 ∷ at 1 ∷ at 2 ∷ at 3 ∷ 0 ∷ 0 ∷ 0 ∷ []) (at 3 ∷ []) h
    (λ s. own_place (at 0) (at 1) (at 2) s length= type=append_no (at 3) refl))
