-- An append, as the rules have it: whether it fits, and what becomes of the log. Assumes nothing.
use Prim.Native.Nat.{ℕ, ◌+◌, ◌≤◌}
use native.Mathlib.Omega.{arith}
use mathlib.Core.Path.{◌≡◌, sym, subst}
use mathlib.Core.Logic.{inl, inr, ⊎_elim}
use mathlib.Core.Bool.{Bool, true, false, ◌&&◌, ◌||◌}
use mathlib.Core.List.{List, ◌++◌}
use borrow.Author.Tests.{eqb-true, eq-eqb, leb-true, leb-false}
use lib.Dec.{eqb, leb}
use lib.ListN.{length, take}
use Rattle.command.specs.Command.{Command}
use Rattle.command.specs.Entry.{Entry}
use Rattle.state.specs.State.{Kept, State}
use Rattle.rules.specs.Events.{term_at, says}
use Rattle.rules.specs.Receive.{Effect, fits, replaced, taken, heard_append}
use Rattle.kinds.proofs.BoolLaws.{and_first, and_second, or_either, cond_either}
use Rattle.rules.proofs.LegalLaws.{IsWho}
use Rattle.views.specs.Hall.{Hall}
use Rattle.views.proofs.Moves.{stay}
use Rattle.kinds.specs.Sizes.{Group, hub_of}
use Rattle.home.specs.Stands.{◌⊑◌, Logs, Ground, Follows, Carries, Rooted}
use Rattle.home.proofs.Frame.{goes}
use Rattle.home.proofs.By.{GoesBy}
use Rattle.home.proofs.Send.{follows_log}
use Rattle.home.proofs.Start.{is_hub_lem}
use Rattle.home.proofs.Take.{Fitting, Longer, joined_part, joined_length, tells, backs}

-- ---- what "fits" says

fits_is : (k : Kept) (prev prevterm end : ℕ) → fits k prev prevterm end ≡ true → Fitting k prev prevterm end
unfolding fits
fits_is k prev prevterm end h =
    let n = length k.log in
    let here = leb prev n && eqb (term_at k.log prev) prevterm in
    let start = eqb prev 0 || here in
    let reaches = eqb k.ballot k.term || leb n end in
    let a = and_first start reaches h in
    let b = and_second start reaches h in
    record {
      near =
          or_either (eqb prev 0) here a (λ z. omega (arith, eqb-true prev 0 z))
          (λ z. leb-true prev n (and_first (leb prev n) (eqb (term_at k.log prev) prevterm) z));
      after =
          or_either (eqb prev 0) here a (λ z. subst (λ (p : ℕ). Follows k.log p prevterm) (sym (eqb-true prev 0 z)) tt)
          (λ z.
          subst (λ (x : ℕ). Follows k.log prev x)
          (eqb-true (term_at k.log prev) prevterm (and_second (leb prev n) (eqb (term_at k.log prev) prevterm) z))
          (follows_log k.log prev (leb-true prev n (and_first (leb prev n) (eqb (term_at k.log prev) prevterm) z))));
      reach =
          or_either (eqb k.ballot k.term) (leb n end) b (λ z. inl (eqb-true k.ballot k.term z)) (λ z. inr (leb-true n end z));
    }

-- One test holds, so the other does not.
pub and_false : (a b : Bool) → (a && b) ≡ false → a ≡ true → b ≡ false
and_false true b h e = h
and_false false b h e = absurd (let z : ◌≡◌ {A = ℕ} 0 1 = cc in omega arith)

-- ---- the new log

module _ {G : Group} {H : Hall Command} {made : Logs} (ok : Ground G H made) (k : Kept) (prefix : k.log ⊑ made k.ballot)
    (from prev prevterm chosen : ℕ) (entries : List Entry) (c : Carries G H made k.term from prev prevterm chosen entries)
    (f : Fitting k prev prevterm (prev + length entries)) where
  -- How long the joined log is.
  long : length (take prev k.log ++ entries) ≡ prev + length entries
  long = joined_length ok k prefix from prev prevterm chosen entries c f

  replaced_longer : Longer made k (prev + length entries) (replaced k prev entries)
  unfolding replaced
  replaced_longer =
      let same = eqb k.ballot k.term in
      let short = leb (prev + length entries) (length k.log) in
      cond_either (λ (l : List Entry). Longer made k (prev + length entries) l) (same && short)
      (λ t.
      let led = eqb-true k.ballot k.term (and_first same short t) in
      record {
        part = subst (λ (b : ℕ). k.log ⊑ made b) led prefix;
        over = leb-true (prev + length entries) (length k.log) (and_second same short t);
        keeps = omega arith;
      })
      (λ t.
      record {
        part = joined_part ok k prefix from prev prevterm chosen entries c f;
        over = omega (arith, long);
        keeps =
            ⊎_elim
            (λ led.
            omega (arith, long, leb-false (prev + length entries) (length k.log) (and_false same short t (eq-eqb k.ballot k.term led))))
            (λ le. omega (arith, long))
            f.reach;
      })

-- ---- the step

module _ {G : Group} {H : Hall Command} {made : Logs} (ok : Ground G H made) {h : ℕ} (w : IsWho (hub_of G h)) {s : State} (f : Rooted G H made h s) where
  -- A true append, whether it fits or not.
  pub append_goes :
      (from prev prevterm chosen : ℕ) (entries : List Entry) → chosen ≤ prev + length entries
      → Carries G H made s.kept.term from prev prevterm chosen entries
      → GoesBy G H made h s (heard_append (hub_of G h) s from prev prevterm chosen entries)
  unfolding heard_append taken says
  append_goes from prev prevterm chosen entries known c =
      let k = s.kept in
      let end = prev + length entries in
      cond_either (λ (e : Effect). GoesBy G H made h s e) (fits k prev prevterm end)
      (λ t.
      let l = replaced_longer ok k f.prefix from prev prevterm chosen entries c (fits_is k prev prevterm end t) in
      goes ok (tells ok (is_hub_lem w) k f.view from prev prevterm chosen entries known c (replaced k prev entries) l) l.part tt
      (backs ok (is_hub_lem w) k f.view from prev prevterm chosen entries known c (replaced k prev entries) l))
      (λ t. goes ok (stay f.view) f.prefix tt tt)
