-- Laws of what an append makes of a hub: it is what the rule says, whatever hub sent it, and it is legal. Assumes nothing.
use Prim.Native.Nat.{ℕ, zero, suc, ◌+◌, ◌-◌, ◌≤◌, max}
use native.Mathlib.Omega.{arith}
use mathlib.Core.Path.{◌≡◌, refl}
use mathlib.Core.Bool.{Bool, true, false}
use mathlib.Core.List.{List, [], ◌∷◌}
use mathlib.Core.Option.{some}
use borrow.Author.Tests.{eq-eqb, le-leb}
use lib.ListN.{length}
use Rattle.kinds.specs.Sizes.{Who}
use Rattle.command.specs.Entry.{Entry, legal_entries}
use Rattle.command.proofs.EntryLaws.{legal_entries_first}
use Rattle.message.specs.Message.{append, append_yes, append_no}
use Rattle.message.specs.Legal.{legal_body}
use Rattle.state.specs.State.{Kept, State}
use Rattle.state.specs.Legal.{legal_state}
use Rattle.rules.specs.Events.{len, says}
use Rattle.rules.specs.Receive.{effect, fits, replaced, taken, heard_append}
use Rattle.kinds.proofs.BoolLaws.{cond_either}
use Rattle.state.proofs.LegalLaws.{IsKept, legal_state_kept, follower_legal}
use Rattle.rules.proofs.LegalLaws.{IsWho}
use Rattle.message.proofs.LegalLaws.{IsAppend, append_is}
use Rattle.rules.proofs.Fair.{Fine, IsPeer}
use Rattle.rules.proofs.AppendLaws.{heard_append_fine}
use Rattle.promise.proofs.PromiseLaws.{fine_legal}
use Rattle.replace.specs.Taken.{taken_by}

-- ---- the rule

module _ (w : Who) (s : State) (from prev prevterm chosen : ℕ) (es : List Entry) where
  -- An append that fits is answered by append-yes.
  pub append_fits :
      fits s.kept prev prevterm (prev + length es) ≡ true
      → heard_append w s from prev prevterm chosen es ≡ effect (taken_by s prev prevterm chosen es) (some (says w s from (append_yes (prev + length es))))
  unfolding heard_append taken_by
  append_fits h = rw h

  -- Any other by append-no.
  pub append_misses :
      fits s.kept prev prevterm (prev + length es) ≡ false
      → heard_append w s from prev prevterm chosen es ≡ effect (taken_by s prev prevterm chosen es) (some (says w s from (append_no (len s))))
  unfolding heard_append taken_by
  append_misses h = rw h

-- ---- legality

-- At term 0 no entry is legal.
none_legal : (low : ℕ) (es : List Entry) → legal_entries (max 1 low) 0 es ≡ true → length es ≡ 0
none_legal low [] h = refl
none_legal low (e ∷ es) h =
    let f = legal_entries_first (max 1 low) 0 e es h in
    absurd (omega (arith, f.from, f.to))

-- At term 0 an append brings nothing.
zero_kept :
    (k : Kept) (prev prevterm chosen : ℕ) (es : List Entry) → IsKept k → k.term ≡ 0 → IsAppend k.term prev prevterm chosen es → IsKept (taken k prev chosen es)
unfolding taken replaced
zero_kept k prev prevterm chosen es kept none_yet m =
    let start : prev ≡ 0 = m.start.0 (omega (arith, m.low)) in
    let none = none_legal prevterm es (rw none_yet at m.legal) in
    let same : k.ballot ≡ k.term = omega (arith, kept.ballot) in
    let inside : prev + length es ≤ length k.log = omega arith in
    rw (eq-eqb k.ballot k.term same, le-leb (prev + length es) (length k.log) inside)
    (record {
      term = kept.term;
      ballot = omega arith;
      chosen = omega (arith, kept.chosen, m.known);
      within = kept.within;
      empty = λ e. kept.empty (omega arith);
      entries = rw same at kept.entries;
    })

module _
    (w : Who) (i : IsWho w) (s : State) (prev prevterm chosen : ℕ) (es : List Entry) (h : legal_state w s ≡ true)
    (body : legal_body s.kept.term (append prev prevterm chosen es) ≡ true)
  where
    -- Another hub of the group: whichever sent the append, the next state is the same.
    abbrev other : ℕ
    other = 1 + (2 - w.own)

    peer : IsPeer w other
    peer = record { first = omega arith; last = omega (arith, i.least, i.first); other = λ e. omega (arith, i.first) }

    m : IsAppend s.kept.term prev prevterm chosen es
    m = append_is s.kept.term prev prevterm chosen es body

    fine : 1 ≤ s.kept.term → Fine w s (heard_append w s other prev prevterm chosen es)
    fine first = heard_append_fine w i s other prev prevterm chosen es peer h first m

    -- What an append makes of a legal state is legal.
    pub taken_by_legal : legal_state w (taken_by s prev prevterm chosen es) ≡ true
    unfolding taken_by
    taken_by_legal = at_term s.kept.term refl
      where
        tested : 1 ≤ s.kept.term → (b : Bool) → fits s.kept prev prevterm (prev + length es) ≡ b → legal_state w (taken_by s prev prevterm chosen es) ≡ true
        tested first true e = fine_legal (fine first) (append_fits w s other prev prevterm chosen es e)
        tested first false e = fine_legal (fine first) (append_misses w s other prev prevterm chosen es e)

        at_term : (n : ℕ) → s.kept.term ≡ n → legal_state w (taken_by s prev prevterm chosen es) ≡ true
        at_term zero e =
            let kept = legal_state_kept w s h in
            follower_legal w _
            (cond_either IsKept (fits s.kept prev prevterm (prev + length es)) (λ t. zero_kept s.kept prev prevterm chosen es kept e m) (λ t. kept))
        at_term (suc n) e = tested (omega arith) (fits s.kept prev prevterm (prev + length es)) refl
