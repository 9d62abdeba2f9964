-- append at a hub of its term that does not lead: what is taken is legal, and no part of it falls. Assumes nothing.
use Prim.Native.Nat.{ℕ, ◌+◌, ◌≤◌, max}
use native.Mathlib.Omega.{arith}
use mathlib.Core.Path.{◌≡◌, refl}
use mathlib.Core.Bool.{true, ◌&&◌, ◌||◌}
use mathlib.Core.List.{List}
use borrow.Author.Tests.{eqb-true, leb-true, leb-false, le-leb}
use lib.Dec.{leb, eqb}
use lib.ListN.{length, take, length-append, length-take}
use Rattle.kinds.specs.Sizes.{Who, hubs_most, limit}
use Rattle.command.specs.Entry.{Entry, legal_entries}
use Rattle.message.specs.Message.{append_yes, append_no}
use Rattle.message.specs.Legal.{legal_to, legal_body}
use Rattle.state.specs.State.{Kept, State}
use Rattle.state.specs.Legal.{legal_state}
use Rattle.rules.specs.Events.{term_at}
use Rattle.rules.specs.Receive.{fits, replaced, taken, heard_append}
use Rattle.rules.specs.Theorems.{Grows}
use Rattle.kinds.proofs.BoolLaws.{and_first, and_second, and_either, or_either, not_both, cond_either}
use Rattle.kinds.proofs.BetweenLaws.{between_in}
use Rattle.command.proofs.EntryLaws.{legal_entries_wider}
use Rattle.rules.proofs.EntryLaws.{legal_entries_take, legal_entries_append, last_term, term_at_is}
use Rattle.state.proofs.LegalLaws.{IsKept, legal_state_kept, follower_legal}
use Rattle.rules.proofs.LegalLaws.{IsWho}
use Rattle.message.proofs.LegalLaws.{IsAppend}
use Rattle.rules.proofs.Fair.{Fine, does, IsPeer, grows_same, writes_one, says_legal, some_not_none}

-- What a log is that takes the place of another: legal at the term, no shorter, and long enough for what is chosen.
record Follows (k : Kept) (end : ℕ) (log : List Entry) : Type 0 where
  legal : legal_entries 1 k.term log ≡ true
  longer : length k.log ≤ length log
  reaches : end ≤ length log
  within : length log ≤ limit

module _ (k : Kept) (kept : IsKept k) (first : 1 ≤ k.term) (prev prevterm chosen : ℕ) (entries : List Entry)
    (m : IsAppend k.term prev prevterm chosen entries) (fit : fits k prev prevterm (prev + length entries) ≡ true) where
  abbrev end : ℕ
  end = prev + length entries

  abbrev n : ℕ
  n = length k.log

  -- The two parts of fitting.
  there : (eqb prev 0 || (leb prev n && eqb (term_at k.log prev) prevterm)) ≡ true
  unfolding fits
  there = and_first (eqb prev 0 || (leb prev n && eqb (term_at k.log prev) prevterm)) (eqb k.ballot k.term || leb n end) fit

  enough : (eqb k.ballot k.term || leb n end) ≡ true
  unfolding fits
  enough = and_second (eqb prev 0 || (leb prev n && eqb (term_at k.log prev) prevterm)) (eqb k.ballot k.term || leb n end) fit

  held : legal_entries 1 k.term k.log ≡ true
  held = legal_entries_wider 1 1 k.ballot k.term k.log (omega arith) kept.ballot kept.entries

  -- Prev lies in the log, and its entry's term is not above prevterm.
  reached : (prev ≤ n) × (last_term 1 (take prev k.log) ≤ max 1 prevterm)
  reached =
      let inside = leb prev n in
      let same = eqb (term_at k.log prev) prevterm in
      or_either (eqb prev 0) (inside && same) there
      (λ t.
      let none : prev ≡ 0 = eqb-true prev 0 t in
      let at = term_at_is k.term k.log prev held first (omega arith) in
      omega (arith, at.last, at.start.1 none))
      (λ t.
      let in_log = leb-true prev n (and_first inside same t) in
      let at = term_at_is k.term k.log prev held first in_log in
      omega (arith, at.last, eqb-true (term_at k.log prev) prevterm (and_second inside same t)))

  -- The log stays, or is replaced after prev.
  replaced_follows : Follows k end (replaced k prev entries)
  unfolding replaced
  replaced_follows =
      let own = eqb k.ballot k.term in
      let inside = leb end n in
      let part = take prev k.log in
      cond_either (Follows k end) (own && inside)
      (λ t. record { legal = held; longer = omega arith; reaches = leb-true end n (and_second own inside t); within = kept.within })
      (λ t.
      let size = length-append part entries in
      let front = length-take prev k.log in
      let up : n ≤ end =
      and_either own inside t (λ f. or_either own (leb n end) enough (λ e. absurd (not_both own e f)) (λ e. leb-true n end e))
      (λ f. omega (arith, leb-false end n f)) in
      record {
        legal =
            legal_entries_append 1 k.term part entries (legal_entries_take 1 k.term prev k.log held)
            (legal_entries_wider (max 1 prevterm) (last_term 1 part) k.term k.term entries reached.1 (omega arith) m.legal);
        longer = omega (arith, reached.0);
        reaches = omega (arith, reached.0);
        within = omega (arith, reached.0, m.within);
      })

  taken_kept : IsKept (taken k prev chosen entries)
  unfolding taken
  taken_kept =
      let f = replaced_follows in
      record {
        term = kept.term;
        ballot = omega arith;
        chosen = omega (arith, kept.chosen, m.known, f.longer, f.reaches);
        within = f.within;
        empty = λ e. absurd (omega (arith, first));
        entries = f.legal;
      }

  taken_grows : Grows k (taken k prev chosen entries)
  unfolding taken
  taken_grows = record { term = omega arith; ballot = kept.ballot; chosen = omega arith; log = replaced_follows.longer }

-- The rule for append.
pub heard_append_fine :
    (w : Who) → IsWho w → (s : State) (from prev prevterm chosen : ℕ) (entries : List Entry) → IsPeer w from → legal_state w s ≡ true → 1 ≤ s.kept.term
    → IsAppend s.kept.term prev prevterm chosen entries → Fine w s (heard_append w s from prev prevterm chosen entries)
unfolding heard_append legal_to legal_body taken
heard_append_fine w i s from prev prevterm chosen entries p h first m =
    let k = s.kept in
    let kept = legal_state_kept w s h in
    let end = prev + length entries in
    let peer = between_in 1 hubs_most from p.first (omega (arith, p.last, i.most)) in
    cond_either (Fine w s) (fits k prev prevterm end)
    (λ t.
    does
    (record {
      legal = follower_legal w _ (taken_kept k kept first prev prevterm chosen entries m t);
      grows = taken_grows k kept first prev prevterm chosen entries m t;
      writes = writes_one w _ _ (says_legal w i s _ from (append_yes _) refl first kept.term peer (le-leb _ limit m.within));
    })
    (λ e. absurd (some_not_none e)))
    (λ t.
    does
    (record {
      legal = follower_legal w k kept;
      grows = grows_same k;
      writes = writes_one w _ _ (says_legal w i s _ from (append_no _) refl first kept.term peer (le-leb _ limit kept.within));
    })
    (λ e. absurd (some_not_none e)))
