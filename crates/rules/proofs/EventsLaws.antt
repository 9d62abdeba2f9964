-- Start, propose, send and restart are fair, whatever they come to. Assumes nothing.
use Prim.Native.Nat.{ℕ, ◌+◌, ◌-◌, ◌≤◌, ◌<◌}
use native.Mathlib.Omega.{arith}
use mathlib.Core.Path.{◌≡◌, refl, ◌∙◌}
use mathlib.Core.Bool.{true, false, not, ◌||◌}
use mathlib.Core.List.{List, [], ◌∷◌}
use mathlib.Core.Option.{Option, none, some}
use borrow.Author.Tests.{eqb-false, leb-true, leb-false, le-leb, ltb-false, not-false}
use lib.Dec.{leb, ltb, eqb}
use lib.ListN.{length, drop, replicate, length-append, length-set, length-drop, get_or-replicate}
use lib.Seq.{get_or-set_same, drop-set-lt}
use Rattle.kinds.specs.Sizes.{Who, is_hub, hubs_most, term_most, limit}
use Rattle.command.specs.Command.{Command, legal_command}
use Rattle.message.specs.Legal.{legal_to, legal_body}
use Rattle.state.specs.State.{Kept, Lost, follower, candidate, leader, State}
use Rattle.state.specs.Legal.{all, legal_kept, legal_lost, legal_state}
use Rattle.rules.specs.Outcome.{wrong_role, no_term_left, bad_command, log_full, out_of_range}
use Rattle.rules.specs.Events.{is_leader, len, with_term, leads, started, asks, start, with_entry, propose_leading, propose, sends, send, restart}
use Rattle.rules.specs.Theorems.{Grows, SaysLegal}
use Rattle.kinds.proofs.BoolLaws.{and_both, or_first, or_second, cond_either}
use Rattle.rules.proofs.CountLaws.{all_weaker, all_set, all_drop, all_replicate, count_set, count_none}
use Rattle.kinds.proofs.BetweenLaws.{between_in}
use Rattle.command.proofs.EntryLaws.{legal_entries_wider}
use Rattle.rules.proofs.EntryLaws.{legal_entries_drop, legal_entries_joined, term_at_is}
use Rattle.state.proofs.LegalLaws.{IsKept, legal_kept_is, IsLeader, legal_leader_is, legal_state_kept, legal_state_lost, follower_legal, candidate_legal, leader_legal}
use Rattle.rules.proofs.LegalLaws.{IsWho, is_hub_is}
use Rattle.message.proofs.LegalLaws.{is_request_lem, is_append_lem}
use Rattle.rules.proofs.Fair.{Sound, Fair, grows_same, writes_none, writes_one, says_legal, refuses_fair, goes_fair}

-- ---- parts that several events have

-- A later term is legal.
pub with_term_kept : (k : Kept) (t : ℕ) → IsKept k → k.term ≤ t → t ≤ term_most → IsKept (with_term k t)
unfolding with_term
with_term_kept k t i up last =
    record {
      term = last;
      ballot = omega (arith, i.ballot);
      chosen = i.chosen;
      within = i.within;
      empty = i.empty;
      entries = i.entries;
    }

-- A later term is no fall.
pub with_term_grows : (k : Kept) (t : ℕ) → k.term ≤ t → Grows k (with_term k t)
unfolding with_term
with_term_grows k t up = record { term = up; ballot = omega arith; chosen = omega arith; log = omega arith }

-- A proposal is one entry more.
pub with_entry_length : (k : Kept) (c : Command) → length (with_entry k c).log ≡ length k.log + 1
unfolding with_entry
with_entry_length k c = length-append k.log _

module _ (w : Who) (i : IsWho w) where
  -- A leader whose own confirmed length follows its log.
  pub leads_legal :
      (k : Kept) (confirmed : List ℕ) → IsKept k → k.ballot ≡ k.term → 1 ≤ k.term → length confirmed ≡ hubs_most
      → all (λ n. leb n (length k.log)) confirmed ≡ true → all (λ n. eqb n 0) (drop w.size confirmed) ≡ true
      → legal_state w (leads w k confirmed) ≡ true
  unfolding leads
  leads_legal k confirmed kept ballot term seven most inside =
      let own = w.own - 1 in
      let n = length k.log in
      leader_legal w k _ kept
      (record {
        ballot = ballot;
        term = term;
        seven = length-set confirmed own _ ∙ seven;
        most = all_set (λ m. leb m n) confirmed own _ most (le-leb _ n (omega arith));
        itself = get_or-set_same confirmed own _ 0 (omega (arith, i.first, i.last, i.most));
        inside = rw (drop-set-lt w.size confirmed own _ (omega (arith, i.first, i.last))) inside;
      })

  module _ (s : State) (h : legal_state w s ≡ true) where
    -- ---- start

    -- Itself alone is less than a majority.
    start_sound : (s.kept.term ≡ term_most → ⊥) → Sound w s (started w s) (some (asks w (started w s)))
    unfolding started asks with_term legal_to legal_body all
    start_sound low =
        let k = legal_state_kept w s h in
        let t = s.kept.term + 1 in
        let own = w.own - 1 in
        let none_yet = replicate hubs_most false in
        let below : s.kept.term < term_most = omega (arith, k.term) in
        let here : own < length none_yet = omega (arith, i.first, i.last, i.most) in
        record {
          legal =
              candidate_legal w _ _ _ (with_term_kept s.kept t k (omega arith) (omega arith))
              (record {
                ballot = omega (arith, k.ballot);
                seven = length-set none_yet own true;
                itself = get_or-set_same none_yet own true false here;
                few = omega (arith, count_set none_yet own here (get_or-replicate hubs_most own false false here), count_none hubs_most, i.least);
                inside =
                    rw (drop-set-lt w.size none_yet own true (omega (arith, i.first, i.last)))
                    (all_drop not w.size none_yet (all_replicate not hubs_most false refl));
                room = omega (arith, k.within);
                pairs = refl;
              });
          grows = with_term_grows s.kept t (omega arith);
          writes =
              writes_one w _ _
              (says_legal w i (started w s) (started w s) 0 _ refl (omega arith) (omega arith) refl
              (is_request_lem t _ _ (record { within = k.within; below = omega (arith, k.ballot); empty = k.empty })));
        }

    -- A start, refused or not.
    pub start_fair : Fair w s (start w s)
    unfolding start
    start_fair =
        let fair = Fair w s in
        cond_either fair (is_leader s) (λ t. refuses_fair w s wrong_role h)
        (λ t.
        cond_either fair (eqb s.kept.term term_most) (λ t. refuses_fair w s no_term_left h)
        (λ t. goes_fair w s _ _ (start_sound (eqb-false s.kept.term term_most t))))

    -- ---- propose

    propose_sound :
        (confirmed : List ℕ) (c : Command) → IsLeader w s.kept confirmed → legal_command c ≡ true → len s < limit
        → Sound w s (leads w (with_entry s.kept c) confirmed) none
    unfolding with_entry leads all
    propose_sound confirmed c l legal room =
        let k = s.kept in
        let kept = legal_state_kept w s h in
        let longer = with_entry_length k c in
        let n = length (with_entry k c).log in
        record {
          legal =
              leads_legal (with_entry k c) confirmed
              (record {
                term = kept.term;
                ballot = kept.ballot;
                chosen = omega (arith, kept.chosen);
                within = omega arith;
                empty = λ e. absurd (omega (arith, l.ballot, l.term));
                entries =
                    legal_entries_wider 1 1 k.term k.ballot _ (omega arith) (omega (arith, l.ballot))
                    (legal_entries_joined (λ x. x) k.ballot k.term k.log (c ∷ []) kept.ballot l.term kept.entries
                    (and_both legal refl));
              })
              l.ballot l.term l.seven
              (all_weaker (λ m. leb m (length k.log)) (λ m. leb m n) (λ m e. le-leb m n (omega (arith, leb-true m (length k.log) e))) confirmed l.most)
              l.inside;
          grows = record { term = omega arith; ballot = omega arith; chosen = omega arith; log = omega arith };
          writes = writes_none w _;
        }

  -- A proposal of a legal command or of none.
  pub propose_fair :
      (k : Kept) (l : Lost) (proposed : Option Command) → ((c : Command) → proposed ≡ some c → legal_command c ≡ true)
      → (let s : State = record { kept = k; lost = l } in legal_state w s ≡ true → Fair w s (propose w s proposed))
  unfolding propose propose_leading legal_lost
  propose_fair k follower proposed legal h = refuses_fair w _ wrong_role h
  propose_fair k (candidate voters gathered) proposed legal h = refuses_fair w _ wrong_role h
  propose_fair k (leader confirmed) none legal h = refuses_fair w _ bad_command h
  propose_fair k (leader confirmed) (some c) legal h =
      let s : State = record { kept = k; lost = leader confirmed } in
      let l = legal_leader_is w k confirmed (legal_state_lost w s h) in
      cond_either (Fair w s) (leb limit (length k.log)) (λ t. refuses_fair w s log_full h)
      (λ t. goes_fair w s _ _ (propose_sound s h confirmed c l (legal c refl) (leb-false limit (length k.log) t)))

  -- ---- send

  sends_says :
      (s : State) (confirmed : List ℕ) (peer prev : ℕ) → legal_state w s ≡ true → IsLeader w s.kept confirmed → is_hub w.size peer ≡ true → prev ≤ len s
      → SaysLegal w s (sends w s peer prev)
  unfolding sends legal_to
  sends_says s confirmed peer prev h l hub in_log =
      let k = s.kept in
      let kept = legal_state_kept w s h in
      let left = length-drop prev k.log in
      let peers = is_hub_is w.size peer hub in
      let held = legal_entries_wider 1 1 k.ballot k.term k.log (omega arith) kept.ballot kept.entries in
      let at = term_at_is k.term k.log prev held l.term in_log in
      says_legal w i s s peer _ refl l.term kept.term
      (between_in 1 hubs_most peer peers.0 (omega (arith, peers.1, i.most)))
      (is_append_lem k.term prev _ _ _
      (record {
        within = omega (arith, kept.within);
        start = at.start;
        low = at.low;
        known = omega (arith, kept.chosen);
        legal = rw at.last at (legal_entries_drop 1 k.term prev k.log held);
      }))

  -- A send, refused or not.
  pub send_fair :
      (k : Kept) (l : Lost) (peer prev : ℕ) → (let s : State = record { kept = k; lost = l } in legal_state w s ≡ true → Fair w s (send w s peer prev))
  unfolding send is_leader legal_lost
  send_fair k follower peer prev h = refuses_fair w _ wrong_role h
  send_fair k (candidate voters gathered) peer prev h = refuses_fair w _ wrong_role h
  send_fair k (leader confirmed) peer prev h =
      let s : State = record { kept = k; lost = leader confirmed } in
      let l = legal_leader_is w k confirmed (legal_state_lost w s h) in
      let outside = not (is_hub w.size peer) in
      let itself = eqb peer w.own in
      let beyond = ltb (length k.log) prev in
      cond_either (Fair w s) (outside || (itself || beyond)) (λ t. refuses_fair w s out_of_range h)
      (λ t.
      let hub = not-false (is_hub w.size peer) (or_first outside (itself || beyond) t) in
      let in_log = ltb-false (length k.log) prev (or_second itself beyond (or_second outside (itself || beyond) t)) in
      goes_fair w s s _
      (record { legal = h; grows = grows_same k; writes = writes_one w s _ (sends_says s confirmed peer prev h l hub in_log) }))

  -- ---- restart

  -- Whatever was lost.
  pub restart_fair : (s : State) → legal_kept s.kept ≡ true → Fair w s (restart s.kept)
  unfolding restart
  restart_fair s h =
      goes_fair w s _ none
      (record { legal = follower_legal w _ (legal_kept_is s.kept h); grows = grows_same s.kept; writes = writes_none w _ })
