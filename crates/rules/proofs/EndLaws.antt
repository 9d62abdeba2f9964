-- append-yes at a leader: what is recorded is legal and new. Assumes nothing.
use Prim.Native.Nat.{ℕ, ◌-◌, ◌≤◌, ◌<◌, max}
use native.Mathlib.Omega.{arith}
use mathlib.Core.Path.{◌≡◌, ◌∙◌, ap}
use mathlib.Core.Bool.{true, false}
use mathlib.Core.List.{List}
use mathlib.Core.Option.{none}
use borrow.Author.Tests.{le-leb, ltb-true, ltb-false}
use lib.Dec.{leb, ltb}
use lib.ListN.{length, get_or, set, length-set}
use lib.Seq.{get_or-set_same, get_or-set_other, drop-set-lt}
use Rattle.kinds.specs.Sizes.{Who}
use Rattle.message.specs.Message.{append_yes}
use Rattle.state.specs.State.{Kept, Lost, follower, candidate, leader, State}
use Rattle.state.specs.Legal.{legal_lost, legal_state}
use Rattle.rules.specs.Majority.{majority_place}
use Rattle.rules.specs.Events.{is_leader}
use Rattle.rules.specs.Receive.{recorded, heard_end, contradicts}
use Rattle.kinds.proofs.BoolLaws.{cond_either}
use Rattle.rules.proofs.CountLaws.{all_set}
use Rattle.state.proofs.LegalLaws.{IsKept, IsLeader, legal_leader_is, legal_state_kept, legal_state_lost, leader_legal}
use Rattle.rules.proofs.LegalLaws.{IsWho}
use Rattle.rules.proofs.MajorityLaws.{majority_place_within}
use Rattle.rules.proofs.Fair.{Sound, Fine, idles, does, IsPeer, writes_none}

module _ (w : Who) (i : IsWho w) (from : ℕ) (p : IsPeer w from) where
  module _ (k : Kept) (confirmed : List ℕ) (kept : IsKept k) (l : IsLeader w k confirmed) (end : ℕ) where
    -- The state that led, and the one with the end recorded.
    abbrev before : State
    before = record { kept = k; lost = leader confirmed }

    abbrev now : List ℕ
    now = set confirmed (from - 1) end

    -- Within the log, the lengths stay legal and chosen too.
    recorded_sound : end ≤ length k.log → Sound w before (recorded w k now) none
    unfolding recorded
    recorded_sound in_log =
        let n = length k.log in
        let chosen = max k.chosen (majority_place w.size now) in
        let most = all_set (λ m. leb m n) confirmed (from - 1) end l.most (le-leb end n in_log) in
        let within = majority_place_within w.size n now most in
        record {
          legal =
              leader_legal w (record { term = k.term; ballot = k.ballot; chosen = chosen; log = k.log }) now
              (record {
                term = kept.term;
                ballot = kept.ballot;
                chosen = omega (arith, kept.chosen);
                within = kept.within;
                empty = kept.empty;
                entries = kept.entries;
              })
              (record {
                ballot = l.ballot;
                term = l.term;
                seven = length-set confirmed (from - 1) end ∙ l.seven;
                most = most;
                itself = get_or-set_other confirmed (from - 1) (w.own - 1) end 0 (λ e. p.other (omega (arith, p.first, i.first))) ∙ l.itself;
                inside = rw (drop-set-lt w.size confirmed (from - 1) end (omega (arith, p.first, p.last))) l.inside;
              });
          grows = record { term = omega arith; ballot = omega arith; chosen = omega arith; log = omega arith };
          writes = writes_none w (recorded w k now);
        }

    -- A greater end than recorded is another state.
    recorded_new : get_or confirmed (from - 1) 0 < end → recorded w k now ≡ before → ⊥
    unfolding recorded
    recorded_new more e =
        let lost = ap (λ (s : State). s.lost) e in
        let same : now ≡ confirmed = cc in
        let here = get_or-set_same confirmed (from - 1) end 0 (omega (arith, l.seven, p.first, p.last, i.most)) in
        omega (arith, ap (λ (c : List ℕ). get_or c (from - 1) 0) same)

  -- The rule for append-yes.
  pub heard_end_fine :
      (k : Kept) (l : Lost) (end : ℕ)
      → (let s : State = record { kept = k; lost = l } in
      legal_state w s ≡ true → contradicts s (append_yes end) ≡ false → Fine w s (heard_end w s from end))
  unfolding heard_end contradicts is_leader legal_lost
  heard_end_fine k follower end h agrees = idles
  heard_end_fine k (candidate voters gathered) end h agrees = idles
  heard_end_fine k (leader confirmed) end h agrees =
      let s : State = record { kept = k; lost = leader confirmed } in
      let kept = legal_state_kept w s h in
      let l = legal_leader_is w k confirmed (legal_state_lost w s h) in
      let recorded-here = get_or confirmed (from - 1) 0 in
      cond_either (Fine w s) (ltb recorded-here end)
      (λ t.
      does (recorded_sound k confirmed kept l end (ltb-false (length k.log) end agrees))
      (λ e. recorded_new k confirmed kept l end (ltb-true recorded-here end t)))
      (λ t. idles)
