-- vote-yes at a candidate, from a new voter: what is gathered is legal, so is the leader that it makes, and there is one voter more. Assumes nothing.
use Prim.Native.Nat.{ℕ, zero, suc, ◌+◌, ◌-◌, ◌≤◌, ◌<◌, max}
use native.Mathlib.Omega.{arith}
use mathlib.Core.Path.{◌≡◌, refl, sym, ◌∙◌, ap}
use mathlib.Core.Bool.{Bool, true, false, not, ◌&&◌}
use mathlib.Core.List.{List, [], ◌∷◌}
use mathlib.Core.Option.{none}
use borrow.Author.Tests.{eqb-true, leb-false, le-leb, lt-ltb, not-false}
use lib.Dec.{leb, ltb, eqb}
use lib.ListN.{length, get_or, set, replicate, length-append, length-map, length-set}
use lib.Seq.{get_or-set_same, drop-set-lt}
use Rattle.kinds.specs.Sizes.{Who, hubs_most, majority, limit}
use Rattle.command.specs.Command.{Command, legal_command}
use Rattle.command.specs.Entry.{Entry}
use Rattle.message.specs.Message.{vote_yes}
use Rattle.state.specs.State.{Kept, Pair, Lost, follower, candidate, leader, State}
use Rattle.state.specs.Legal.{all, count, legal_pair, legal_lost, legal_state}
use Rattle.rules.specs.Events.{is_candidate, leads}
use Rattle.rules.specs.Receive.{effect, gather, joined, counted, heard_yes, contradicts}
use Rattle.kinds.proofs.BoolLaws.{and_first, and_second, and_both, or_first, not_both, cond_either}
use Rattle.rules.proofs.CountLaws.{all_weaker, all_drop, all_replicate, all_map, get_d_set_true}
use Rattle.rules.proofs.EntryLaws.{legal_entries_joined, legal_entries_commands}
use Rattle.state.proofs.LegalLaws.{IsKept, IsCandidate, legal_candidate_is, legal_state_kept, legal_state_lost, candidate_legal}
use Rattle.rules.proofs.LegalLaws.{IsWho}
use Rattle.message.proofs.LegalLaws.{IsYes}
use Rattle.rules.proofs.Fair.{Sound, Fine, idles, does, IsPeer, grows_same, writes_none}
use Rattle.rules.proofs.EventsLaws.{leads_legal}

-- ---- gathered pairs

-- A pair at each place that either has.
pub gather_length : (gs : List Pair) (b : ℕ) (es : List Entry) → length (gather gs b es) ≡ max (length gs) (length es)
unfolding gather
gather_length [] b es = length-map es (λ e. record { ballot = b; command = e.command }) ∙ omega arith
gather_length (g ∷ gs) b [] = omega arith
gather_length (g ∷ gs) b (e ∷ es) = omega (arith, gather_length gs b es)

-- A legal pair of a ballot below the term.
pair_legal : (t b : ℕ) (c : Command) → 1 ≤ b → b < t → legal_command c ≡ true → legal_pair t (record { ballot = b; command = c }) ≡ true
unfolding legal_pair
pair_legal t b c first below legal = and_both (le-leb 1 b first) (and_both (lt-ltb b t below) legal)

-- Entries have a ballot of at least 1.
some_ballot : (b n : ℕ) → (b ≡ 0 → suc n ≡ 0) → 1 ≤ b
some_ballot zero n f = absurd (omega (arith, f refl))
some_ballot (suc b) n f = omega arith

-- Each place keeps a legal pair or takes one.
gather_legal :
    (t b : ℕ) (gs : List Pair) (es : List Entry) → b < t → (b ≡ 0 → length es ≡ 0) → all (legal_pair t) gs ≡ true
    → all (λ e. legal_command e.command) es ≡ true → all (legal_pair t) (gather gs b es) ≡ true
unfolding gather all
gather_legal t b [] [] below empty held new = refl
gather_legal t b [] (e ∷ es) below empty held new =
    all_map (λ x. legal_command x.command) (legal_pair t) (λ x. record { ballot = b; command = x.command })
    (λ x legal. pair_legal t b x.command (some_ballot b (length es) empty) below legal) (e ∷ es) new
gather_legal t b (g ∷ gs) [] below empty held new = held
gather_legal t b (g ∷ gs) (e ∷ es) below empty held new =
    let here = legal_pair t g in
    let others = all (legal_pair t) gs in
    let legal = legal_command e.command in
    let rest = all (λ x. legal_command x.command) es in
    let first = some_ballot b (length es) empty in
    and_both
    (cond_either (λ (x : Pair). legal_pair t x ≡ true) (ltb g.ballot b)
    (λ x. pair_legal t b e.command first below (and_first legal rest new))
    (λ x. and_first here others held))
    (gather_legal t b gs es below (λ z. absurd (omega arith)) (and_second here others held) (and_second legal rest new))

-- Of legal pairs the commands are legal.
pairs_commands : (t : ℕ) (gs : List Pair) → all (legal_pair t) gs ≡ true → all (λ g. legal_command g.command) gs ≡ true
unfolding legal_pair
pairs_commands t gs h =
    all_weaker (legal_pair t) (λ g. legal_command g.command)
    (λ g e.
    let below = ltb g.ballot t in
    let legal = legal_command g.command in
    and_second below legal (and_second (leb 1 g.ballot) (below && legal) e))
    gs h

-- All that is gathered joins the log.
pub joined_length : (k : Kept) (gs : List Pair) → length (joined k gs).log ≡ length k.log + length gs
unfolding joined
joined_length k gs = length-append k.log _ ∙ ap (λ (n : ℕ). length k.log + n) (length-map gs _)

-- ---- the votes are counted

module _ (w : Who) (i : IsWho w) (from : ℕ) (p : IsPeer w from) where
  module _ (k : Kept) (voters : List Bool) (gathered : List Pair) (kept : IsKept k) (c : IsCandidate w k voters gathered)
      (more : List Pair) (room : length k.log + length more ≤ limit) (pairs : all (legal_pair k.term) more ≡ true) where
    -- The state that stood, and the voters with one more.
    abbrev before : State
    before = record { kept = k; lost = candidate voters gathered }

    abbrev now : List Bool
    now = set voters (from - 1) true

    -- With a majority the hub leads, with all that is gathered in its log.
    leads_sound : Sound w before (leads w (joined k more) (replicate hubs_most 0)) none
    unfolding joined leads all
    leads_sound =
        let size = joined_length k more in
        let n = length (joined k more).log in
        let zeros : List ℕ = replicate hubs_most 0 in
        record {
          legal =
              leads_legal w i (joined k more) zeros
              (record {
                term = kept.term;
                ballot = omega arith;
                chosen = omega (arith, kept.chosen);
                within = omega arith;
                empty = λ e. absurd (omega (arith, c.ballot));
                entries =
                    legal_entries_joined (λ g. g.command) k.ballot k.term k.log more kept.ballot (omega (arith, c.ballot))
                    kept.entries (pairs_commands k.term more pairs);
              })
              refl (omega (arith, c.ballot)) refl
              (all_replicate (λ m. leb m n) hubs_most 0 (le-leb 0 n (omega arith)))
              (all_drop (λ m. eqb m 0) w.size zeros (all_replicate (λ m. eqb m 0) hubs_most 0 refl));
          grows = record { term = omega arith; ballot = kept.ballot; chosen = omega arith; log = omega arith };
          writes = writes_none w _;
        }

    -- Without one it stands on.
    stands_sound : count (λ v. v) now < majority w.size → Sound w before (record { kept = k; lost = candidate now more }) none
    stands_sound few =
        record {
          legal =
              candidate_legal w k _ _ kept
              (record {
                ballot = c.ballot;
                seven = length-set voters (from - 1) true ∙ c.seven;
                itself = get_d_set_true voters (from - 1) (w.own - 1) c.itself;
                few = few;
                inside = rw (drop-set-lt w.size voters (from - 1) true (omega (arith, p.first, p.last))) c.inside;
                room = room;
                pairs = pairs;
              });
          grows = grows_same k;
          writes = writes_none w _;
        }

    -- A leader is no candidate.
    leads_new : leads w (joined k more) (replicate hubs_most 0) ≡ before → ⊥
    unfolding leads
    leads_new e =
        let lost = ap (λ (s : State). s.lost) e in
        let z : ◌≡◌ {A = ℕ} 0 1 = cc in
        omega arith

    -- A new voter is among the voters now.
    stands_new : get_or voters (from - 1) false ≡ false → ◌≡◌ {A = State} (record { kept = k; lost = candidate now more }) before → ⊥
    stands_new new e =
        let lost = ap (λ (s : State). s.lost) e in
        let same : now ≡ voters = cc in
        let here = get_or-set_same voters (from - 1) true false (omega (arith, c.seven, p.first, p.last, i.most)) in
        not_both (get_or voters (from - 1) false) (sym (ap (λ (l : List Bool). get_or l (from - 1) false) same) ∙ here) new

    counted_fine : get_or voters (from - 1) false ≡ false → Fine w before (effect (counted w k now more) none)
    unfolding counted
    counted_fine new =
        let enough = leb (majority w.size) (count (λ v. v) now) in
        cond_either (λ (next : State). Fine w before (effect next none)) enough (λ t. does leads_sound (λ e. leads_new))
        (λ t. does (stands_sound (leb-false (majority w.size) (count (λ v. v) now) t)) (λ e. stands_new new))

  -- The rule for vote-yes.
  pub heard_yes_fine :
      (k : Kept) (l : Lost) (last ballot : ℕ) (entries : List Entry) → IsYes k.term last ballot entries
      → (let s : State = record { kept = k; lost = l } in
      legal_state w s ≡ true → contradicts s (vote_yes last ballot entries) ≡ false → Fine w s (heard_yes w s from ballot entries))
  unfolding heard_yes contradicts is_candidate legal_lost
  heard_yes_fine k follower last ballot entries m h agrees = idles
  heard_yes_fine k (leader confirmed) last ballot entries m h agrees = idles
  heard_yes_fine k (candidate voters gathered) last ballot entries m h agrees =
      let s : State = record { kept = k; lost = candidate voters gathered } in
      let kept = legal_state_kept w s h in
      let c = legal_candidate_is w k voters gathered (legal_state_lost w s h) in
      let n = length k.log in
      let same = eqb-true last n (not-false (eqb last n) (or_first (not (eqb last n)) (ltb k.ballot ballot) agrees)) in
      let more = gather gathered ballot entries in
      let size = gather_length gathered ballot entries in
      cond_either (Fine w s) (get_or voters (from - 1) false) (λ t. idles)
      (λ t.
      counted_fine k voters gathered kept c more (omega (arith, c.room, m.within))
      (gather_legal k.term ballot gathered entries m.below m.empty c.pairs (legal_entries_commands 1 ballot entries m.legal)) t)
