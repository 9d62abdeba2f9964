-- What an event comes to where certain things hold, used forwards. Assumes nothing.
use Prim.Native.Nat.{ℕ, ◌+◌, ◌-◌, ◌≤◌, ◌<◌, max}
use native.Mathlib.Omega.{arith}
use mathlib.Core.Path.{◌≡◌, refl, ◌∙◌}
use mathlib.Core.Logic.{◌≢◌}
use mathlib.Core.Bool.{true, false}
use borrow.Author.Tests.{ne_eqb, eq-eqb, eqb-false, le-leb, lt-leb, lt-ltb, le-ltb}
use lib.Dec.{leb, ltb, eqb}
use lib.ListN.{length, take}
use Rattle.kinds.specs.Sizes.{Who, majority, term_most, limit}
use Rattle.message.specs.Message.{Message, Body}
use Rattle.state.specs.State.{Kept, State}
use Rattle.state.specs.Legal.{count, legal_lost}
use Rattle.rules.specs.Majority.{confirmed_by, majority_place}
use Rattle.rules.specs.Events.{is_leader, is_candidate, len, for_hub, set_hub, term_at, with_term, start, propose_leading, propose, sends, send}
use Rattle.rules.specs.Receive.{ballot_told, vote, gather, counted, heard_yes, fits, heard_append, recorded, heard_end, rule, is_misaddressed, is_request, is_stale, contradicts, follower_at, after_raise, at_own_term, receive}
use Rattle.rules.specs.Happens.{to_receive, happens}
use Rattle.rules.specs.Forward.{StartAsks, ProposalJoins, WholeLogSent, RequestGranted, OfOwnTerm, YesCounted, MajorityLeads, WholeLogTaken, EndRecorded, MajorityChooses}
use Rattle.kinds.proofs.BoolLaws.{or_one}
use Rattle.state.proofs.LegalLaws.{legal_state_kept, legal_state_lost, legal_leader_is}
use Rattle.rules.proofs.CountLaws.{all_set}
use Rattle.rules.proofs.MajorityLaws.{majority_place_all}
use Rattle.rules.proofs.GatherLaws.{gather_length, joined_length}

-- ---- start, propose, send

-- A start.
pub start_asks : StartAsks
unfolding happens start
start_asks w s role low =
    let t : eqb s.kept.term term_most ≡ false = ne_eqb s.kept.term term_most (λ e. omega arith) in
    rw (role, t)

-- A proposal.
pub proposal_joins : ProposalJoins
unfolding happens propose propose_leading
proposal_joins w s confirmed bytes c role proposed room = rw (role, proposed, lt-leb limit (len s) room)

-- A send of the whole log.
pub whole_log_sent : WholeLogSent
unfolding happens send sends term_at
whole_log_sent w s peer role hub other =
    let t : eqb peer w.own ≡ false = ne_eqb peer w.own other in
    let u : ltb (len s) 0 ≡ false = le-ltb (len s) 0 (omega arith) in
    rw (role, hub, t, u)

-- ---- receive

-- From another hub of the group, to this one or to all.
pub addressed : (w : Who) (m : Message) → m.from ≤ w.size → m.from ≢ w.own → (m.to ≢ w.own → m.to ≡ 0) → is_misaddressed w m ≡ false
unfolding is_misaddressed
addressed w m in_group other to =
    let t : ltb w.size m.from ≡ false = le-ltb w.size m.from in_group in
    let u : eqb m.from w.own ≡ false = ne_eqb m.from w.own other in
    let own = eqb m.to w.own in
    let all = eqb m.to 0 in
    rw (t, u, or_one own all (λ e. eq-eqb m.to 0 (to (eqb-false m.to w.own e))))

-- A message of a higher term.
pub receive_higher :
    (w : Who) (s : State) (m : Message) → is_misaddressed w m ≡ false → s.kept.term < m.term
    → (let r = follower_at s m.term in happens w s (to_receive m) ≡ after_raise r (rule w r m.from m.body))
unfolding happens receive is_stale
receive_higher w s m addressed up =
    let lower : ltb m.term s.kept.term ≡ false = le-ltb m.term s.kept.term (omega arith) in
    let own : eqb m.term s.kept.term ≡ false = ne_eqb m.term s.kept.term (λ e. omega arith) in
    rw (addressed, lower, own, lt-ltb s.kept.term m.term up)

-- A message of own term that is no request and contradicts nothing.
receive_own :
    (w : Who) (s : State) (m : Message) (body : Body) → OfOwnTerm w s m body → is_request body ≡ false → contradicts s body ≡ false
    → happens w s (to_receive m) ≡ at_own_term s (rule w s m.from body)
unfolding happens receive is_stale
receive_own w s m body c answer agrees =
    let same = c.term in
    let lower : ltb m.term s.kept.term ≡ false = le-ltb m.term s.kept.term (omega arith) in
    let own : eqb m.term s.kept.term ≡ true = eq-eqb m.term s.kept.term same in
    let higher : ltb s.kept.term m.term ≡ false = le-ltb s.kept.term m.term (omega arith) in
    rw (c.addressed, c.says, lower, own, answer, higher, agrees)

-- A yes to a higher term.
pub request_granted : RequestGranted
unfolding rule vote follower_at with_term after_raise
request_granted w s m last ballot a low =
    let told = ballot_told (len s) s.kept.ballot in
    receive_higher w s m a.addressed a.higher ∙ rw (a.body, le-leb told ballot low) refl

-- A new voter's yes.
pub yes_counted : YesCounted
unfolding contradicts is_candidate is_request rule heard_yes at_own_term
yes_counted w s m voters gathered ballot entries y =
    let role = y.role in
    let own : eqb (len s) (len s) ≡ true = eq-eqb (len s) (len s) refl in
    let low : ltb s.kept.ballot ballot ≡ false = le-ltb s.kept.ballot ballot y.below in
    receive_own w s m _ y.comes refl (rw (role, own, low)) ∙ rw (role, y.voter) refl

-- The one that makes a majority.
pub majority_leads : MajorityLeads
unfolding counted
majority_leads w s m voters gathered ballot entries y enough =
    let more = gather gathered ballot entries in
    let now = count (λ v. v) (set_hub voters m.from true) in (
      yes_counted w s m voters gathered ballot entries y ∙ rw (le-leb (majority w.size) now enough) refl,
      omega (arith, joined_length s.kept more, gather_length gathered ballot entries),
    )

-- A whole log no shorter than the own fits.
fits_whole : (k : Kept) (prevterm end : ℕ) → length k.log ≤ end → fits k 0 prevterm end ≡ true
unfolding fits
fits_whole k prevterm end long = or_one (eqb k.ballot k.term) (leb (length k.log) end) (λ other. le-leb (length k.log) end long)

-- An append of one.
pub whole_log_taken : WholeLogTaken
unfolding contradicts is_request rule heard_append at_own_term
whole_log_taken w s m prevterm chosen entries c role long =
    let end : 0 + length entries ≡ length entries = omega arith in
    receive_own w s m _ c refl role ∙ rw (end, fits_whole s.kept prevterm (length entries) long) refl

-- A greater end.
pub end_recorded : EndRecorded
unfolding contradicts is_leader is_request rule heard_end at_own_term
end_recorded w s m confirmed end e =
    let role = e.role in
    let in_log : ltb (len s) end ≡ false = le-ltb (len s) end e.in_log in
    let more : ltb (for_hub confirmed m.from 0) end ≡ true = lt-ltb (for_hub confirmed m.from 0) end e.more in
    receive_own w s m _ e.comes refl (rw (role, in_log)) ∙ rw (role, more) refl

-- The one that makes a majority for the whole log.
pub majority_chooses : MajorityChooses
unfolding recorded confirmed_by legal_lost
majority_chooses w s m confirmed legal e enough =
    let n = len s in
    let now = set_hub confirmed m.from n in
    let kept = legal_state_kept w s legal in
    let l = legal_leader_is w s.kept confirmed (rw e.role at (legal_state_lost w s legal)) in
    let most = all_set (λ x. leb x n) confirmed (m.from - 1) n l.most (le-leb n n (omega arith)) in
    let all-of-it = majority_place_all w.size n now most kept.within (le-leb (majority w.size) (count (leb n) (take w.size now)) enough) in
    let chosen : max s.kept.chosen (majority_place w.size now) ≡ n = omega (arith, all-of-it, kept.chosen) in
    end_recorded w s m confirmed n e ∙ rw chosen refl
