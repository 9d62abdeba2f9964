-- What holds of every event at every legal state: the next state is legal, no kept part falls, a written message is legal, a refusal leaves
-- the state, and outcome 13 is given exactly where there is nothing new. So the firmware never keeps a state that the next call refuses,
-- nor sends a message that another hub refuses as no message. Each event was shown fair by itself; here they come together. Assumes nothing.
use Prim.Native.Nat.{ℕ, ◌+◌, ◌<◌}
use native.Mathlib.Omega.{arith}
use mathlib.Core.Path.{◌≡◌, refl, ◌∙◌}
use mathlib.Core.Bool.{Bool, true, false, ◌&&◌}
use mathlib.Core.List.{[], ◌∷◌}
use mathlib.Core.Option.{some}
use borrow.Author.Tests.{eq-eqb, ne_eqb, le-leb, lt-leb, le-ltb}
use lib.Dec.{leb, ltb, eqb}
use lib.ListN.{length, length-append}
use Rattle.kinds.specs.Sizes.{Who, limit, between, is_size, is_hub}
use Rattle.command.specs.Command.{Command}
use Rattle.command.specs.Entry.{legal_entries}
use Rattle.command.specs.Proposal.{read_proposal}
use Rattle.message.specs.Message.{Message, Body, vote_request, vote_yes, vote_no, append, append_yes, append_no}
use Rattle.message.specs.Legal.{legal_message}
use Rattle.state.specs.State.{Kept, Lost, follower, candidate, leader, State, fresh}
use Rattle.state.specs.Legal.{legal_kept, legal_lost, legal_state}
use Rattle.rules.specs.Outcome.{done}
use Rattle.rules.specs.Events.{is_leader, is_candidate, len, with_term, leads, started, asks, with_entry, propose_leading, propose, send, restart}
use Rattle.rules.specs.Receive.{Effect, ballot_told, vote, heard_yes, fits, taken, heard_append, heard_end, rule, contradicts, follower_at, after_raise}
use Rattle.rules.specs.Happens.{Occasion, to_start, to_propose, to_send, to_restart, to_receive, happens, legal_at, Meets}
use Rattle.rules.specs.Theorems.{NextIsLegal, NothingFalls, MessageIsLegal, RefusalLeaves, RefusalIsSilent, CallComesToOutcome, FourIsUnread, ThirteenExactly, MajorityPlaceInLog, StartTakesEffect, ProposeTakesEffect, SendTakesEffect, RestartTakesEffect, HigherTermTakesEffect, MessageTakesEffect, FreshIsLegal, AsksHigher, Replies, EmptyHubSaysYes, OthersCompare, CandidateWritesBallot, AnswerAgrees}
use Rattle.kinds.proofs.BoolLaws.{and_first, and_second, not_both, cond_either}
use Rattle.state.proofs.LegalLaws.{legal_leader_is, legal_state_lost}
use Rattle.rules.proofs.LegalLaws.{is_who, legal_message_is}
use Rattle.rules.proofs.MajorityLaws.{majority_place_within}
use Rattle.command.proofs.ProposalLaws.{read_proposal_legal}
use Rattle.rules.proofs.Fair.{Fair}
use Rattle.rules.proofs.EventsLaws.{start_fair, propose_fair, send_fair, restart_fair}
use Rattle.rules.proofs.VoteLaws.{vote_either, vote_empty, vote_other}
use Rattle.rules.proofs.ReceiveLaws.{receive_fair, receive_new, after_raise_done}
use Rattle.rules.proofs.OutcomeLaws.{happens_told, step_last}
use Rattle.rules.proofs.Forward.{start_asks, receive_higher}
use Rattle.rules.proofs.EffectLaws.{receive_takes}

-- ---- every event

-- Every event is fair.
fair : (w : Who) (s : State) (o : Occasion) → Meets w s o → Fair w s (happens w s o)
unfolding happens legal_at
fair w s to_start m = start_fair w (is_who w m.size m.own) s m.legal
fair w s (to_propose bytes) m =
    propose_fair w (is_who w m.size m.own) s.kept s.lost (read_proposal bytes) (read_proposal_legal bytes) m.legal
fair w s (to_send peer prev) m = send_fair w (is_who w m.size m.own) s.kept s.lost peer prev m.legal
fair w s to_restart m = restart_fair w (is_who w m.size m.own) s m.legal
fair w s (to_receive message) m =
    let state = legal_state w s in
    let legal = legal_message message in
    receive_fair w (is_who w m.size m.own) s (and_first state legal m.legal) message
    (legal_message_is message (and_second state legal m.legal))

-- A fresh hub is legal.
pub fresh_is_legal : FreshIsLegal
unfolding fresh legal_state legal_kept legal_lost legal_entries
fresh_is_legal w =
    let none_held : leb 0 limit ≡ true = le-leb 0 limit (omega arith) in
    rw none_held

-- What is asked can be met: by a fresh hub 1 of 3 at its start.
pub fresh_meets : Meets (record { size = 3; own = 1 }) fresh to_start
unfolding is_size is_hub between legal_at
fresh_meets = record { size = refl; own = refl; legal = fresh_is_legal (record { size = 3; own = 1 }) }

-- The next state is legal.
pub next_is_legal : NextIsLegal
next_is_legal w s o m = (fair w s o m).sound.legal

-- Kept parts never fall.
pub nothing_falls : NothingFalls
nothing_falls w s o m = (fair w s o m).sound.grows

-- A written message is legal.
pub message_is_legal : MessageIsLegal
message_is_legal w s o m = (fair w s o m).sound.writes

-- A refusal leaves the state.
pub refusal_leaves : RefusalLeaves
refusal_leaves w s o m = (fair w s o m).leaves

-- No refusal but outcome 6 writes.
pub refusal_is_silent : RefusalIsSilent
refusal_is_silent w s o m = (fair w s o m).silent

-- Every call comes to one of the outcomes.
pub call_comes_to_outcome : CallComesToOutcome
call_comes_to_outcome = step_last

-- Outcome 4 is a text's that is no message.
pub four_is_unread : FourIsUnread
four_is_unread w s o = (happens_told w s o).other

-- ---- receive

-- Outcome 13, exactly.
pub thirteen_exactly : ThirteenExactly
unfolding happens legal_at
thirteen_exactly w s message m =
    let state = legal_state w s in
    let legal = legal_message message in
    receive_new w (is_who w m.size m.own) s (and_first state legal m.legal) message
    (legal_message_is message (and_second state legal m.legal))

-- The place confirmed by a majority lies within a legal leader's log.
pub majority_place_in_log : MajorityPlaceInLog
unfolding legal_lost
majority_place_in_log w s confirmed h e =
    let l = legal_leader_is w s.kept confirmed (rw e at (legal_state_lost w s h)) in
    majority_place_within w.size (len s) confirmed l.most

-- ---- an event takes effect where the rules permit it

-- A start.
pub start_takes_effect : StartTakesEffect
unfolding started with_term
start_takes_effect w s role low = rw (start_asks w s role low) (refl, refl)

-- A proposal, by the role.
propose_grows :
    (w : Who) (k : Kept) (l : Lost) (c : Command)
    → (let s : State = record { kept = k; lost = l } in
    is_leader s ≡ true → len s < limit → ((propose w s (some c)).outcome ≡ done) × (len (propose w s (some c)).state ≡ len s + 1))
unfolding propose propose_leading leads with_entry is_leader
propose_grows w k follower c role room = absurd (not_both false role refl)
propose_grows w k (candidate voters gathered) c role room = absurd (not_both false role refl)
propose_grows w k (leader confirmed) c role room =
    rw (lt-leb limit (length k.log) room) (refl, length-append k.log (record { term = k.term; command = c } ∷ []))

-- At whatever leader has room.
pub propose_takes_effect : ProposeTakesEffect
unfolding happens
propose_takes_effect w s bytes c role proposed room = rw proposed (propose_grows w s.kept s.lost c role room)

-- A send.
pub send_takes_effect : SendTakesEffect
unfolding happens send
send_takes_effect w s peer prev role hub other in_log =
    let t : eqb peer w.own ≡ false = ne_eqb peer w.own other in
    let u : ltb (len s) prev ≡ false = le-ltb (len s) prev in_log in
    rw (role, hub, t, u)

-- A restart.
pub restart_takes_effect : RestartTakesEffect
unfolding happens restart
restart_takes_effect w s = refl

-- A message of a higher term: no rule changes the term once more.
pub raised_term :
    (w : Who) (s : State) (t from : ℕ) (body : Body) → (let r = follower_at s t in (after_raise r (rule w r from body)).state.kept.term ≡ t)
unfolding follower_at with_term after_raise rule heard_yes heard_append heard_end taken
raised_term w s t from (vote_request last ballot) = refl
raised_term w s t from (vote_yes last ballot entries) = refl
raised_term w s t from vote_no = refl
raised_term w s t from (append prev prevterm chosen entries) =
    let r = follower_at s t in
    cond_either (λ (e : Effect). (after_raise r e).state.kept.term ≡ t) (fits r.kept prev prevterm (prev + length entries)) (λ f. refl) (λ f. refl)
raised_term w s t from (append_yes end) = refl
raised_term w s t from (append_no length) = refl

-- Whatever the rules do with it.
pub higher_term_takes_effect : HigherTermTakesEffect
higher_term_takes_effect w s m addressed up =
    let r = follower_at s m.term in
    rw (receive_higher w s m addressed up) (after_raise_done r (rule w r m.from m.body), raised_term w s m.term m.from m.body)

-- Any message.
pub message_takes_effect : MessageTakesEffect
message_takes_effect = receive_takes

-- ---- the vote

-- What a vote-request of a higher term comes to.
replies :
    (w : Who) (s : State) (m : Message) (last ballot : ℕ) → AsksHigher w s m last ballot
    → Replies w s m (vote (follower_at s m.term).kept last ballot)
unfolding after_raise rule
replies w s m last ballot a = receive_higher w s m a.addressed a.higher ∙ rw a.body refl

-- An empty hub says yes, and tells ballot 0.
pub empty_hub_says_yes : EmptyHubSaysYes
unfolding follower_at with_term
empty_hub_says_yes w s m last ballot a empty = rw (← vote_empty (follower_at s m.term).kept last ballot empty) (replies w s m last ballot a)

-- All others compare their own ballot, and tell it.
pub others_compare : OthersCompare
unfolding follower_at with_term
others_compare w s m last ballot a held = rw (← vote_other (follower_at s m.term).kept last ballot held) (replies w s m last ballot a)

-- What a hub asks with is its own ballot.
pub candidate_writes_ballot : CandidateWritesBallot
unfolding started with_term asks
candidate_writes_ballot w s role low = rw (start_asks w s role low) refl

-- A yes to the hub's own request names its length, and no ballot above its own.
pub answer_agrees : AnswerAgrees
unfolding contradicts
answer_agrees s k =
    let told = ballot_told (length k.log) k.ballot in
    vote_either k (len s) (λ (b : Body). contradicts s b ≡ false) s.kept.ballot
    (λ low. in_any_role (is_candidate s) (rw (eq-eqb (len s) (len s) refl, le-ltb s.kept.ballot told low)))
    (λ high. refl)
  where
    in_any_role : (role : Bool) {t : Bool} → t ≡ false → (role && t) ≡ false
    in_any_role true e = e
    in_any_role false e = refl
