-- What an event comes to where certain things hold: equations to be used forwards, of all that it leaves and writes. Their proofs stand in
-- proofs/Forward. Assumes nothing.
use Rattle.std.specs.Prelude.{ℕ, ◌+◌, ◌≤◌, ◌<◌, max, ◌≡◌, ◌≢◌, Bool, true, false, List, leb, length, take, drop, replicate}
use Rattle.std.proofs.Math.Option.{none, some}
use Rattle.kinds.specs.Sizes.{Who, is_hub, hubs_most, majority, term_most, limit}
use Rattle.command.specs.Command.{Command}
use Rattle.command.specs.Entry.{Entry}
use Rattle.command.specs.Proposal.{read_proposal}
use Rattle.message.specs.Message.{Message, Body, vote_yes, append, append_yes}
use Rattle.state.specs.State.{Pair, follower, candidate, leader, State}
use Rattle.state.specs.Legal.{count, legal_state}
use Rattle.rules.specs.Outcome.{goes}
use Rattle.rules.specs.Events.{is_leader, len, for_hub, set_hub, says, leads, started, asks, with_entry}
use Rattle.rules.specs.Receive.{ballot_told, gather, joined, counted, taken, recorded, is_misaddressed}
use Rattle.rules.specs.Happens.{to_start, to_propose, to_send, to_receive, happens}
use Rattle.rules.specs.Theorems.{AsksHigher, Replies}

-- ---- start, propose, send

-- A start below the last term at a hub that does not lead.
abbrev pub StartAsks : Type 0
StartAsks =
    (w : Who) (s : State) → is_leader s ≡ false → s.kept.term < term_most → happens w s to_start ≡ goes (started w s) (some (asks w (started w s)))

-- A proposal of what may be proposed at a leader with room.
abbrev pub ProposalJoins : Type 0
ProposalJoins =
    (w : Who) (s : State) (confirmed bytes : List ℕ) (c : Command) → s.lost ≡ leader confirmed → read_proposal bytes ≡ some c → len s < limit
    → happens w s (to_propose bytes) ≡ goes (leads w (with_entry s.kept c) confirmed) none

-- A send from prev 0 to another hub, at a leader: the whole log.
abbrev pub WholeLogSent : Type 0
WholeLogSent =
    (w : Who) (s : State) (peer : ℕ) → is_leader s ≡ true → is_hub w.size peer ≡ true → peer ≢ w.own
    → happens w s (to_send peer 0) ≡ goes s (some (says w s peer (append 0 0 s.kept.chosen s.kept.log)))

-- ---- receive

-- A vote-request of a higher term, where the ballot told is not above the request's: a yes, with all entries after last.
abbrev pub RequestGranted : Type 0
RequestGranted =
    (w : Who) (s : State) (m : Message) (last ballot : ℕ) → AsksHigher w s m last ballot
    → (let told = ballot_told (len s) s.kept.ballot in
    told ≤ ballot → Replies w s m (vote_yes last told (drop last s.kept.log)))

-- A message with this body, of own term, is for this hub.
pub record OfOwnTerm (w : Who) (s : State) (m : Message) (body : Body) : Type 0 where
  pub addressed : is_misaddressed w m ≡ false
  pub term : m.term ≡ s.kept.term
  pub says : m.body ≡ body

-- A vote-yes that a candidate takes: of its own length, with no ballot above its own, from a new voter.
pub record NewYes (w : Who) (s : State) (m : Message) (voters : List Bool) (gathered : List Pair) (ballot : ℕ) (entries : List Entry) : Type 0 where
  pub comes : OfOwnTerm w s m (vote_yes (len s) ballot entries)
  pub role : s.lost ≡ candidate voters gathered
  pub voter : for_hub voters m.from false ≡ false
  pub below : ballot ≤ s.kept.ballot

-- It is counted.
abbrev pub YesCounted : Type 0
YesCounted =
    (w : Who) (s : State) (m : Message) (voters : List Bool) (gathered : List Pair) (ballot : ℕ) (entries : List Entry)
    → NewYes w s m voters gathered ballot entries
    → happens w s (to_receive m) ≡ goes (counted w s.kept (set_hub voters m.from true) (gather gathered ballot entries)) none

-- With the majority that it makes the hub leads, and its log is as long as the longest of its own and those that it was told of.
abbrev pub MajorityLeads : Type 0
MajorityLeads =
    (w : Who) (s : State) (m : Message) (voters : List Bool) (gathered : List Pair) (ballot : ℕ) (entries : List Entry)
    → NewYes w s m voters gathered ballot entries → majority w.size ≤ count (λ v. v) (set_hub voters m.from true)
    → (let k = joined s.kept (gather gathered ballot entries) in
    (happens w s (to_receive m) ≡ goes (leads w k (replicate hubs_most 0)) none)
    × (length k.log ≡ len s + max (length gathered) (length entries)))

-- An append from prev 0 whose end is not below the length always fits: at a hub that does not lead it is taken.
abbrev pub WholeLogTaken : Type 0
WholeLogTaken =
    (w : Who) (s : State) (m : Message) (prevterm chosen : ℕ) (entries : List Entry) → OfOwnTerm w s m (append 0 prevterm chosen entries)
    → is_leader s ≡ false → len s ≤ length entries
    → happens w s (to_receive m)
    ≡ goes (record { kept = taken s.kept 0 chosen entries; lost = follower }) (some (says w s m.from (append_yes (length entries))))

-- An append-yes that a leader takes: with a greater end than is recorded, within its log.
pub record NewEnd (w : Who) (s : State) (m : Message) (confirmed : List ℕ) (end : ℕ) : Type 0 where
  pub comes : OfOwnTerm w s m (append_yes end)
  pub role : s.lost ≡ leader confirmed
  pub more : for_hub confirmed m.from 0 < end
  pub in_log : end ≤ len s

-- It is recorded.
abbrev pub EndRecorded : Type 0
EndRecorded =
    (w : Who) (s : State) (m : Message) (confirmed : List ℕ) (end : ℕ) → NewEnd w s m confirmed end
    → happens w s (to_receive m) ≡ goes (recorded w s.kept (set_hub confirmed m.from end)) none

-- With the majority that it makes for the whole log, all of the log is chosen; of what is kept nothing else changes.
abbrev pub MajorityChooses : Type 0
MajorityChooses =
    (w : Who) (s : State) (m : Message) (confirmed : List ℕ) → legal_state w s ≡ true → NewEnd w s m confirmed (len s)
    → majority w.size ≤ count (leb (len s)) (take w.size (set_hub confirmed m.from (len s)))
    → (let k = s.kept in
    happens w s (to_receive m)
    ≡ goes
    (record {
      kept = record { term = k.term; ballot = k.ballot; chosen = len s; log = k.log };
      lost = leader (set_hub confirmed m.from (len s));
    })
    none)
