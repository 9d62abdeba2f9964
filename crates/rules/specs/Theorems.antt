-- What holds of every call, and of every event at every legal state: the statements. Their proofs stand in proofs/Theorems. Assumes nothing.
use Rattle.std.specs.Prelude.{ℕ, ◌+◌, ◌≤◌, ◌<◌, ◌≡◌, ◌↔◌, Bool, true, false, cond, not, ◌&&◌, ◌||◌, List, [], leb, ltb, eqb, length, drop}
use Rattle.std.proofs.Math.Option.{Option, none, some}
use Rattle.kinds.specs.Sizes.{Who, is_size, is_hub, term_most, limit, text_room}
use Rattle.command.specs.Command.{Command}
use Rattle.command.specs.Proposal.{read_proposal}
use Rattle.message.specs.Message.{Message, Body, vote_request, vote_yes, vote_no, append, append_yes, append_no}
use Rattle.message.specs.Legal.{legal_message}
use Rattle.state.specs.State.{Kept, follower, candidate, leader, State, fresh}
use Rattle.state.specs.Legal.{legal_state}
use Rattle.state.specs.Image.{image}
use Rattle.rules.specs.Outcome.{done, goes, bad_message, stale, nothing_new}
use Rattle.rules.specs.Majority.{confirmed_by, majority_place}
use Rattle.rules.specs.Events.{is_leader, len, for_hub, says, started}
use Rattle.rules.specs.Receive.{Effect, idle, effect, vote, rule, is_misaddressed, is_stale, contradicts, follower_at}
use Rattle.rules.specs.Step.{Call, Answer, Event, event_of, over, written, seen_by, answer, step_of}
use Rattle.rules.specs.Happens.{Occasion, to_start, to_propose, to_send, to_restart, to_receive, happens, occasion_of, Meets}

-- ---- words

-- No kept part falls: term, ballot, chosen, the log's length.
pub record Grows (k next : Kept) : Type 0 where
  pub term : k.term ≤ next.term
  pub ballot : k.ballot ≤ next.ballot
  pub chosen : k.chosen ≤ next.chosen
  pub log : length k.log ≤ length next.log

-- A legal message with the hub itself as from and its term after the step.
pub record SaysLegal (w : Who) (next : State) (m : Message) : Type 0 where
  pub legal : legal_message m ≡ true
  pub from : m.from ≡ w.own
  pub term : m.term ≡ next.kept.term

-- The rules change nothing in the state and write no message.
abbrev pub ChangesNothing : State → Effect → Type 0
ChangesNothing s idle = Unit {0}
ChangesNothing s (effect next message) = (next ≡ s) × (message ≡ none)

-- A message of own term, refused for no other reason, for which the rules change nothing and write nothing.
pub record NothingNew (w : Who) (s : State) (m : Message) : Type 0 where
  pub addressed : is_misaddressed w m ≡ false
  pub fresh : is_stale s m ≡ false
  pub own_term : m.term ≡ s.kept.term
  pub agrees : contradicts s m.body ≡ false
  pub unchanged : ChangesNothing s (rule w s m.from m.body)

-- Confirmed by a majority, unless it is 0; a place of a log; and the largest such.
pub record LargestConfirmed (n : ℕ) (confirmed : List ℕ) (place : ℕ) : Type 0 where
  pub has : 1 ≤ place → confirmed_by n confirmed place ≡ true
  pub most : place ≤ limit
  pub none_above : (p : ℕ) → place < p → p ≤ limit → confirmed_by n confirmed p ≡ false

-- A vote-request of a higher term is for this hub.
pub record AsksHigher (w : Who) (s : State) (m : Message) (last ballot : ℕ) : Type 0 where
  pub addressed : is_misaddressed w m ≡ false
  pub higher : s.kept.term < m.term
  pub body : m.body ≡ vote_request last ballot

-- The hub takes the message's term, keeps all else that it kept, its ballot too, and says this to whoever sent it.
abbrev pub Replies : Who → State → Message → Body → Type 0
Replies w s m body =
    let next = follower_at s m.term in
    happens w s (to_receive m) ≡ goes next (some (says w next m.from body))

-- What the rules permit of a message of own term: a vote-yes for the own length with no higher ballot, from a new voter, at a candidate; an
-- append at a hub that does not lead; an append-yes with a greater end than recorded, within a leader's log. Of the others nothing.
unfoldable pub permits : State → ℕ → Body → Bool
permits s from (vote_request last ballot) = false
permits s from (vote_yes last ballot entries) =
    elim s.lost [
      | follower ↦ false
      | candidate voters gathered ↦ not (for_hub voters from false) && (eqb last (len s) && leb ballot s.kept.ballot)
      | leader confirmed ↦ false
    ]
permits s from vote_no = false
permits s from (append prev prevterm chosen entries) = not (is_leader s)
permits s from (append_yes end) =
    elim s.lost [
      | follower ↦ false
      | candidate voters gathered ↦ false
      | leader confirmed ↦ ltb (for_hub confirmed from 0) end && leb end (len s)
    ]
permits s from (append_no length) = false

-- A message for this hub takes effect with a higher term, whatever it says, and with the own term if the rules permit it.
unfoldable pub takes_effect : Who → State → Message → Bool
takes_effect w s m =
    not (is_misaddressed w m)
    && (ltb s.kept.term m.term || (eqb m.term s.kept.term && permits s m.from m.body))

-- What a call leaves, whatever it brings: where it takes effect the image of a legal state, else the bytes that were there; and over the
-- output the text of a legal message, or nothing.
pub record Leaves (c : Call) (a : Answer) : Type 0 where
  pub next : a.outcome ≡ done → (s : State) × (legal_state c.who s ≡ true) × (a.state ≡ image s)
  pub stays : (a.outcome ≡ done → ⊥) → a.state ≡ c.state
  pub message : Option Message
  pub legal : (m : Message) → message ≡ some m → legal_message m ≡ true
  pub wrote : a.wrote ≡ length (written message)
  pub output : a.output ≡ over (written message) c.output
  pub silent : (a.outcome ≡ done → ⊥) → (a.outcome ≡ stale → ⊥) → message ≡ none

-- ---- every call

-- Every call leaves what is legal.
abbrev pub CallLeavesLegal : Type 0
CallLeavesLegal = (c : Call) → Leaves c (step_of c)

-- Every call comes to one of rule R32's outcomes.
abbrev pub CallComesToOutcome : Type 0
CallComesToOutcome = (c : Call) → (step_of c).outcome ≤ nothing_new

-- The step does what happens, once the numbers, the state and the output are as they have to be and a message is read.
abbrev pub StepIsWhatHappens : Type 0
StepIsWhatHappens =
    (c : Call) (e : Event) (s : State) (o : Occasion) → event_of c.event ≡ some e → is_size c.who.size ≡ true → is_hub c.who.size c.who.own ≡ true
    → seen_by c.who e c.state ≡ some s → text_room ≤ length c.output → occasion_of c e ≡ some o
    → step_of c ≡ answer c (happens c.who s o)

-- ---- every event

-- A fresh hub is legal.
abbrev pub FreshIsLegal : Type 0
FreshIsLegal = (w : Who) → legal_state w fresh ≡ true

-- The next state is legal.
abbrev pub NextIsLegal : Type 0
NextIsLegal = (w : Who) (s : State) (o : Occasion) → Meets w s o → legal_state w (happens w s o).state ≡ true

-- Kept parts never fall.
abbrev pub NothingFalls : Type 0
NothingFalls = (w : Who) (s : State) (o : Occasion) → Meets w s o → Grows s.kept (happens w s o).state.kept

-- A written message is legal, the replies to stale messages too.
abbrev pub MessageIsLegal : Type 0
MessageIsLegal =
    (w : Who) (s : State) (o : Occasion) → Meets w s o
    → (m : Message) → (happens w s o).message ≡ some m → SaysLegal w (happens w s o).state m

-- All outcomes but 0 leave the state.
abbrev pub RefusalLeaves : Type 0
RefusalLeaves = (w : Who) (s : State) (o : Occasion) → Meets w s o → ((happens w s o).outcome ≡ done → ⊥) → (happens w s o).state ≡ s

-- No refusal but outcome 6 writes.
abbrev pub RefusalIsSilent : Type 0
RefusalIsSilent =
    (w : Who) (s : State) (o : Occasion) → Meets w s o
    → ((happens w s o).outcome ≡ done → ⊥) → ((happens w s o).outcome ≡ stale → ⊥) → (happens w s o).message ≡ none

-- Outcome 4 is a text's that is no message: no event that a hub meets comes to it.
abbrev pub FourIsUnread : Type 0
FourIsUnread = (w : Who) (s : State) (o : Occasion) → (happens w s o).outcome ≡ bad_message → ⊥

-- ---- receive

-- Outcome 13 is given exactly where there is nothing new.
abbrev pub ThirteenExactly : Type 0
ThirteenExactly =
    (w : Who) (s : State) (m : Message) → Meets w s (to_receive m) → ((happens w s (to_receive m)).outcome ≡ nothing_new) ↔ NothingNew w s m

-- The place that a leader takes as chosen is the largest that a majority has confirmed (rule R25), whatever is confirmed.
abbrev pub MajorityPlaceIsLargest : Type 0
MajorityPlaceIsLargest = (n : ℕ) (confirmed : List ℕ) → LargestConfirmed n confirmed (majority_place n confirmed)

-- No other place is the largest that a majority has confirmed.
abbrev pub MajorityPlaceIsOnly : Type 0
MajorityPlaceIsOnly = (n : ℕ) (confirmed : List ℕ) (place : ℕ) → LargestConfirmed n confirmed place → place ≡ majority_place n confirmed

-- It lies within a legal leader's log.
abbrev pub MajorityPlaceInLog : Type 0
MajorityPlaceInLog =
    (w : Who) (s : State) (confirmed : List ℕ) → legal_state w s ≡ true → s.lost ≡ leader confirmed → majority_place w.size confirmed ≤ len s

-- ---- the vote

-- A hub whose log is empty says yes to any vote-request of a higher term, whatever its own ballot, and writes ballot 0 in that reply.
abbrev pub EmptyHubSaysYes : Type 0
EmptyHubSaysYes =
    (w : Who) (s : State) (m : Message) (last ballot : ℕ) → AsksHigher w s m last ballot → len s ≡ 0
    → Replies w s m (vote_yes last 0 [])

-- All other hubs compare their own ballot with the message's, and write it.
abbrev pub OthersCompare : Type 0
OthersCompare =
    (w : Who) (s : State) (m : Message) (last ballot : ℕ) → AsksHigher w s m last ballot → 1 ≤ len s
    → Replies w s m (cond (leb s.kept.ballot ballot) (vote_yes last s.kept.ballot (drop last s.kept.log)) vote_no)

-- A candidate still writes its real ballot, also where its log is empty.
abbrev pub CandidateWritesBallot : Type 0
CandidateWritesBallot =
    (w : Who) (s : State) → is_leader s ≡ false → s.kept.term < term_most
    → (happens w s to_start).message ≡ some (says w (started w s) 0 (vote_request (len s) s.kept.ballot))

-- No answer to a hub's own request, whoever gives it, contradicts the hub: last is its length, and the ballot told is not above its own.
abbrev pub AnswerAgrees : Type 0
AnswerAgrees = (s : State) (k : Kept) → contradicts s (vote k (len s) s.kept.ballot) ≡ false

-- ---- an event takes effect where the rules permit it

-- A start below the last term at a hub that does not lead.
abbrev pub StartTakesEffect : Type 0
StartTakesEffect =
    (w : Who) (s : State) → is_leader s ≡ false → s.kept.term < term_most
    → ((happens w s to_start).outcome ≡ done) × ((happens w s to_start).state.kept.term ≡ s.kept.term + 1)

-- A proposal of bytes that are a command which may be proposed, at a leader with room.
abbrev pub ProposeTakesEffect : Type 0
ProposeTakesEffect =
    (w : Who) (s : State) (bytes : List ℕ) (c : Command) → is_leader s ≡ true → read_proposal bytes ≡ some c → len s < limit
    → ((happens w s (to_propose bytes)).outcome ≡ done) × (len (happens w s (to_propose bytes)).state ≡ len s + 1)

-- A send to another hub, from a prev in 0..length, at a leader.
abbrev pub SendTakesEffect : Type 0
SendTakesEffect =
    (w : Who) (s : State) (peer prev : ℕ) → is_leader s ≡ true → is_hub w.size peer ≡ true → (peer ≡ w.own → ⊥) → prev ≤ len s
    → (happens w s (to_send peer prev)).outcome ≡ done

-- A restart.
abbrev pub RestartTakesEffect : Type 0
RestartTakesEffect = (w : Who) (s : State) → (happens w s to_restart).outcome ≡ done

-- A message takes effect exactly if it is for this hub and has a higher term, or has the own term and the rules permit it.
abbrev pub MessageTakesEffect : Type 0
MessageTakesEffect = (w : Who) (s : State) (m : Message) → eqb (happens w s (to_receive m)).outcome done ≡ takes_effect w s m

-- A message of a higher term, whatever it says.
abbrev pub HigherTermTakesEffect : Type 0
HigherTermTakesEffect =
    (w : Who) (s : State) (m : Message) → is_misaddressed w m ≡ false → s.kept.term < m.term
    → ((happens w s (to_receive m)).outcome ≡ done) × ((happens w s (to_receive m)).state.kept.term ≡ m.term)
