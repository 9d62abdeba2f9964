-- Why the hubs are MultiPaxos: what holds of every household that can come about, in one place. It stands over a hall of views (the
-- machine's history, who gave whom its report, each hub's view) and over one ghost of its own, `made`: for each term the log of whoever
-- leads it, as far as it has grown. No two logs are ever compared with each other: each is compared with `made`. Assumes nothing.
use Rattle.std.specs.Prelude.{ℕ, zero, suc, ◌+◌, ◌≤◌, ◌<◌, ◌≡◌, Bool, true, false, List, length}
use Rattle.std.proofs.Math.Option.{some}
use Rattle.std.proofs.Math.ListN.{get_elem?}
use Rattle.kinds.specs.Sizes.{Group}
use Rattle.kinds.specs.Hubs.{of_hub}
use Rattle.command.specs.Command.{Command}
use Rattle.command.specs.Entry.{Entry}
use Rattle.message.specs.Message.{Message, Body, vote_request, vote_yes, vote_no, append, append_yes, append_no}
use Rattle.state.specs.State.{Kept, Pair, Lost, follower, candidate, leader, State}
use Rattle.paxos.specs.Paxos.{Seen, never, at, proposed, voted, ◌∈◌}
use Rattle.views.specs.Hall.{gave, Hall, Leads}
use Rattle.views.specs.Faithful.{Settled, Faithful}
use Rattle.views.specs.Best.{Top}
use Rattle.home.specs.View.{entry_counts, view_of, pair_counts, tally, machine}

infix 50 ◌⊑◌
-- What a log has at an index the other has there too: so it is a prefix of it.
abbrev pub ◌⊑◌ : List Entry → List Entry → Type 0
l ⊑ m = (i : ℕ) (e : Entry) → get_elem? l i ≡ some e → get_elem? m i ≡ some e

-- The log of whoever leads each term.
abbrev pub Logs : Type 0
Logs = ℕ → List Entry

-- ---- the logs of the leaders

-- Log matching, once and for all: an entry's term is one of the terms so far, and up to that entry the log is that term's.
pub record Matches (made : Logs) (t i : ℕ) (e : Entry) : Type 0 where
  -- The term is not above the log's.
  pub low : e.term ≤ t
  -- What the log has up to the entry, the log of the entry's term has too.
  pub same : (j : ℕ) (f : Entry) → j ≤ i → get_elem? (made t) j ≡ some f → get_elem? (made e.term) j ≡ some f

-- So it is for every entry of every leader's log.
abbrev pub Matching : Logs → Type 0
Matching made = (t i : ℕ) (e : Entry) → get_elem? (made t) i ≡ some e → Matches made t i e

-- Each entry of a leader's log is the machine's proposal at that term.
abbrev pub Proposed : Hall Command → Logs → Type 0
Proposed H made = (t i : ℕ) (e : Entry) → get_elem? (made t) i ≡ some e → proposed t (suc i) e.command ∈ H.past

-- The ground that all hubs stand on.
pub record Ground (G : Group) (H : Hall Command) (made : Logs) : Type 0 where
  -- The hall fits the machine.
  pub faithful : Faithful (machine G) H
  -- The leaders' logs match.
  pub matching : Matching made
  -- And are proposed.
  pub proposals : Proposed H made

-- ---- facts that messages carry; they stay true

-- Hub h has voted at the term t for the first n entries of its leader's log.
abbrev pub Backs : Hall Command → Logs → ℕ → ℕ → ℕ → Type 0
Backs H made h t n =
    (i : ℕ) → i < n → (e : Entry) × (get_elem? (made t) i ≡ some e) × (voted h t (suc i) e.command ∈ H.past)

-- A vote-yes is a gift: the report that it carries tells of no ballot above b, and of the entries after last at b.
pub record Yields (H : Hall Command) (h t to last b : ℕ) (entries : List Entry) : Type 0 where
  -- What the hub reported, place by place.
  pub seen : ℕ → Seen Command
  -- It gave it to the hub that the message is for.
  pub given : gave h t to seen ∈ H.gifts
  -- No ballot in it is above b.
  pub low : (p k : ℕ) (c : Command) → seen p ≡ at k c → k ≤ b
  -- After last it tells of the entries, and of nothing beyond them.
  pub beyond : (i : ℕ) → seen (suc (last + i)) ≡ entry_counts b (get_elem? entries i)

-- The log has an entry of the term prevterm at the place prev; nothing is asked of place 0.
abbrev pub Follows : List Entry → ℕ → ℕ → Type 0
Follows log zero prevterm = Unit {0}
Follows log (suc i) prevterm = (e : Entry) × (get_elem? log i ≡ some e) × (e.term ≡ prevterm)

-- An append is a part of its term's log, and its chosen places are settled.
pub record Carries (G : Group) (H : Hall Command) (made : Logs) (t from prev prevterm chosen : ℕ) (entries : List Entry) : Type 0 where
  -- Who sends it leads the term, elected by these on what they reported.
  pub backers : ℕ → Bool
  pub seen : ℕ → ℕ → Seen Command
  pub leads : Leads (machine G) H.gifts t from backers seen
  -- What stands at prev has the term prevterm.
  pub after : Follows (made t) prev prevterm
  -- The entries stand behind prev.
  pub part : (i : ℕ) (e : Entry) → get_elem? entries i ≡ some e → get_elem? (made t) (prev + i) ≡ some e
  -- The places 1..chosen are settled.
  pub settled :
      (i : ℕ) → i < chosen → (e : Entry) × (get_elem? (made t) i ≡ some e) × Settled (machine G) H.past t (suc i) e.command

-- What the message says is true. Requests and refusals say nothing that anybody relies on.
abbrev pub TrueBody : (G : Group) → Hall Command → Logs → ℕ → ℕ → ℕ → Body → Type 0
TrueBody G H made t from to (vote_request last ballot) = Unit {0}
TrueBody G H made t from to (vote_yes last ballot entries) = Yields H from t to last ballot entries
TrueBody G H made t from to vote_no = Unit {0}
TrueBody G H made t from to (append prev prevterm chosen entries) = Carries G H made t from prev prevterm chosen entries
TrueBody G H made t from to (append_yes end) = Backs H made from t end
TrueBody G H made t from to (append_no length) = Unit {0}

-- The message is true.
abbrev pub True : (G : Group) → Hall Command → Logs → Message → Type 0
True G H made m = TrueBody G H made m.term m.from m.to m.body

-- ---- hubs

-- A candidate.
pub record Standing (H : Hall Command) (h : ℕ) (k : Kept) (voters : List Bool) (gathered : List Pair) : Type 0 where
  -- What each voter reported.
  pub seen : ℕ → ℕ → Seen Command
  -- Each voter gave it its report at its term.
  pub given : (g : ℕ) → of_hub voters false g ≡ true → gave g k.term h (seen g) ∈ H.gifts
  -- What it would propose at a place is the highest vote that they tell of.
  pub best : (i : ℕ) → Top (of_hub voters false) (λ g. seen g (suc i)) (pair_counts (get_elem? (tally k gathered) i))

-- A leader.
pub record Leading (G : Group) (H : Hall Command) (made : Logs) (h : ℕ) (k : Kept) (confirmed : List ℕ) : Type 0 where
  -- Who elected it, and what they reported.
  pub backers : ℕ → Bool
  pub seen : ℕ → ℕ → Seen Command
  -- They are a majority that gave it their reports at its term.
  pub leads : Leads (machine G) H.gifts k.term h backers seen
  -- They told of nothing beyond its log: there it may propose what clients ask for.
  pub free : (g p : ℕ) → backers g ≡ true → length k.log < p → seen g p ≡ never
  -- Its log is its term's, whole.
  pub whole : k.log ≡ made k.term
  -- A hub that confirmed a length has voted so far.
  pub backed : (g : ℕ) → Backs H made g k.term (of_hub confirmed 0 g)

-- What holds of a hub by its role.
abbrev pub InRole : (G : Group) → Hall Command → Logs → ℕ → Kept → Lost → Type 0
InRole G H made h k follower = Unit {0}
InRole G H made h k (candidate voters gathered) = Standing H h k voters gathered
InRole G H made h k (leader confirmed) = Leading G H made h k confirmed

-- What holds of hub h with the state s.
pub record Rooted (G : Group) (H : Hall Command) (made : Logs) (h : ℕ) (s : State) : Type 0 where
  -- The machine knows it by its view.
  pub view : H.view h ≡ view_of s.kept
  -- Its log is a part of its ballot's.
  pub prefix : s.kept.log ⊑ made s.kept.ballot
  -- And it is as its role has it.
  pub role : InRole G H made h s.kept s.lost
