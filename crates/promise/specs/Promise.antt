-- What is promised of a call of the step, and of its parts: what is returned, and what the lent bytes hold then. Assumes nothing.
use Rattle.std.specs.Prelude.{ℕ, ◌≤◌, ◌<◌, ◌≡◌, Bool, true, false, cond, List, Result, Ok, Err, eqb, length}
use Rattle.std.proofs.Math.Option.{Option, none, some}
use Rattle.kinds.specs.Sizes.{Who, is_size, is_hub, term_most, limit}
use Rattle.command.specs.Proposal.{is_proposal}
use Rattle.command.specs.Entry.{Entry}
use Rattle.message.specs.Message.{Message, vote_yes, append, append_yes}
use Rattle.message.specs.Legal.{legal_body}
use Rattle.message.specs.Place.{PlaceWith}
use Rattle.state.specs.declared.Head.{Head}
use Rattle.state.specs.Image.{image, state_in, read_state}
use Rattle.state.specs.Head.{head_in}
use Rattle.rules.specs.Outcome.{Next, done}
use Rattle.rules.specs.Receive.{Effect, idle, effect, contradicts}
use Rattle.rules.specs.Step.{Call, Answer, over, written}
use Rattle.kinds.specs.Role.{as_leader}
use Rattle.kinds.specs.Packed.{half, placed, packed}
use Rattle.kinds.specs.Refusal.{outcome_of}
use Rattle.kinds.specs.declared.Refusal.{Refusal}

-- ---- the whole call

-- All that a call hands over.
abbrev pub call : ℕ → ℕ → ℕ → ℕ → ℕ → List ℕ → List ℕ → List ℕ → Call
call n own event a b state input output =
    record {
      who = record { size = n; own = own };
      event = event;
      a = a;
      b = b;
      state = state;
      input = input;
      output = output;
    }

-- One number is returned: the outcome, the place of the input's first wrong byte, and the bytes written. The lent bytes are as the answer has them.
pub record Answers (a : Answer) (input : List ℕ) (r : ℕ) (state output : List ℕ) : Type 0 where
  pub place : ℕ
  pub place_is : PlaceWith a.outcome input place
  pub returned : r ≡ packed (placed a.outcome place) a.wrote
  pub state_left : state ≡ a.state
  pub output_left : output ≡ a.output

-- ---- one event

-- What holds where an event is handed its state: the numbers are known, and the bytes are a legal state's.
pub record Ready (w : Who) (l : List ℕ) : Type 0 where
  pub size : is_size w.size ≡ true
  pub own : is_hub w.size w.own ≡ true
  pub held : read_state w l ≡ some (state_in l)

-- What holds where a command is added: a leader's head, a log that is not full, a command that may be proposed.
pub record Adds (w : Who) (h : Head) (l command : List ℕ) : Type 0 where
  pub ready : Ready w l
  pub head : h ≡ head_in l
  pub role : h.role ≡ as_leader
  pub room : h.length.0 < limit
  pub proposal : is_proposal command ≡ true

-- What holds where a hub starts: no leader's head, and a term that is not the last.
pub record Starts (w : Who) (h : Head) (l : List ℕ) : Type 0 where
  pub ready : Ready w l
  pub head : h ≡ head_in l
  pub role : h.role ≡ as_leader → ⊥
  pub low : h.term.0 < term_most

-- What holds where a hub becomes a follower of its term or of a higher one.
pub record Raises (w : Who) (h : Head) (t : ℕ) (l : List ℕ) : Type 0 where
  pub ready : Ready w l
  pub head : h ≡ head_in l
  pub up : h.term.0 ≤ t
  pub last : t ≤ term_most

-- The state's bytes after an event: all outcomes but 0 leave them.
unfoldable pub left_by : List ℕ → Next → List ℕ
left_by l n = cond (eqb n.outcome done) (image n.state) l

-- How many bytes or places an answer tells; a refusal tells none.
abbrev pub many_of : Result ℕ Refusal → ℕ
many_of (Ok n) = n
many_of (Err r) = 0

-- What an event that may write a message answers and leaves. The bytes fit the one number that C is told.
pub record Gives (n : Next) (l out : List ℕ) (r : Result ℕ Refusal) (l' out' : List ℕ) : Type 0 where
  pub outcome : outcome_of r ≡ n.outcome
  pub bytes : many_of r ≡ length (written n.message)
  pub bytes_fit : many_of r < half
  pub state_left : l' ≡ left_by l n
  pub output_left : out' ≡ over (written n.message) out

-- What an event that writes no message answers and leaves.
pub record Quiet (n : Next) (l : List ℕ) (r : Result (Unit {0}) Refusal) (l' : List ℕ) : Type 0 where
  pub outcome : outcome_of r ≡ n.outcome
  pub silent : n.message ≡ none
  pub state_left : l' ≡ left_by l n

-- ---- one rule

-- What holds where an append-yes is heard: it comes from another hub of the group, and does not contradict.
pub record HearsEnd (w : Who) (l : List ℕ) (from end : ℕ) : Type 0 where
  pub ready : Ready w l
  pub first : 1 ≤ from
  pub last : from ≤ w.size
  pub other : from ≡ w.own → ⊥
  pub agrees : contradicts (state_in l) (append_yes end) ≡ false

-- What holds where a vote-yes is heard: it comes from another hub of the group, is legal at the hub's term, and does not contradict.
pub record HearsYes (w : Who) (l : List ℕ) (from last ballot : ℕ) (entries : List Entry) : Type 0 where
  pub ready : Ready w l
  pub first : 1 ≤ from
  pub within : from ≤ w.size
  pub other : from ≡ w.own → ⊥
  pub legal : legal_body (state_in l).kept.term (vote_yes last ballot entries) ≡ true
  pub agrees : contradicts (state_in l) (vote_yes last ballot entries) ≡ false

-- What holds where an append is heard: it is legal at the hub's term, and the hub does not lead.
pub record HearsAppend (w : Who) (l : List ℕ) (prev prevterm chosen : ℕ) (entries : List Entry) : Type 0 where
  pub ready : Ready w l
  pub legal : legal_body (state_in l).kept.term (append prev prevterm chosen entries) ≡ true
  pub agrees : contradicts (state_in l) (append prev prevterm chosen entries) ≡ false

-- Whether the rules do anything with a message.
unfoldable pub is_effect : Effect → Bool
is_effect idle = false
is_effect (effect next message) = true

-- The state's bytes after a rule.
unfoldable pub ruled_by : List ℕ → Effect → List ℕ
ruled_by l idle = l
ruled_by l (effect next message) = image next

-- The message that a rule writes.
unfoldable pub said_by : Effect → Option Message
said_by idle = none
said_by (effect next message) = message

-- What a rule that writes no message returns and leaves.
pub record Ruled (e : Effect) (l : List ℕ) (r : Bool) (l' : List ℕ) : Type 0 where
  pub returned : r ≡ is_effect e
  pub silent : said_by e ≡ none
  pub state_left : l' ≡ ruled_by l e
