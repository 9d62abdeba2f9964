-- A run of a home's hubs, turn by turn, nothing else between: a hub is called for something, and what it writes waits on a line. Assumes nothing.
use Rattle.std.specs.Prelude.{ℕ, List, [], ◌∷◌, length}
use Rattle.kinds.specs.Sizes.{Group}
use Rattle.kinds.specs.Event.{start_number, propose_number, send_number, receive_number}
use Rattle.paxos.specs.Put.{put}
use Rattle.engine.specs.Home.{after}
use Rattle.home.specs.Hub.{Deed, hub_engine, HomeOfHubs}

-- What a hub is called for. A text that it receives is the one that waits on a line: nobody makes one up.
pub data Act : Type 0 where
  starts : Act
  proposes : List ℕ → Act  -- the command's bytes
  sends_to : ℕ → Act  -- this peer, from prev 0
  hears : ℕ → Act  -- what waits on this line

-- The hub whose turn it is, what it is called for, and the line on which its text will wait.
pub record Turn : Type 0 where
  pub hub : ℕ
  pub act : Act
  pub onto : ℕ

-- The home, and the text that was last put on each line.
pub record Scene : Type 0 where
  pub home : HomeOfHubs
  pub lines : ℕ → List ℕ

-- Nothing waits yet.
abbrev pub quiet : HomeOfHubs → Scene
quiet H = record { home = H; lines = λ l. [] }

-- ---- the deed of a turn

-- The event's number, the peer of a send, and the input.
unfoldable pub number_of : Act → ℕ
number_of starts = start_number
number_of (proposes bytes) = propose_number
number_of (sends_to peer) = send_number
number_of (hears line) = receive_number

unfoldable pub peer_of : Act → ℕ
peer_of starts = 0
peer_of (proposes bytes) = 0
peer_of (sends_to peer) = peer
peer_of (hears line) = 0

unfoldable pub input_of : Scene → Act → List ℕ
input_of X starts = []
input_of X (proposes bytes) = bytes
input_of X (sends_to peer) = []
input_of X (hears line) = X.lines line

-- The hub is called with its stored bytes and this lent output.
unfoldable pub deed_of : Scene → Turn → List ℕ → Deed
deed_of X t output =
    record {
      hub = t.hub;
      event = number_of t.act;
      a = peer_of t.act;
      b = 0;
      state = X.home.stored t.hub;
      input = input_of X t.act;
      output = output;
    }

-- ---- the run

-- The home is what it is after the deed, and what the hub wrote, or nothing, is on the line.
unfoldable pub turned : Group → Scene → Turn → List ℕ → Scene
turned G X t output =
    let d = deed_of X t output in
    record { home = after hub_engine G X.home d; lines = put X.lines t.onto (hub_engine.step G d).text }

-- The deeds of these turns, one after the other. Each time some output is lent: the one for n turns still to come is `lent n`.
abbrev pub deeds_of : Group → (ℕ → List ℕ) → Scene → List Turn → List Deed
deeds_of G lent X [] = []
deeds_of G lent X (t ∷ ts) = deed_of X t (lent (length ts)) ∷ deeds_of G lent (turned G X t (lent (length ts))) ts
