-- Hubs, commands, texts and rows that the worked cases are made of. Assumes nothing.
use Rattle.std.specs.Prelude.{ℕ, Bool, true, false, List, [], ◌∷◌, ◌++◌, ℤ, pos, replicate}
use Rattle.kinds.specs.Sizes.{text_room}
use Rattle.text.specs.Ascii.{ascii}
use Rattle.command.specs.Command.{Command}
use Rattle.command.specs.Entry.{Entry}
use Rattle.state.specs.State.{Kept, Pair, follower, candidate, leader, State}
use Rattle.rules.specs.Row.{CaseRow}

-- ---- commands

-- A buzz of motor 3. For 250 ms at gain 0.5 it is the command of the whole append of rule R28.
abbrev pub buzzing : ℤ → ℕ → Command
buzzing duration gain = record { motor = 3; kind = 1; duration = duration; a = gain; b = 0 }

abbrev pub buzz : Command
buzz = buzzing (pos 250) 0x3f00_0000

-- Its 16 bytes, of these four bytes of duration and of gain.
abbrev pub buzz_bytes : List ℕ → List ℕ → List ℕ
buzz_bytes duration gain = 0 ∷ 3 ∷ 0 ∷ 1 ∷ (duration ++ (gain ++ (0 ∷ 0 ∷ 0 ∷ 0 ∷ [])))

abbrev pub ms250 : List ℕ
ms250 = 0 ∷ 0 ∷ 0 ∷ 250 ∷ []

abbrev pub half_gain : List ℕ
half_gain = 0x3f ∷ 0 ∷ 0 ∷ 0 ∷ []

abbrev pub buzz_entry : ℕ → Entry
buzz_entry t = record { term = t; command = buzz }

-- ---- states

abbrev pub kept : ℕ → ℕ → ℕ → List Entry → Kept
kept term ballot chosen log = record { term = term; ballot = ballot; chosen = chosen; log = log }

abbrev pub follower_with : Kept → State
follower_with k = record { kept = k; lost = follower }

abbrev pub candidate_with : Kept → List Bool → List Pair → State
candidate_with k voters gathered = record { kept = k; lost = candidate voters gathered }

abbrev pub leader_with : Kept → List ℕ → State
leader_with k confirmed = record { kept = k; lost = leader confirmed }

-- Hub 1 alone has voted.
abbrev pub hub1_alone : List Bool
hub1_alone = true ∷ replicate 6 false

-- Hub 1 has confirmed n places, hub 2 m, the others none.
abbrev pub confirmed : ℕ → ℕ → List ℕ
confirmed n m = n ∷ m ∷ replicate 5 0

-- Hub 1, elected at term 1 with empty logs, and with one command proposed.
abbrev pub elected : State
elected = leader_with (kept 1 1 0 []) (confirmed 0 0)

abbrev pub with_one : Command → State
with_one c = leader_with (kept 1 1 0 (record { term = 1; command = c } ∷ [])) (confirmed 1 0)

-- Hub 1 leads term 1 with n entries, of which nobody else has confirmed any.
abbrev pub leader_of : ℕ → State
leader_of n = leader_with (kept 1 1 0 (replicate n (buzz_entry 1))) (confirmed n 0)

-- ---- texts

-- The whole append of rule R28.
abbrev pub whole_append : List ℕ
whole_append =
    ascii "type=append\nterm=1\nfrom=1\nto=2\nprev=0\nprevterm=0\nchosen=0\ncount=1\nentry=1:00030001000000fa3f00000000000000\n"

abbrev pub yes_text : List ℕ
yes_text = ascii "type=vote-yes\nterm=1\nfrom=2\nto=1\nlast=0\nballot=0\ncount=0\n"

abbrev pub end_text : List ℕ
end_text = ascii "type=append-yes\nterm=1\nfrom=2\nto=1\nend=1\n"

-- ---- rows

-- Hub h of n takes an event (1 start, 2 propose, 3 send, 4 restart, 5 receive) with the numbers a and b at this state.
abbrev pub step_row : ℕ → ℕ → ℕ → ℕ → ℕ → ℕ → State → List ℕ → ℕ → State → List ℕ → CaseRow
step_row case h n event a b state input outcome next message =
    record {
      case = case;
      who = record { size = n; own = h };
      event = event;
      a = a;
      b = b;
      state = state;
      input = input;
      room = text_room;
      outcome = outcome;
      next = next;
      message = message;
    }

-- A row of three hubs that takes effect, from one state to another. (A send goes to hub 2, from prev 0.)
abbrev pub does : ℕ → ℕ → ℕ → State → List ℕ → State → List ℕ → CaseRow
does case h event s input next message = step_row case h 3 event 2 0 s input 0 next message

-- A row of three hubs that is refused with this outcome, and leaves the state.
abbrev pub refused : ℕ → ℕ → ℕ → State → List ℕ → ℕ → CaseRow
refused case h event s input outcome = step_row case h 3 event 2 0 s input outcome s []
