-- What may be proposed, apart from what may be held (rule R43), by examples: 20 ms are proposed and 19 are not; shorter ones that are there
-- already are taken, sent and led with, and read and written alone. The case of a row is its outcome. Assumes nothing.
use Rattle.std.specs.Prelude.{ℕ, true, List, [], ◌∷◌, ◌≡◌, pos, replicate}
use Rattle.kinds.specs.Outcome.{done}
use Rattle.kinds.specs.Sizes.{limit}
use Rattle.text.specs.Ascii.{ascii}
use Rattle.command.specs.Command.{Command, command_bytes}
use Rattle.command.specs.Entry.{Entry}
use Rattle.command.specs.Answers.{is_command, command_written}
use Rattle.command.specs.Proposal.{proposable}
use Rattle.state.specs.State.{State}
use Rattle.rules.specs.Row.{CaseRow, AllHold}
use Rattle.rules.specs.Samples.{buzzing, buzz_entry, kept, follower_with, candidate_with, leader_with, hub1_alone, confirmed, elected, with_one, leader_of, does, refused}

-- ---- commands

-- A buzz of so many ms, at gain 0.5.
abbrev pub buzz_for : ℕ → Command
buzz_for ms = buzzing (pos ms) 0x3f00_0000

-- A ramp from 0 to gain 0.5.
abbrev pub ramp_for : ℕ → Command
ramp_for ms = record { motor = 3; kind = 2; duration = pos ms; a = 0; b = 0x3f00_0000 }

abbrev pub a_stop : Command
a_stop = record { motor = 3; kind = 0; duration = pos 0; a = 0; b = 0 }

abbrev pub entry_for : ℕ → ℕ → Entry
entry_for term ms = record { term = term; command = buzz_for ms }

-- ---- proposed

-- Hub 1, elected at term 1, takes a command; or refuses it with 10.
abbrev pub takes : Command → CaseRow
takes c = does 0 1 2 elected (command_bytes c) (with_one c) []

abbrev pub refuses10 : Command → CaseRow
refuses10 c = refused 10 1 2 elected (command_bytes c) 10

-- A leader whose log is full.
abbrev pub full_leader : State
full_leader = leader_of limit

-- ---- held

-- Hub 1 stands for term 2 and has gathered a buzz of 5 ms; it leads with it.
abbrev pub gathered5 : State
gathered5 = candidate_with (kept 2 0 0 []) hub1_alone (record { ballot = 1; command = buzz_for 5 } ∷ [])

abbrev pub leads5 : State
leads5 = leader_with (kept 2 2 0 (entry_for 2 5 ∷ [])) (confirmed 1 0)

-- Hub 1 leads with a buzz of 1 ms.
abbrev pub holds1 : State
holds1 = with_one (buzz_for 1)

abbrev pub append1 : List ℕ
append1 =
    ascii "type=append\nterm=1\nfrom=1\nto=2\nprev=0\nprevterm=0\nchosen=0\ncount=1\nentry=1:00030001000000013f00000000000000\n"

unfoldable pub proposals : List CaseRow
proposals =
    -- 19 and 20 ms, buzz and ramp; a stop
    refuses10 (buzz_for 19)
    ∷ takes (buzz_for 20)
    ∷ refuses10 (ramp_for 19)
    ∷ takes (ramp_for 20)
    ∷ takes a_stop
    -- 8 before 10; 10 before 11
    ∷ refused 8 2 2 (follower_with (kept 1 1 0 (buzz_entry 1 ∷ []))) (command_bytes (buzz_for 19)) 8
    ∷ refused 10 1 2 full_leader (command_bytes (buzz_for 19)) 10
    -- an append that brings 1 ms is taken
    ∷ does 0 2 5 (follower_with (kept 1 0 0 [])) append1 (follower_with (kept 1 1 0 (entry_for 1 1 ∷ [])))
    (ascii "type=append-yes\nterm=1\nfrom=2\nto=1\nend=1\n")
    -- a leader that holds 1 ms sends it
    ∷ does 0 1 3 holds1 [] holds1 append1
    -- a candidate that gathered 5 ms leads with it
    ∷ does 0 1 5 gathered5 (ascii "type=vote-yes\nterm=2\nfrom=2\nto=1\nlast=0\nballot=0\ncount=0\n") leads5 []
    ∷ []

-- Every example comes out so.
pub record ProposalsHold : Type 0 where
  pub steps : AllHold proposals
  -- The duration counts whole: the low bytes of these are 0 and 19.
  pub low_0 : proposable (buzz_for 256) ≡ true
  pub low_19 : proposable (ramp_for 275) ≡ true
  -- Alone, 1 ms is read and written.
  pub reads : is_command (command_bytes (buzz_for 1)) ≡ true
  pub writes : command_written (buzz_for 1) (replicate 16 255) ≡ record { outcome = done; out = command_bytes (buzz_for 1) }
