-- Seven steps, worked out on bytes and texts: three hubs with different logs, of whom hub 1 asks hub 2. Assumes nothing.
use Rattle.std.specs.Prelude.{ℕ, ◌≡◌, refl, List, [], ◌∷◌, ◌++◌, map, pos, replicate}
use Rattle.std.proofs.Math.Option.{Option, some}
use Rattle.kinds.specs.Sizes.{Group, hub_of, text_room}
use Rattle.text.specs.Ascii.{ascii}
use Rattle.command.specs.Command.{Command}
use Rattle.command.specs.Entry.{Entry}
use Rattle.state.specs.State.{State, fresh}
use Rattle.state.specs.Image.{image, read_state}
use Rattle.rules.specs.Samples.{ms250, half_gain, kept, follower_with, leader_with, confirmed}
use Rattle.rules.specs.Outcome.{done}
use Rattle.rules.specs.Step.{step_of}
use Rattle.paxos.specs.Put.{put}
use Rattle.engine.specs.Home.{after_all}
use Rattle.home.specs.Hub.{Deed, call_for, hub_engine, HomeOfHubs}
use Rattle.reaches.specs.Run.{quiet, deeds_of}
use Rattle.reaches.specs.Phases.{Order, Orders, phases}

-- ---- before

-- A buzz of 250 ms at half gain, of this motor; and as an entry of this term.
abbrev pub buzz_of : ℕ → Command
buzz_of motor = record { motor = motor; kind = 1; duration = pos 250; a = 0x3f00_0000; b = 0 }

abbrev pub entry_of : ℕ → ℕ → Entry
entry_of term motor = record { term = term; command = buzz_of motor }

-- Hub 1 follows at term 3, with one entry and ballot 2. Hub 2 leads term 2 with three, none of them that of hub 1. Hub 3 has no part in it.
abbrev pub states : ℕ → State
states =
    put
    (put
    (put (λ h. fresh) 1 (follower_with (kept 3 2 1 (entry_of 1 1 ∷ []))))
    2 (leader_with (kept 2 2 0 (entry_of 1 2 ∷ entry_of 2 3 ∷ entry_of 2 4 ∷ [])) (confirmed 1 3)))
    3 (follower_with (kept 5 1 0 (entry_of 1 5 ∷ entry_of 1 6 ∷ [])))

-- A group of three, in a home where nothing was written yet.
abbrev pub trio : Group
trio = record { size = 3 }

abbrev pub home : HomeOfHubs
home = record { stored = λ h. image (states h); sent = []; orders = [] }

-- ---- the run

-- One other has one order.
abbrev pub alone : Order (2 ∷ [])
alone = record { hubs = 2 ∷ []; once = (λ m. elim m [ ], tt); as_many = refl; same = λ g. (λ m. m, λ m. m) }

abbrev pub orders : Orders (2 ∷ [])
orders = record { asked = alone; answering = alone; sent = alone; taking = alone; confirming = alone }

-- The command, a buzz of motor 7.
abbrev pub bytes : List ℕ
bytes = 0 ∷ 7 ∷ 0 ∷ 1 ∷ (ms250 ++ (half_gain ++ (0 ∷ 0 ∷ 0 ∷ 0 ∷ [])))

-- The seven deeds.
abbrev pub deeds : List Deed
deeds = deeds_of trio (λ n. replicate text_room 0) (quiet home) (phases 1 orders bytes)

-- ---- after

-- What is looked at: the outcome of each step, all texts that were written, the last first, and each hub's state.
pub record Shown : Type 0 where
  pub outcomes : List ℕ
  pub sent : List (List ℕ)
  pub hub_1 : Option State
  pub hub_2 : Option State
  pub hub_3 : Option State

-- Of these deeds.
abbrev pub shown : List Deed → Shown
shown ds =
    let H = after_all hub_engine trio home ds in
    record {
      outcomes = map (λ d. (step_of (call_for trio d)).outcome) ds;
      sent = H.sent;
      hub_1 = read_state (hub_of trio 1) (H.stored 1);
      hub_2 = read_state (hub_of trio 2) (H.stored 2);
      hub_3 = read_state (hub_of trio 3) (H.stored 3);
    }

-- The log that hubs 1 and 2 have then.
abbrev pub log : List Entry
log = entry_of 1 1 ∷ entry_of 4 3 ∷ entry_of 4 4 ∷ entry_of 4 7 ∷ []

-- Hub 1 leads, and all of its log is chosen; hub 2 follows, and has heard of one chosen place; hub 3 is as it was.
abbrev pub SevenSteps : Type 0
SevenSteps =
    shown deeds
    ≡ record {
      outcomes = done ∷ done ∷ done ∷ done ∷ done ∷ done ∷ done ∷ [];
      sent =
          ascii "type=append-yes\nterm=4\nfrom=2\nto=1\nend=4\n"
          ∷ (ascii "type=append\nterm=4\nfrom=1\nto=2\nprev=0\nprevterm=0\nchosen=1\ncount=4\n"
          ++ (ascii "entry=1:00010001000000fa3f00000000000000\nentry=4:00030001000000fa3f00000000000000\n"
          ++ ascii "entry=4:00040001000000fa3f00000000000000\nentry=4:00070001000000fa3f00000000000000\n"))
          ∷ (ascii "type=vote-yes\nterm=4\nfrom=2\nto=1\nlast=1\nballot=2\ncount=2\n"
          ++ ascii "entry=2:00030001000000fa3f00000000000000\nentry=2:00040001000000fa3f00000000000000\n")
          ∷ ascii "type=vote-request\nterm=4\nfrom=1\nto=0\nlast=1\nballot=2\n"
          ∷ [];
      hub_1 = some (leader_with (kept 4 4 4 log) (confirmed 4 4));
      hub_2 = some (follower_with (kept 4 4 1 log));
      hub_3 = some (states 3);
    }
