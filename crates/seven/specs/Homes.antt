-- Three homes that get there: the three hubs of Steps; five, of whom hub 4 asks hubs 2 and 5, and hub 2 has led in vain: it holds nothing, and its
-- ballot is above that of hub 4; and three fresh ones. Assumes nothing.
use Rattle.std.specs.Prelude.{ℕ, List, [], ◌∷◌, replicate}
use Rattle.kinds.specs.Sizes.{Group, text_room}
use Rattle.command.specs.Command.{Command}
use Rattle.state.specs.State.{State, fresh}
use Rattle.state.specs.Image.{image}
use Rattle.rules.specs.Samples.{kept, follower_with, leader_with}
use Rattle.paxos.specs.Put.{put}
use Rattle.paxos.specs.Paxos.{History, Chosen}
use Rattle.engine.specs.Engine.{machine_of}
use Rattle.engine.specs.Home.{fresh_home, after_all}
use Rattle.engine.specs.Safe.{Explains}
use Rattle.home.specs.Hub.{hub_engine, HomeOfHubs}
use Rattle.reaches.specs.Run.{starts, proposes, sends_to, hears, Turn, quiet, deeds_of}
use Rattle.reaches.specs.Reaches.{turn, Schedule, Arrives}
use Rattle.reaches.specs.Phases.{phases}
use Rattle.seven.specs.Steps as trio
use Rattle.seven.specs.Steps.{buzz_of, entry_of, bytes}

-- The seven deeds that Steps has worked out.
abbrev pub ThreeGetThere : Type 0
ThreeGetThere = Arrives trio.trio trio.home 1 (2 ∷ []) 4 (buzz_of 7) trio.deeds

-- ---- five hubs

-- A group of five; hubs 1 and 3 are fresh, and have no part in it.
abbrev pub five : Group
five = record { size = 5 }

-- Hub 4 follows at term 6, with two entries and ballot 2; hub 2 leads that term and has none; hub 5 follows at term 3, with one.
abbrev pub states : ℕ → State
states =
    put
    (put
    (put (λ h. fresh) 2 (leader_with (kept 6 6 0 []) (replicate 7 0)))
    4 (follower_with (kept 6 2 1 (entry_of 1 1 ∷ entry_of 2 2 ∷ []))))
    5 (follower_with (kept 3 2 0 (entry_of 2 3 ∷ [])))

-- Their home, in which nothing was written yet.
abbrev pub home : HomeOfHubs
home = record { stored = λ h. image (states h); sent = []; orders = [] }

-- In whatever order the turns come.
abbrev pub FiveGetThere : Type 0
FiveGetThere =
    (ts : List Turn) → Schedule 4 (2 ∷ 5 ∷ []) bytes ts
    → Arrives five home 4 (2 ∷ 5 ∷ []) 3 (buzz_of 7) (deeds_of five (λ n. replicate text_room 0) (quiet home) ts)

-- One order that is not phase by phase: hub 5 is heard before hub 2 is asked, and hub 2 confirms while hub 5 has not been sent to.
abbrev pub mixed_turns : List Turn
mixed_turns =
    turn 4 starts 0
    ∷ turn 5 (hears 0) 5
    ∷ turn 4 (hears 5) 5
    ∷ turn 2 (hears 0) 2
    ∷ turn 4 (hears 2) 2
    ∷ turn 4 (proposes bytes) 0
    ∷ turn 4 (sends_to 2) 2
    ∷ turn 2 (hears 2) 2
    ∷ turn 4 (sends_to 5) 5
    ∷ turn 4 (hears 2) 2
    ∷ turn 5 (hears 5) 5
    ∷ turn 4 (hears 5) 5
    ∷ []

-- It is one.
abbrev pub TheyMayMix : Type 0
TheyMayMix = Schedule 4 (2 ∷ 5 ∷ []) bytes mixed_turns

-- ---- fresh hubs

-- Hub 1 of three fresh ones asks hub 2: the home that this comes to started fresh, and the command is chosen in a history that explains it.
abbrev pub FreshChoose : Type 0
FreshChoose =
    let ds = deeds_of trio.trio (λ n. replicate text_room 0) (quiet (fresh_home hub_engine)) (phases 1 trio.orders bytes) in
    (s : History Command)
    × Explains hub_engine trio.trio (after_all hub_engine trio.trio (fresh_home hub_engine) ds) s
    × Chosen (machine_of hub_engine trio.trio) s 1 (buzz_of 7)
