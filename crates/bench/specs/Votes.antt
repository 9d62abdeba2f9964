-- The answer to a vote-request (rules R22 and R44), by examples: a hub whose log is empty says yes and tells ballot 0, whatever its own; one
-- that holds an entry compares. The case of a row is its outcome. Assumes nothing.
use Rattle.std.specs.Prelude.{ℕ, true, false, List, [], ◌∷◌, replicate}
use Rattle.text.specs.Ascii.{ascii}
use Rattle.state.specs.State.{State}
use Rattle.rules.specs.Row.{CaseRow, AllHold}
use Rattle.rules.specs.Samples.{buzz, buzz_entry, kept, follower_with, candidate_with, leader_with, hub1_alone, confirmed, step_row, does}

-- ---- hubs

-- A follower of a term, with ballot 5 and an empty log, or with one entry.
abbrev pub empty_at : ℕ → State
empty_at term = follower_with (kept term 5 0 [])

abbrev pub one_at : ℕ → State
one_at term = follower_with (kept term 5 0 (buzz_entry 5 ∷ []))

-- Hub 2 stands for term 6 with ballot 5; its log is empty, and it has gathered a command.
abbrev pub has_gathered : State
has_gathered = candidate_with (kept 6 5 0 []) (false ∷ true ∷ replicate 5 false) (record { ballot = 4; command = buzz } ∷ [])

-- ---- texts

-- Hub 1 asks at term 6 with ballot 0, and at term 8 with ballot 7.
abbrev pub asks_with0 : List ℕ
asks_with0 = ascii "type=vote-request\nterm=6\nfrom=1\nto=0\nlast=0\nballot=0\n"

abbrev pub asks_with7 : List ℕ
asks_with7 = ascii "type=vote-request\nterm=8\nfrom=1\nto=0\nlast=0\nballot=7\n"

-- Hub 2's yes to each, with ballot 0; and its no to the first.
abbrev pub yes_at6 : List ℕ
yes_at6 = ascii "type=vote-yes\nterm=6\nfrom=2\nto=1\nlast=0\nballot=0\ncount=0\n"

abbrev pub yes_at8 : List ℕ
yes_at8 = ascii "type=vote-yes\nterm=8\nfrom=2\nto=1\nlast=0\nballot=0\ncount=0\n"

abbrev pub no_at6 : List ℕ
no_at6 = ascii "type=vote-no\nterm=6\nfrom=2\nto=1\n"

unfoldable pub votes : List CaseRow
votes =
    -- an empty log: yes with ballot 0, also where ballot 5 would have passed; the hub's own ballot stays
    does 0 2 5 (empty_at 5) asks_with0 (empty_at 6) yes_at6
    ∷ does 0 2 5 (empty_at 5) asks_with7 (empty_at 8) yes_at8
    -- one entry: no, and yes with ballot 5
    ∷ does 0 2 5 (one_at 5) asks_with0 (one_at 6) no_at6
    ∷ does 0 2 5 (one_at 5) asks_with7 (one_at 8)
    (ascii "type=vote-yes\nterm=8\nfrom=2\nto=1\nlast=0\nballot=5\ncount=1\nentry=5:00030001000000fa3f00000000000000\n")
    -- the candidate takes the first yes, and leads
    ∷ does 0 1 5 (candidate_with (kept 6 0 0 []) hub1_alone []) yes_at6 (leader_with (kept 6 6 0 []) (confirmed 0 0)) []
    -- a candidate with an empty log asks with its own ballot
    ∷ does 0 1 1 (empty_at 5) [] (candidate_with (kept 6 5 0 []) hub1_alone []) (ascii "type=vote-request\nterm=6\nfrom=1\nto=0\nlast=0\nballot=5\n")
    -- who led for a second and stored nothing; who stands, and has gathered what is not its log
    ∷ does 0 2 5 (leader_with (kept 5 5 0 []) (replicate 7 0)) asks_with0 (empty_at 6) yes_at6
    ∷ does 0 2 5 has_gathered asks_with7 (empty_at 8) yes_at8
    -- asked by a longer log, an empty one says yes with ballot 0
    ∷ does 0 2 5 (empty_at 5) (ascii "type=vote-request\nterm=6\nfrom=1\nto=0\nlast=3\nballot=2\n") (empty_at 6)
    (ascii "type=vote-yes\nterm=6\nfrom=2\nto=1\nlast=3\nballot=0\ncount=0\n")
    -- one with an entry says no, though it has nothing behind last
    ∷ does 0 2 5 (one_at 5) (ascii "type=vote-request\nterm=6\nfrom=1\nto=0\nlast=1\nballot=2\n") (one_at 6) no_at6
    -- at its own term an empty hub still refuses with 6
    ∷ step_row 6 2 3 5 0 0 (empty_at 6) asks_with0 6 (empty_at 6) no_at6
    ∷ []

-- Every example comes out so.
abbrev pub VotesHold : Type 0
VotesHold = AllHold votes
