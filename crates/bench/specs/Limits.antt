-- A log's last place and a text's room (rules R4, R5 and R45), by examples on both sides of each. The case of a row is its outcome. Assumes nothing.
use Rattle.std.specs.Prelude.{ℕ, ◌+◌, List, [], ◌∷◌, ◌++◌, replicate}
use Rattle.text.specs.Ascii.{ascii}
use Rattle.state.specs.State.{State, fresh}
use Rattle.rules.specs.Row.{CaseRow, AllHold}
use Rattle.rules.specs.Samples.{buzz_bytes, ms250, half_gain, buzz_entry, kept, follower_with, candidate_with, leader_with, hub1_alone, confirmed, elected, leader_of, does, refused}

-- A row with another size of output.
abbrev pub room_for : ℕ → CaseRow → CaseRow
room_for n r =
    record {
      case = r.case;
      who = r.who;
      event = r.event;
      a = r.a;
      b = r.b;
      state = r.state;
      input = r.input;
      room = n;
      outcome = r.outcome;
      next = r.next;
      message = r.message;
    }

-- ---- hubs

-- A follower of term 2 with n entries of term 1, at this ballot.
abbrev pub holds_at : ℕ → ℕ → State
holds_at ballot n = follower_with (kept 2 ballot 0 (replicate n (buzz_entry 1)))

-- Hub 1 stands for term 2 with n entries; and leads with them and one more, which it gathered.
abbrev pub asks_with : ℕ → State
asks_with n = candidate_with (kept 2 1 0 (replicate n (buzz_entry 1))) hub1_alone []

abbrev pub led_by : ℕ → State
led_by n = leader_with (kept 2 2 0 (replicate n (buzz_entry 1) ++ (buzz_entry 2 ∷ []))) (confirmed (n + 1) 0)

-- ---- texts

-- An entry line of term 1.
abbrev pub line : List ℕ
line = ascii "entry=1:00030001000000fa3f00000000000000\n"

unfoldable pub limits : List CaseRow
limits =
    -- 256 entries are no end
    does 0 1 2 (leader_of 256) (buzz_bytes ms250 half_gain) (leader_of 257) []
    -- prev and count: to the last place, and one beyond
    ∷ does 0 2 5 (holds_at 1 1_023)
    (ascii "type=append\nterm=2\nfrom=1\nto=2\nprev=1023\nprevterm=1\nchosen=0\ncount=1\n" ++ line)
    (holds_at 2 1_024)
    (ascii "type=append-yes\nterm=2\nfrom=2\nto=1\nend=1024\n")
    ∷ refused 4 2 5 (holds_at 1 1_023)
    (ascii "type=append\nterm=2\nfrom=1\nto=2\nprev=1023\nprevterm=1\nchosen=0\ncount=2\n" ++ (line ++ line)) 4
    ∷ refused 4 2 5 fresh (ascii "type=append\nterm=2\nfrom=1\nto=2\nprev=1025\nprevterm=1\nchosen=0\ncount=0\n") 4
    -- last
    ∷ does 0 2 5 fresh (ascii "type=vote-request\nterm=2\nfrom=1\nto=0\nlast=1024\nballot=1\n") (follower_with (kept 2 0 0 []))
    (ascii "type=vote-yes\nterm=2\nfrom=2\nto=1\nlast=1024\nballot=0\ncount=0\n")
    ∷ refused 4 2 5 fresh (ascii "type=vote-request\nterm=2\nfrom=1\nto=0\nlast=1025\nballot=1\n") 4
    -- last and count: gathered to the last place, and one beyond
    ∷ does 0 1 5 (asks_with 1_023) (ascii "type=vote-yes\nterm=2\nfrom=2\nto=1\nlast=1023\nballot=1\ncount=1\n" ++ line) (led_by 1_023) []
    ∷ refused 4 1 5 (asks_with 1_023) (ascii "type=vote-yes\nterm=2\nfrom=2\nto=1\nlast=1023\nballot=1\ncount=2\n" ++ (line ++ line)) 4
    -- end and length
    ∷ refused 7 1 5 elected (ascii "type=append-yes\nterm=1\nfrom=2\nto=1\nend=1024\n") 7
    ∷ refused 4 1 5 elected (ascii "type=append-yes\nterm=1\nfrom=2\nto=1\nend=1025\n") 4
    ∷ refused 13 1 5 elected (ascii "type=append-no\nterm=1\nfrom=2\nto=1\nlength=1024\n") 13
    ∷ refused 4 1 5 elected (ascii "type=append-no\nterm=1\nfrom=2\nto=1\nlength=1025\n") 4
    -- a byte less of output, at each of the five events; what the event would say does not matter
    ∷ room_for 65_535 (refused 3 1 1 fresh [] 3)
    ∷ room_for 65_535 (refused 3 1 2 elected (buzz_bytes ms250 half_gain) 3)
    ∷ room_for 65_535 (refused 3 1 3 elected [] 3)
    ∷ room_for 65_535 (refused 3 1 4 fresh [] 3)
    ∷ room_for 65_535 (refused 3 1 5 fresh [] 3)
    -- and a byte more than is needed
    ∷ room_for 65_537 (does 0 1 4 elected [] (follower_with (kept 1 1 0 [])) [])
    ∷ []

-- Every example comes out so.
abbrev pub LimitsHold : Type 0
LimitsHold = AllHold limits
