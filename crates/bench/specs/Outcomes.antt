-- An example of every row of the table of outcomes (rule R32), of both stale replies (R34), and of the four shortcuts that break a home (R40).
-- The case of a row is the outcome that it is an example of. Assumes nothing.
use Rattle.std.specs.Prelude.{ℕ, ◌≤◌, true, false, List, [], ◌∷◌, ◌++◌, ◌≡◌, pos, negsuc, length, replicate, drop}
use Rattle.kinds.specs.Event.{start_number, restart_number}
use Rattle.kinds.specs.Outcome.{done, bad_state}
use Rattle.kinds.specs.Sizes.{text_room}
use Rattle.text.specs.Ascii.{ascii}
use Rattle.state.specs.State.{State, fresh}
use Rattle.state.specs.Image.{image}
use Rattle.rules.specs.Row.{CaseRow, AllHold}
use Rattle.rules.specs.Step.{Call, refusal, step_of}
use Rattle.rules.specs.Samples.{buzz, buzzing, buzz_bytes, ms250, half_gain, buzz_entry, kept, follower_with, candidate_with, leader_with, hub1_alone, confirmed, elected, whole_append, yes_text, step_row, does, refused}

-- Hub 1 stands for term 5 with one entry at ballot 1; hub 2 follows at term 5; hub 1 leads term 5 with two entries.
abbrev pub a_candidate : State
a_candidate = candidate_with (kept 5 1 0 (buzz_entry 1 ∷ [])) hub1_alone []

abbrev pub a_follower : State
a_follower = follower_with (kept 5 1 0 (buzz_entry 1 ∷ []))

abbrev pub a_leader : State
a_leader = leader_with (kept 5 5 0 (buzz_entry 1 ∷ buzz_entry 5 ∷ [])) (confirmed 2 1)

-- Two of five voters have been seen, and one command was gathered at ballot 2.
abbrev pub five : State
five = candidate_with (kept 5 3 0 []) (true ∷ true ∷ replicate 5 false) (record { ballot = 2; command = buzz } ∷ [])

-- Hub 2 follows the leader of term 5 and has two of its entries.
abbrev pub keeps_up : State
keeps_up = follower_with (kept 5 5 0 (buzz_entry 1 ∷ buzz_entry 5 ∷ []))

-- The home of the first shortcut: entry terms 1 and 2 at ballot 4.
abbrev pub chosen_two : State
chosen_two = follower_with (kept 4 4 2 (buzz_entry 1 ∷ buzz_entry 2 ∷ []))

unfoldable pub examples : List CaseRow
examples =
    -- 0: a higher term makes the hub its follower, whatever follows
    does 0 1 5 a_leader (ascii "type=append-no\nterm=6\nfrom=2\nto=1\nlength=0\n") (follower_with (kept 6 5 0 (buzz_entry 1 ∷ buzz_entry 5 ∷ []))) []
    -- 0: of two gathered pairs the greater ballot stays, and a majority leads
    ∷ step_row 0 1 5 5 0 0 five
    (ascii "type=vote-yes\nterm=5\nfrom=3\nto=1\nlast=0\nballot=3\ncount=2\nentry=2:00030001000000010000000000000000\nentry=2:00030000000000000000000000000000\n") 0
    (leader_with
    (kept 5 5 0
    (record { term = 5; command = buzzing (pos 1) 0 }
    ∷ record { term = 5; command = record { motor = 3; kind = 0; duration = pos 0; a = 0; b = 0 } }
    ∷ []))
    (confirmed 2 0)) []
    -- 0: the held one if equal
    ∷ step_row 0 1 7 5 0 0 five
    (ascii "type=vote-yes\nterm=5\nfrom=3\nto=1\nlast=0\nballot=2\ncount=1\nentry=2:00030001000000010000000000000000\n") 0
    (candidate_with (kept 5 3 0 []) (true ∷ true ∷ true ∷ replicate 4 false) (record { ballot = 2; command = buzz } ∷ [])) []
    -- 0: at its own ballot a log that goes beyond an append stays, and chosen follows
    ∷ does 0 2 5 keeps_up
    (ascii "type=append\nterm=5\nfrom=1\nto=2\nprev=0\nprevterm=0\nchosen=1\ncount=1\nentry=1:00030001000000fa3f00000000000000\n")
    (follower_with (kept 5 5 1 (buzz_entry 1 ∷ buzz_entry 5 ∷ [])))
    (ascii "type=append-yes\nterm=5\nfrom=2\nto=1\nend=1\n")
    -- 0: entries after prev join it
    ∷ does 0 2 5 keeps_up
    (ascii "type=append\nterm=5\nfrom=1\nto=2\nprev=2\nprevterm=5\nchosen=3\ncount=1\nentry=5:00030001000000fa3f00000000000000\n")
    (follower_with (kept 5 5 3 (buzz_entry 1 ∷ buzz_entry 5 ∷ buzz_entry 5 ∷ [])))
    (ascii "type=append-yes\nterm=5\nfrom=2\nto=1\nend=3\n")
    -- 0: a prev beyond the log, and one of another term, do not fit
    ∷ does 0 2 5 keeps_up (ascii "type=append\nterm=5\nfrom=1\nto=2\nprev=3\nprevterm=5\nchosen=0\ncount=0\n") keeps_up
    (ascii "type=append-no\nterm=5\nfrom=2\nto=1\nlength=2\n")
    ∷ does 0 2 5 keeps_up (ascii "type=append\nterm=5\nfrom=1\nto=2\nprev=2\nprevterm=4\nchosen=0\ncount=0\n") keeps_up
    (ascii "type=append-no\nterm=5\nfrom=2\nto=1\nlength=2\n")
    -- 1
    ∷ step_row 1 1 4 1 0 0 fresh [] 1 fresh []
    ∷ step_row 1 4 3 1 0 0 fresh [] 1 fresh []
    ∷ step_row 1 0 3 1 0 0 fresh [] 1 fresh []
    ∷ step_row 1 1 3 6 0 0 fresh [] 1 fresh []
    ∷ step_row 1 1 3 0 0 0 fresh [] 1 fresh []
    -- 2 stands below, 3 in Limits
    -- 4: a leading zero; a line too many; no text at all; a prevterm without a prev; an illegal command
    ∷ refused 4 1 5 fresh (ascii "type=vote-no\nterm=01\nfrom=2\nto=1\n") 4
    ∷ refused 4 1 5 fresh (ascii "type=vote-no\nterm=1\nfrom=2\nto=1\n\n") 4
    ∷ refused 4 1 5 fresh [] 4
    ∷ refused 4 1 5 fresh (ascii "type=append\nterm=1\nfrom=2\nto=1\nprev=0\nprevterm=1\nchosen=0\ncount=0\n") 4
    ∷ refused 4 2 5 fresh
    (ascii "type=append\nterm=1\nfrom=1\nto=2\nprev=0\nprevterm=0\nchosen=0\ncount=1\nentry=1:00030001ffffffff3f00000000000000\n") 4
    -- 5: from above N; from the hub itself; to another
    ∷ refused 5 1 5 fresh (ascii "type=vote-no\nterm=1\nfrom=4\nto=1\n") 5
    ∷ refused 5 1 5 fresh (ascii "type=vote-no\nterm=1\nfrom=1\nto=1\n") 5
    ∷ refused 5 1 5 fresh (ascii "type=vote-no\nterm=1\nfrom=2\nto=3\n") 5
    -- 6: a vote-request below own term and at it, an append below it, and one that gets no reply
    ∷ step_row 6 2 3 5 0 0 a_follower (ascii "type=vote-request\nterm=4\nfrom=1\nto=0\nlast=9\nballot=3\n") 6 a_follower
    (ascii "type=vote-no\nterm=5\nfrom=2\nto=1\n")
    ∷ step_row 6 2 3 5 0 0 a_follower (ascii "type=vote-request\nterm=5\nfrom=1\nto=0\nlast=9\nballot=3\n") 6 a_follower
    (ascii "type=vote-no\nterm=5\nfrom=2\nto=1\n")
    ∷ step_row 6 2 3 5 0 0 a_follower whole_append 6 a_follower (ascii "type=append-no\nterm=5\nfrom=2\nto=1\nlength=1\n")
    ∷ refused 6 1 5 a_leader yes_text 6
    -- 7: append at a leader; append-yes beyond a leader's length; vote-yes with another last, and with a ballot above the candidate's own
    ∷ refused 7 1 5 a_leader (ascii "type=append\nterm=5\nfrom=2\nto=1\nprev=0\nprevterm=0\nchosen=0\ncount=0\n") 7
    ∷ refused 7 1 5 a_leader (ascii "type=append-yes\nterm=5\nfrom=2\nto=1\nend=3\n") 7
    ∷ refused 7 1 5 a_candidate (ascii "type=vote-yes\nterm=5\nfrom=2\nto=1\nlast=0\nballot=1\ncount=0\n") 7
    ∷ refused 7 1 5 a_candidate (ascii "type=vote-yes\nterm=5\nfrom=2\nto=1\nlast=1\nballot=2\ncount=0\n") 7
    -- 8
    ∷ refused 8 1 1 a_leader [] 8
    ∷ refused 8 2 2 a_follower (buzz_bytes ms250 half_gain) 8
    ∷ refused 8 1 3 a_candidate [] 8
    -- 9
    ∷ refused 9 1 1 (candidate_with (kept 4_294_967_295 1 0 (buzz_entry 1 ∷ [])) hub1_alone []) [] 9
    -- 10: not 16 bytes; motor 0
    ∷ refused 10 1 2 elected (drop 1 (buzz_bytes ms250 half_gain)) 10
    ∷ refused 10 1 2 elected (0 ∷ 0 ∷ drop 2 (buzz_bytes ms250 half_gain)) 10
    -- 11 is case 9. 12: to a number outside 1..N; to itself; prev above length
    ∷ step_row 12 1 3 3 4 0 a_leader [] 12 a_leader []
    ∷ step_row 12 1 3 3 1 0 a_leader [] 12 a_leader []
    ∷ step_row 12 1 3 3 2 3 a_leader [] 12 a_leader []
    -- 13: vote-no and append-no of own term; an append-yes that is not greater than recorded
    ∷ refused 13 1 5 a_candidate (ascii "type=vote-no\nterm=5\nfrom=2\nto=1\n") 13
    ∷ refused 13 1 5 a_leader (ascii "type=append-no\nterm=5\nfrom=2\nto=1\nlength=0\n") 13
    ∷ refused 13 1 5 a_leader (ascii "type=append-yes\nterm=5\nfrom=2\nto=1\nend=1\n") 13
    -- the shortcuts: 2 < 3 would say yes, and ballot 4 > 3 says no
    ∷ step_row 0 2 5 5 0 0 chosen_two (ascii "type=vote-request\nterm=5\nfrom=1\nto=0\nlast=2\nballot=3\n") 0
    (follower_with (kept 5 4 2 (buzz_entry 1 ∷ buzz_entry 2 ∷ [])))
    (ascii "type=vote-no\nterm=5\nfrom=2\nto=1\n")
    -- a longer log is not cut (and see case 12)
    ∷ does 0 2 5 chosen_two (ascii "type=append\nterm=5\nfrom=1\nto=2\nprev=1\nprevterm=1\nchosen=0\ncount=0\n")
    (follower_with (kept 5 4 2 (buzz_entry 1 ∷ buzz_entry 2 ∷ [])))
    (ascii "type=append-no\nterm=5\nfrom=2\nto=1\nlength=2\n")
    -- a voter's repeated vote-yes is not counted twice
    ∷ step_row 13 1 5 5 0 0 five (ascii "type=vote-yes\nterm=5\nfrom=2\nto=1\nlast=0\nballot=0\ncount=0\n") 13 five []
    ∷ []

-- ---- bytes that are no legal state's image

-- Hub h of three takes an event at these bytes.
pub record BytesRow : Type 0 where
  pub hub : ℕ
  pub event : ℕ
  pub bytes : List ℕ

abbrev pub at : ℕ → ℕ → List ℕ → BytesRow
at h event bytes = record { hub = h; event = event; bytes = bytes }

-- The call, with whatever else comes in.
abbrev pub call_at : BytesRow → List ℕ → List ℕ → Call
call_at r input output =
    record { who = record { size = 3; own = r.hub }; event = r.event; a = 2; b = 0; state = r.bytes; input = input; output = output }

-- It is refused with 2, and leaves every lent byte.
abbrev pub BadState : BytesRow → Type 0
BadState r = (input output : List ℕ) → step_of (call_at r input output) ≡ refusal (call_at r input output) bad_state

abbrev pub AllBad : List BytesRow → Type 0
AllBad [] = Unit {0}
AllBad (r ∷ rs) = BadState r × AllBad rs

-- A fresh hub's bytes with others in place of its first.
abbrev pub fresh_behind : List ℕ → List ℕ
fresh_behind front = front ++ drop (length front) (image fresh)

unfoldable pub bad_bytes : List BytesRow
bad_bytes =
    -- ballot above term; a byte too many; one too few; a byte set behind the log; no role 3; a voter of 2
    at 1 start_number (image (follower_with (kept 1 2 0 [])))
    ∷ at 1 start_number (image fresh ++ (0 ∷ []))
    ∷ at 1 start_number (drop 1 (image fresh))
    ∷ at 1 start_number (drop 1 (image fresh) ++ (1 ∷ []))
    ∷ at 1 start_number (fresh_behind (replicate 20 0 ++ (3 ∷ [])))
    ∷ at 1 start_number (fresh_behind (replicate 20 0 ++ (1 ∷ 2 ∷ [])))
    -- a candidate that is not among its voters; a leader's own confirmed length that is not its length; a restart of an illegal log
    ∷ at 2 start_number (image a_candidate)
    ∷ at 2 start_number (image a_leader)
    ∷ at 1 restart_number (image (follower_with (kept 1 1 0 (buzz_entry 1 ∷ buzz_entry 0 ∷ []))))
    -- ffffffff is minus one (see case 10), also in a state
    ∷ at 1 start_number (image (follower_with (kept 1 1 0 (record { term = 1; command = buzzing (negsuc 0) 0 } ∷ []))))
    ∷ []

-- A leader to whom hub 1 has confirmed more than there is, which is no legal state; and the follower that a restart makes of it: it sees the kept parts
-- alone, whatever stands in the lost ones.
abbrev pub scrambled : State
scrambled = leader_with (kept 5 1 1 (buzz_entry 1 ∷ [])) (confirmed 200 0)

abbrev pub comes_back : State
comes_back = follower_with (kept 5 1 1 (buzz_entry 1 ∷ []))

abbrev pub ScrambledComesBack : Type 0
ScrambledComesBack =
    (input output : List ℕ) → text_room ≤ length output
    → step_of (call_at (at 1 restart_number (image scrambled)) input output)
    ≡ record { outcome = done; wrote = 0; state = image comes_back; output = output }

-- Every example comes out so.
pub record ExamplesHold : Type 0 where
  pub rows : AllHold examples
  pub bytes : AllBad bad_bytes
  pub restart : ScrambledComesBack
