-- The twelve cases from the test bench (rule R39), in one table and one statement. Assumes nothing.
use Rattle.std.specs.Prelude.{ℕ, List, [], ◌∷◌, pos}
use Rattle.text.specs.Ascii.{ascii}
use Rattle.state.specs.State.{State, fresh}
use Rattle.rules.specs.Row.{CaseRow, AllHold}
use Rattle.rules.specs.Samples.{
  buzz,
  buzzing,
  buzz_bytes,
  ms250,
  half_gain,
  buzz_entry,
  kept,
  follower_with,
  candidate_with,
  leader_with,
  hub1_alone,
  confirmed,
  elected,
  with_one,
  leader_of,
  whole_append,
  yes_text,
  end_text,
  does,
  refused,
}

-- The request of case 1.
abbrev pub request : List ℕ
request = ascii "type=vote-request\nterm=1\nfrom=1\nto=0\nlast=0\nballot=0\n"

-- Hub 1 has asked, and hub 2 has the entry of the whole append.
abbrev pub first_candidate : State
first_candidate = candidate_with (kept 1 0 0 []) hub1_alone []

abbrev pub holding : State
holding = follower_with (kept 1 1 0 (buzz_entry 1 ∷ []))

-- Case 12's follower, at the term before or after the append, with this ballot.
abbrev pub two_held : ℕ → ℕ → State
two_held term ballot = follower_with (kept term ballot 0 (buzz_entry 1 ∷ buzz_entry 1 ∷ []))

-- Case, hub, event, state, input; next state, message or the outcome.
unfoldable pub case_table : List CaseRow
case_table =
    does 1 1 1 fresh [] first_candidate request
    ∷ does 2 2 5 fresh request (follower_with (kept 1 0 0 [])) yes_text
    ∷ does 3 1 5 first_candidate yes_text elected []
    ∷ refused 4 1 5 elected yes_text 13
    ∷ does 5 2 5 (follower_with (kept 1 0 0 [])) whole_append holding end_text
    ∷ does 6 2 5 holding whole_append holding end_text
    ∷ does 7 1 2 elected (buzz_bytes ms250 half_gain) (with_one buzz) []
    ∷ does 7 1 3 (with_one buzz) [] (with_one buzz) whole_append
    ∷ does 7 1 5 (with_one buzz) end_text (leader_with (kept 1 1 1 (buzz_entry 1 ∷ [])) (confirmed 1 1)) []
    ∷ does 8 1 1 (follower_with (kept 4_294_967_294 0 0 [])) [] (candidate_with (kept 4_294_967_295 0 0 []) hub1_alone [])
    (ascii "type=vote-request\nterm=4294967295\nfrom=1\nto=0\nlast=0\nballot=0\n")
    ∷ refused 8 1 1 (follower_with (kept 4_294_967_295 0 0 [])) [] 9
    ∷ does 9 1 2 (leader_of 1_023) (buzz_bytes ms250 half_gain) (leader_of 1_024) []
    ∷ refused 9 1 2 (leader_of 1_024) (buzz_bytes ms250 half_gain) 11
    ∷ does 10 1 2 elected (buzz_bytes (0 ∷ 0x09 ∷ 0x27 ∷ 0xc0 ∷ []) half_gain) (with_one (buzzing (pos 600_000) 0x3f00_0000)) []
    ∷ refused 10 1 2 elected (buzz_bytes (0 ∷ 0x09 ∷ 0x27 ∷ 0xc1 ∷ []) half_gain) 10
    ∷ refused 10 1 2 elected (buzz_bytes (0xff ∷ 0xff ∷ 0xff ∷ 0xff ∷ []) half_gain) 10
    ∷ does 11 1 2 elected (buzz_bytes ms250 (0x3f ∷ 0x80 ∷ 0 ∷ 0 ∷ [])) (with_one (buzzing (pos 250) 0x3f80_0000)) []
    ∷ refused 11 1 2 elected (buzz_bytes ms250 (0x3f ∷ 0x80 ∷ 0 ∷ 1 ∷ [])) 10
    ∷ refused 11 1 2 elected (buzz_bytes ms250 (0x80 ∷ 0 ∷ 0 ∷ 0 ∷ [])) 10
    ∷ does 12 2 5 (two_held 1 1)
    (ascii "type=append\nterm=2\nfrom=1\nto=2\nprev=0\nprevterm=0\nchosen=0\ncount=1\nentry=1:00030001000000fa3f00000000000000\n")
    (two_held 2 1)
    (ascii "type=append-no\nterm=2\nfrom=2\nto=1\nlength=2\n")
    ∷ does 12 2 5 (two_held 1 1)
    (ascii "type=append\nterm=2\nfrom=1\nto=2\nprev=0\nprevterm=0\nchosen=0\ncount=2\nentry=1:00030001000000fa3f00000000000000\nentry=1:00030001000000fa3f00000000000000\n")
    (two_held 2 2)
    (ascii "type=append-yes\nterm=2\nfrom=2\nto=1\nend=2\n")
    ∷ []

-- Every one of the twelve cases comes out as rule R39 has it.
abbrev pub CasesHold : Type 0
CasesHold = AllHold case_table
