-- Damaged messages, and where each is wrong (rule R46): a table, and what it says. Places count from 0. Assumes nothing.
use Rattle.std.specs.Prelude.{ℕ, List, [], ◌∷◌, ◌++◌}
use Prim.Native.String.{String}
use Rattle.text.specs.Ascii.{ascii}
use Rattle.text.specs.Line.{LF}
use Rattle.text.specs.Place.{IsPlace}
use Rattle.message.specs.Place.{BeginsMessage}

-- A text, and the place of its first wrong byte.
pub record Damaged : Type 0 where
  pub text : List ℕ
  pub place : ℕ

-- Lines, each with its end.
abbrev pub lines : List String → List ℕ
lines [] = []
lines (s ∷ ss) = ascii s ++ (LF ++ lines ss)

-- Wrong at this place: these lines, and what follows them without a line's end.
abbrev wrong : ℕ → List String → String → Damaged
wrong place whole last = record { text = lines whole ++ ascii last; place = place }

-- The same, behind the first four lines of an append (31 bytes).
abbrev wrong_append : ℕ → List String → String → Damaged
wrong_append place whole last = wrong place ("type=append" ∷ "term=3" ∷ "from=1" ∷ "to=2" ∷ whole) last

-- The same, in the one entry of an append (it begins at 66, its command at 74: four digits of motor, four of kind, eight each of duration, a and b).
abbrev wrong_entry : ℕ → String → Damaged
wrong_entry place entry = wrong_append place ("prev=0" ∷ "prevterm=0" ∷ "chosen=0" ∷ "count=1" ∷ entry ∷ []) ""

-- The type: its line may end too soon, go on as no other name does, or begin another way.
abbrev pub in_type : List Damaged
in_type =
    wrong 0 [] ""
    ∷ wrong 0 ("Type=vote-no" ∷ []) ""
    ∷ wrong 5 [] "type="
    ∷ wrong 9 [] "type=votes"
    ∷ wrong 11 [] "type=append"
    ∷ wrong 11 [] "type=appends"
    ∷ wrong 12 [] "type=append-"
    ∷ wrong 14 ("type=append-yex" ∷ []) ""
    ∷ []

-- Numbers, and lines in another order.
abbrev pub in_numbers : List Damaged
in_numbers =
    wrong 13 ("type=vote-no" ∷ "from=1" ∷ []) ""
    ∷ wrong 18 ("type=vote-no" ∷ "term=0" ∷ []) ""
    ∷ wrong 18 ("type=vote-no" ∷ "term=+1" ∷ []) ""
    ∷ wrong 19 ("type=vote-no" ∷ "term=3 " ∷ []) ""
    ∷ wrong 27 ("type=vote-no" ∷ "term=4294967296" ∷ []) ""
    ∷ wrong 31 ("type=vote-request" ∷ "term=12" ∷ "from=8" ∷ []) ""
    ∷ wrong 36 ("type=vote-request" ∷ "term=2" ∷ "from=7" ∷ "to=00" ∷ []) ""
    ∷ wrong 43 ("type=append-yes" ∷ "term=3" ∷ "from=1" ∷ "to=2" ∷ "end=10240" ∷ []) ""
    ∷ wrong 42 ("type=append-no" ∷ "term=3" ∷ "from=1" ∷ "to=2" ∷ "length=9x" ∷ []) ""
    ∷ []

-- Numbers whose range the numbers before them fix. (A count from 5 on may begin with 1, as 10 does; not if it is at most 6.)
abbrev pub in_ranges : List Damaged
in_ranges =
    wrong 42 ("type=vote-request" ∷ "term=1" ∷ "from=7" ∷ "to=0" ∷ "last=1" ∷ []) ""
    ∷ wrong 45 ("type=vote-request" ∷ "term=2" ∷ "from=7" ∷ "to=0" ∷ "last=1025" ∷ []) ""
    ∷ wrong 51 ("type=vote-request" ∷ "term=2" ∷ "from=7" ∷ "to=0" ∷ "last=5" ∷ "ballot=0" ∷ []) ""
    ∷ wrong 51 ("type=vote-request" ∷ "term=2" ∷ "from=7" ∷ "to=0" ∷ "last=5" ∷ "ballot=2" ∷ []) ""
    ∷ wrong 55 ("type=vote-yes" ∷ "term=3" ∷ "from=1" ∷ "to=2" ∷ "last=0" ∷ "ballot=0" ∷ "count=1" ∷ []) ""
    ∷ wrong 58 ("type=vote-yes" ∷ "term=3" ∷ "from=1" ∷ "to=2" ∷ "last=1018" ∷ "ballot=1" ∷ "count=7" ∷ []) ""
    ∷ wrong_append 47 ("prev=0" ∷ "prevterm=1" ∷ []) ""
    ∷ wrong_append 50 ("prev=1018" ∷ "prevterm=4" ∷ []) ""
    ∷ wrong_append 65 ("prev=0" ∷ "prevterm=0" ∷ "chosen=5" ∷ "count=1" ∷ []) ""
    ∷ wrong_append 67 ("prev=0" ∷ "prevterm=0" ∷ "chosen=5" ∷ "count=10" ∷ []) ""
    ∷ wrong_append 70 ("prev=1018" ∷ "prevterm=1" ∷ "chosen=1023" ∷ "count=1" ∷ []) ""
    ∷ []

-- Entries: a term above the message's, a motor, a kind, durations, gains, a digit in upper case, a term that falls.
abbrev pub in_entries : List Damaged
in_entries =
    wrong_entry 72 "entry=4:00010000000000000000000000000000"
    ∷ wrong_entry 77 "entry=1:00410000000000000000000000000000"
    ∷ wrong_entry 77 "entry=1:00000000000000000000000000000000"
    ∷ wrong_entry 81 "entry=1:00010003000000000000000000000000"
    ∷ wrong_entry 82 "entry=1:00400001ffffffff3f80000000000000"
    ∷ wrong_entry 89 "entry=1:00400001000000003f80000000000000"
    ∷ wrong_entry 89 "entry=1:00400001000927c13f80000000000000"
    ∷ wrong_entry 88 "entry=1:00400001000927C03f80000000000000"
    ∷ wrong_entry 92 "entry=1:00400001000927c03f90000000000000"
    ∷ wrong_entry 100 "entry=1:00400001000927c03f80000000100000"
    ∷ wrong_append 113
    ("prev=0" ∷ "prevterm=0" ∷ "chosen=0" ∷ "count=2" ∷ "entry=3:00010000000000000000000000000000" ∷ "entry=2:00010000000000000000000000000000" ∷ []) ""
    ∷ []

-- A message that ends too soon, and messages with more behind them.
abbrev pub in_ends : List Damaged
in_ends =
    wrong 31 ("type=vote-no" ∷ "term=1" ∷ "from=1" ∷ []) "to=2"
    ∷ wrong 32 ("type=vote-no" ∷ "term=1" ∷ "from=1" ∷ "to=2" ∷ "" ∷ []) ""
    ∷ wrong_append 78 ("prev=0" ∷ "prevterm=0" ∷ "chosen=0" ∷ "count=1" ∷ []) "entry=1:0040"
    ∷ wrong_append 107
    ("prev=0" ∷ "prevterm=0" ∷ "chosen=0" ∷ "count=1" ∷ "entry=3:00010000000000000000000000000000" ∷ "entry=3:00010000000000000000000000000000" ∷ []) ""
    ∷ []

-- All rows.
abbrev pub damaged : List Damaged
damaged = in_type ++ (in_numbers ++ (in_ranges ++ (in_entries ++ in_ends)))

-- Each of these rows tells its text's place by the place's meaning.
abbrev pub EachIsPlace : List Damaged → Type 0
EachIsPlace [] = Unit
EachIsPlace (d ∷ ds) = IsPlace BeginsMessage d.text d.place × EachIsPlace ds

-- So does each row of the table.
abbrev pub DamagedPlaces : Type 0
DamagedPlaces = EachIsPlace damaged
