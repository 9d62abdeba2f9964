-- Bytes checked in one pass, test by test: the head, then the log's rows, the gathered rows, and that the unused bytes are zero.
-- That this is the same as reading a state is a law (proofs/CheckLaws). Assumes nothing.
use Rattle.std.specs.Prelude.{ℕ, ◌+◌, ◌*◌, ◌≤◌, ◌≡◌, Bool, true, false, ◌&&◌, List, eqb, length, drop}
use Rattle.std.proofs.Math.Option.{Option, none, some}
use Rattle.kinds.specs.Sizes.{Who, hubs_most, limit, row_size}
use Rattle.command.specs.Words.{part}
use Rattle.command.specs.Entry.{legal_entries}
use Rattle.state.specs.Legal.{all, legal_pair}
use Rattle.rows.specs.Rows.{rows_in, entry_of}
use Rattle.state.specs.Image.{head_size, state_size, pair_of}
use Rattle.state.specs.Head.{head_in, is_flag, kept_head, role_head}

-- Whether there is one.
unfoldable pub is_some : {A : Type 0} → Option A → Bool
is_some none = false
is_some (some x) = true

-- From a place on, n log rows of a hub with this ballot are legal; terms from low on.
unfoldable pub legal_log : ℕ → ℕ → ℕ → List ℕ → Bool
legal_log low ballot n l = legal_entries low ballot (rows_in entry_of n l)

-- n gathered rows of a hub with this term are legal.
unfoldable pub legal_gathered : ℕ → ℕ → List ℕ → Bool
legal_gathered term n l = all (legal_pair term) (rows_in pair_of n l)

-- Nothing but zeros.
unfoldable pub zeros : List ℕ → Bool
zeros l = all (λ b. eqb b 0) l

-- The tests of the head alone.
unfoldable pub checked_head : Who → List ℕ → Bool
checked_head w l = all is_flag (part 21 hubs_most l) && (kept_head (head_in l) && role_head w (head_in l).role (head_in l))

-- The tests of the table, given the numbers of the head.
unfoldable pub checked_table : List ℕ → Bool
checked_table l =
    let h = head_in l in
    let n = h.length.0 in
    let g = h.gathered.0 in
    legal_log 1 h.ballot.0 n (drop head_size l)
    && (legal_gathered h.term.0 g (drop (head_size + n * row_size) l) && zeros (drop (head_size + (n + g) * row_size) l))

-- Bytes of the layout's length, whose head's rows all have a place.
pub record Room (l : List ℕ) : Type 0 where
  pub long : length l ≡ state_size
  pub fits : (head_in l).length.0 + (head_in l).gathered.0 ≤ limit
