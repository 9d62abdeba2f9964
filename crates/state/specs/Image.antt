-- The bytes of a state, as docs/LAYOUT.md has them: a head of 56 bytes, then a table of a row of 20 bytes for each place of the limit.
-- The log's rows come first, the gathered rows right behind them, and what is not used is zero. Assumes nothing.
use Rattle.std.specs.Prelude.{ℕ, zero, suc, ◌+◌, ◌-◌, ◌*◌, Bool, false, cond, ◌&&◌, List, [], ◌∷◌, ◌++◌, map, eqb, length, drop, replicate}
use Rattle.std.proofs.Math.Option.{Option, none, some}
use Rattle.kinds.specs.Sizes.{Who, hubs_most, limit, row_size}
use Rattle.command.specs.Words.{word, part, word_at}
use Rattle.command.specs.Command.{Command}
use Rattle.command.specs.Entry.{Entry}
use Rattle.rows.specs.Rows.{bytes_of, row, rows_in, entry_of}
use Rattle.state.specs.State.{Kept, Pair, Lost, follower, candidate, leader, State, reported_at}
use Rattle.state.specs.Legal.{legal_kept, legal_state}
use Rattle.kinds.specs.Role.{as_follower, as_candidate, as_leader}
use Rattle.kinds.specs.Same.{same}

-- ---- sizes and places of the layout

abbrev pub head_size : ℕ
head_size = 56

-- All of a state's bytes.
unfoldable pub state_size : ℕ
state_size = head_size + limit * row_size

-- ---- a state's bytes

-- The number of a role.
unfoldable pub role_of : Lost → ℕ
role_of follower = as_follower
role_of (candidate voters gathered) = as_candidate
role_of (leader confirmed) = as_leader

-- What a role does not hold is written as nothing but zeros.
unfoldable pub voters_of : Lost → List Bool
voters_of follower = replicate hubs_most false
voters_of (candidate voters gathered) = voters
voters_of (leader confirmed) = replicate hubs_most false

unfoldable pub gathered_of : Lost → List Pair
gathered_of follower = []
gathered_of (candidate voters gathered) = gathered
gathered_of (leader confirmed) = []

unfoldable pub confirmed_of : Lost → List ℕ
confirmed_of follower = replicate hubs_most 0
confirmed_of (candidate voters gathered) = replicate hubs_most 0
confirmed_of (leader confirmed) = confirmed

-- A byte for each voter: 1 for one that was seen.
unfoldable pub flags : List Bool → List ℕ
flags bs = map (λ b. cond b 1 0) bs

abbrev pub log_row : Entry → List ℕ
log_row e = row e.term e.command

abbrev pub gathered_row : Pair → List ℕ
gathered_row g = row g.ballot g.command

-- The head's 56 bytes.
unfoldable pub head_bytes : Kept → Lost → List ℕ
head_bytes k l =
    word 4 k.term
    ++ (word 4 k.ballot
    ++ (word 4 k.chosen
    ++ (word 4 (length k.log)
    ++ (word 4 (length (gathered_of l))
    ++ (role_of l ∷ (flags (voters_of l) ++ bytes_of (word 4) (confirmed_of l)))))))

unfoldable pub image : State → List ℕ
image s =
    let k = s.kept in
    let l = s.lost in
    head_bytes k l
    ++ (bytes_of log_row k.log
    ++ (bytes_of gathered_row (gathered_of l)
    ++ replicate ((limit - (length k.log + length (gathered_of l))) * row_size) 0))

-- ---- and the state of bytes

abbrev pub pair_of : ℕ → Command → Pair
pair_of n c = record { ballot = n; command = c }

-- The kept parts: the head's first four numbers, and the log's rows.
unfoldable pub kept_in : List ℕ → Kept
kept_in l = record { term = word_at 0 4 l; ballot = word_at 4 4 l; chosen = word_at 8 4 l; log = rows_in entry_of (word_at 12 4 l) (drop head_size l) }

unfoldable pub words_in : ℕ → List ℕ → List ℕ
words_in zero l = []
words_in (suc n) l = word_at 0 4 l ∷ words_in n (drop 4 l)

-- The lost parts of the role with this number.
unfoldable pub lost_in : ℕ → List ℕ → Lost
lost_in zero l = follower
lost_in (suc zero) l =
    candidate (map (λ b. eqb b 1) (part 21 hubs_most l))
    (rows_in pair_of (word_at 16 4 l) (drop (head_size + word_at 12 4 l * row_size) l))
lost_in (suc (suc n)) l = leader (words_in hubs_most (drop 28 l))

-- What bytes say, legal or not.
unfoldable pub state_in : List ℕ → State
state_in l = record { kept = kept_in l; lost = lost_in (word_at 20 1 l) l }

-- ---- reading: one image for each state

-- The legal state whose image these bytes are, if there is one.
unfoldable pub read_state : Who → List ℕ → Option State
read_state w l =
    let s = state_in l in
    cond (eqb (length l) state_size && (same (image s) l && legal_state w s)) (some s) none

-- The kept parts alone, if they are legal. Whatever stands in the bytes of the lost parts is not looked at.
unfoldable pub read_kept : List ℕ → Option Kept
read_kept l =
    let k = kept_in l in
    cond (eqb (length l) state_size && legal_kept k) (some k) none

-- ---- what bytes report

-- The command that the hub of these bytes reports at a place. Bytes whose kept parts are not legal report nothing.
unfoldable pub reported_in : List ℕ → ℕ → Option Command
reported_in l p = elim (read_kept l) [ none ↦ none | some k ↦ reported_at k p ]
