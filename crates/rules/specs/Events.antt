-- Start, propose, send and restart (rules R17 to R20), each at a legal state. Receive has a file of its own. Assumes nothing.
use Rattle.std.specs.Prelude.{ℕ, ◌+◌, Bool, true, false, cond, not, ◌||◌, List, [], ◌∷◌, ◌++◌, map, leb, ltb, eqb, length, drop, get_or, replicate}
use Rattle.std.proofs.Math.Option.{Option, none, some}
pub use Rattle.kinds.specs.Hubs.{for_hub, set_hub}
use Rattle.kinds.specs.Sizes.{Who, is_hub, hubs_most, term_most, limit}
use Rattle.command.specs.Command.{Command}
use Rattle.command.specs.Entry.{Entry}
use Rattle.message.specs.Message.{Message, Body, vote_request, append}
use Rattle.state.specs.State.{Kept, follower, candidate, leader, State}
use Rattle.rules.specs.Outcome.{
  Next,
  goes,
  refuses,
  wrong_role,
  no_term_left,
  bad_command,
  log_full,
  out_of_range,
}

-- ---- words

unfoldable pub is_leader : State → Bool
is_leader s = elim s.lost [ follower ↦ false | candidate voters gathered ↦ false | leader confirmed ↦ true ]

unfoldable pub is_candidate : State → Bool
is_candidate s = elim s.lost [ follower ↦ false | candidate voters gathered ↦ true | leader confirmed ↦ false ]

-- The log's length.
abbrev pub len : State → ℕ
len s = length s.kept.log

-- The term of the entry at a place; 0 at place 0.
unfoldable pub term_at : List Entry → ℕ → ℕ
term_at log p = get_or (0 ∷ map (λ e. e.term) log) p 0

-- A hub writes its term after the step, itself as from, the asker or peer as to.
unfoldable pub says : Who → State → ℕ → Body → Message
says w s to body = record { term = s.kept.term; from = w.own; to = to; body = body }

-- The kept parts with another term; all else stays.
unfoldable pub with_term : Kept → ℕ → Kept
with_term k t = record { term = t; ballot = k.ballot; chosen = k.chosen; log = k.log }

-- A leader's own confirmed length follows its log.
unfoldable pub leads : Who → Kept → List ℕ → State
leads w k confirmed = record { kept = k; lost = leader (set_hub confirmed w.own (length k.log)) }

-- ---- Start. Follower or candidate: term +1; candidate; voters = itself; rest of the lost parts cleared.

unfoldable pub started : Who → State → State
started w s =
    record {
      kept = with_term s.kept (s.kept.term + 1);
      lost = candidate (set_hub (replicate hubs_most false) w.own true) [];
    }

-- Sends vote-request to all: last is its length, with its ballot.
unfoldable pub asks : Who → State → Message
asks w s = says w s 0 (vote_request (len s) s.kept.ballot)

unfoldable pub start : Who → State → Next
start w s =
    cond (is_leader s) (refuses s wrong_role)
    (cond (eqb s.kept.term term_most) (refuses s no_term_left)
    (goes (started w s) (some (asks w (started w s)))))

-- ---- Propose (leader): the command is added with the present term; own confirmed length follows. No message.

unfoldable pub with_entry : Kept → Command → Kept
with_entry k c =
    record { term = k.term; ballot = k.ballot; chosen = k.chosen; log = k.log ++ (record { term = k.term; command = c } ∷ []) }

-- The event at a hub that leads with these confirmed lengths; none is what may not be proposed.
unfoldable pub propose_leading : Who → State → List ℕ → Option Command → Next
propose_leading w s confirmed none = refuses s bad_command
propose_leading w s confirmed (some c) =
    cond (leb limit (len s)) (refuses s log_full) (goes (leads w (with_entry s.kept c) confirmed) none)

unfoldable pub propose : Who → State → Option Command → Next
propose w s proposed =
    elim s.lost [
      | follower ↦ refuses s wrong_role
      | candidate voters gathered ↦ refuses s wrong_role
      | leader confirmed ↦ propose_leading w s confirmed proposed
    ]

-- ---- Send (leader), to a named peer from a named prev in 0..length: append with every entry after prev. An append has its own chosen.

unfoldable pub sends : Who → State → ℕ → ℕ → Message
sends w s peer prev =
    let k = s.kept in
    says w s peer (append prev (term_at k.log prev) k.chosen (drop prev k.log))

unfoldable pub send : Who → State → ℕ → ℕ → Next
send w s peer prev =
    cond (not (is_leader s)) (refuses s wrong_role)
    (cond (not (is_hub w.size peer) || (eqb peer w.own || ltb (len s) prev)) (refuses s out_of_range)
    (goes s (some (sends w s peer prev))))

-- ---- Restart: lost parts cleared, follower.

unfoldable pub restart : Kept → Next
restart k = goes (record { kept = k; lost = follower }) none
