-- Receive (rules R21 to R26): a legal message at a legal state. Assumes nothing.
use Rattle.std.specs.Prelude.{ℕ, ◌+◌, max, Bool, true, false, cond, not, ◌&&◌, ◌||◌, List, [], ◌∷◌, ◌++◌, map, leb, ltb, eqb, length, take, drop, replicate}
use Rattle.std.proofs.Math.Option.{Option, none, some}
use Rattle.kinds.specs.Sizes.{Who, hubs_most, majority}
use Rattle.command.specs.Entry.{Entry}
use Rattle.message.specs.Message.{Message, Body, vote_request, vote_yes, vote_no, append, append_yes, append_no}
use Rattle.state.specs.State.{Kept, Pair, follower, candidate, leader, State}
use Rattle.state.specs.Legal.{count}
use Rattle.rules.specs.Outcome.{Next, goes, refuses, not_addressed, stale, contradicting, nothing_new}
use Rattle.rules.specs.Majority.{majority_place}
use Rattle.rules.specs.Events.{is_leader, is_candidate, len, term_at, for_hub, set_hub, says, with_term, leads}

-- What the rules do with a message: nothing at all, or a next state with at most one message.
pub data Effect : Type 0 where
  idle : Effect
  effect : State → Option Message → Effect

-- ---- vote-request with a higher term, at the follower of that term

-- The ballot that a hub with n entries tells: 0 with an empty log, else its own (rule R44).
unfoldable pub ballot_told : ℕ → ℕ → ℕ
ballot_told n own = cond (eqb n 0) 0 own

-- Yes exactly if the ballot told ≤ the message's ballot. vote-yes carries the request's last, the ballot told and all own entries after last
-- (none if the log is no longer than last). Otherwise vote-no.
unfoldable pub vote : Kept → ℕ → ℕ → Body
vote k last ballot =
    let told = ballot_told (length k.log) k.ballot in
    cond (leb told ballot) (vote_yes last told (drop last k.log)) vote_no

-- ---- vote-yes, own term, at a candidate, from a new voter

-- At each place the pair with the greater ballot stays, the held one if equal.
unfoldable pub gather : List Pair → ℕ → List Entry → List Pair
gather [] ballot entries = map (λ e. record { ballot = ballot; command = e.command }) entries
gather (g ∷ gs) ballot [] = g ∷ gs
gather (g ∷ gs) ballot (e ∷ es) =
    cond (ltb g.ballot ballot) (record { ballot = ballot; command = e.command }) g ∷ gather gs ballot es

-- Gathered commands join the log with the present term, ballot = term.
unfoldable pub joined : Kept → List Pair → Kept
joined k gathered =
    record {
      term = k.term;
      ballot = k.term;
      chosen = k.chosen;
      log = k.log ++ map (λ g. record { term = k.term; command = g.command }) gathered;
    }

-- With a majority the hub leads: lost parts cleared, own confirmed length = length.
unfoldable pub counted : Who → Kept → List Bool → List Pair → State
counted w k voters gathered =
    cond (leb (majority w.size) (count (λ v. v) voters)) (leads w (joined k gathered) (replicate hubs_most 0))
    (record { kept = k; lost = candidate voters gathered })

unfoldable pub heard_yes : Who → State → ℕ → ℕ → List Entry → Effect
heard_yes w s from ballot entries =
    elim s.lost [
      | follower ↦ idle
      | candidate voters gathered ↦
          cond (for_hub voters from false) idle
          (effect (counted w s.kept (set_hub voters from true) (gather gathered ballot entries)) none)
      | leader confirmed ↦ idle
    ]

-- ---- append, own term after the rule above; a candidate becomes follower, its lost parts cleared

-- Prev is 0, or prev ≤ length and the entry there has term prevterm; and also ballot = term or prev+count ≥ length.
unfoldable pub fits : Kept → ℕ → ℕ → ℕ → Bool
fits k prev prevterm end =
    let length = length k.log in
    (eqb prev 0 || (leb prev length && eqb (term_at k.log prev) prevterm))
    && (eqb k.ballot k.term || leb length end)

-- Where ballot = term and prev+count ≤ length the log stays; otherwise entries after prev are replaced by the message's.
unfoldable pub replaced : Kept → ℕ → List Entry → List Entry
replaced k prev entries =
    cond (eqb k.ballot k.term && leb (prev + length entries) (length k.log)) k.log
    (take prev k.log ++ entries)

-- Ballot = term; chosen = the greater of own and the message's.
unfoldable pub taken : Kept → ℕ → ℕ → List Entry → Kept
taken k prev chosen entries =
    record { term = k.term; ballot = k.term; chosen = max k.chosen chosen; log = replaced k prev entries }

-- If it does not fit: append-no with own length. If it fits: append-yes with end = prev+count.
unfoldable pub heard_append : Who → State → ℕ → ℕ → ℕ → ℕ → List Entry → Effect
heard_append w s from prev prevterm chosen entries =
    let k = s.kept in
    let end = prev + length entries in
    cond (fits k prev prevterm end)
    (effect (record { kept = taken k prev chosen entries; lost = follower }) (some (says w s from (append_yes end))))
    (effect (record { kept = k; lost = follower }) (some (says w s from (append_no (len s)))))

-- ---- append-yes, own term, at a leader, with a greater end than recorded

-- Chosen = the greater of itself and the largest place confirmed by a majority.
unfoldable pub recorded : Who → Kept → List ℕ → State
recorded w k confirmed =
    record {
      kept = record { term = k.term; ballot = k.ballot; chosen = max k.chosen (majority_place w.size confirmed); log = k.log };
      lost = leader confirmed;
    }

unfoldable pub heard_end : Who → State → ℕ → ℕ → Effect
heard_end w s from end =
    elim s.lost [
      | follower ↦ idle
      | candidate voters gathered ↦ idle
      | leader confirmed ↦
          cond (ltb (for_hub confirmed from 0) end) (effect (recorded w s.kept (set_hub confirmed from end)) none) idle
    ]

-- ---- the rule for each type, at a hub whose term is the message's

unfoldable pub rule : Who → State → ℕ → Body → Effect
rule w s from (vote_request last ballot) = effect s (some (says w s from (vote s.kept last ballot)))
rule w s from (vote_yes last ballot entries) = heard_yes w s from ballot entries
rule w s from vote_no = idle
rule w s from (append prev prevterm chosen entries) = heard_append w s from prev prevterm chosen entries
rule w s from (append_yes end) = heard_end w s from end
rule w s from (append_no length) = idle

-- ---- refusals

-- From above N or own; to neither own nor 0.
unfoldable pub is_misaddressed : Who → Message → Bool
is_misaddressed w m =
    ltb w.size m.from || (eqb m.from w.own || not (eqb m.to w.own || eqb m.to 0))

unfoldable pub is_request : Body → Bool
is_request (vote_request last ballot) = true
is_request (vote_yes last ballot entries) = false
is_request vote_no = false
is_request (append prev prevterm chosen entries) = false
is_request (append_yes end) = false
is_request (append_no length) = false

-- Term below own, or vote-request at own term.
unfoldable pub is_stale : State → Message → Bool
is_stale s m = ltb m.term s.kept.term || (eqb m.term s.kept.term && is_request m.body)

-- Outcome 6 writes vote-no for a vote-request and append-no for an append, with own term.
unfoldable pub stale_reply : Who → State → ℕ → Body → Option Message
stale_reply w s from (vote_request last ballot) = some (says w s from vote_no)
stale_reply w s from (vote_yes last ballot entries) = none
stale_reply w s from vote_no = none
stale_reply w s from (append prev prevterm chosen entries) = some (says w s from (append_no (len s)))
stale_reply w s from (append_yes end) = none
stale_reply w s from (append_no length) = none

-- Own term: append at a leader; append-yes beyond a leader's length; vote-yes at a candidate with last not its length or ballot above its own.
unfoldable pub contradicts : State → Body → Bool
contradicts s (vote_request last ballot) = false
contradicts s (vote_yes last ballot entries) =
    is_candidate s && (not (eqb last (len s)) || ltb s.kept.ballot ballot)
contradicts s vote_no = false
contradicts s (append prev prevterm chosen entries) = is_leader s
contradicts s (append_yes end) = is_leader s && ltb (len s) end
contradicts s (append_no length) = false

-- ---- the whole event

-- A follower of that term with its lost parts cleared.
unfoldable pub follower_at : State → ℕ → State
follower_at s term = record { kept = with_term s.kept term; lost = follower }

-- A message with a higher term: outcome 0 whatever follows.
unfoldable pub after_raise : State → Effect → Next
after_raise s idle = goes s none
after_raise s (effect next message) = goes next message

-- A message of own term.
unfoldable pub at_own_term : State → Effect → Next
at_own_term s idle = refuses s nothing_new
at_own_term s (effect next message) = goes next message

unfoldable pub receive : Who → State → Message → Next
receive w s m =
    cond (is_misaddressed w m) (refuses s not_addressed)
    (cond (is_stale s m) (record { outcome = stale; state = s; message = stale_reply w s m.from m.body })
    (cond (ltb s.kept.term m.term) (let r = follower_at s m.term in after_raise r (rule w r m.from m.body))
    (cond (contradicts s m.body) (refuses s contradicting)
    (at_own_term s (rule w s m.from m.body)))))
