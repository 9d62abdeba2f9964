-- The outcomes of events: each is one of rule R32's numbers, and none is 4, which is a text's that is no message. Assumes nothing.
use Prim.Native.Nat.{ℕ, ◌≤◌}
use native.Mathlib.Omega.{arith}
use mathlib.Core.Path.{◌≡◌}
use mathlib.Core.Bool.{not, ◌||◌, ◌&&◌}
use mathlib.Core.List.{List}
use mathlib.Core.Option.{Option, none, some}
use lib.Dec.{leb, ltb, eqb}
use lib.ListN.{length}
use Rattle.kinds.specs.Sizes.{Who, is_size, is_hub, term_most, limit, text_room}
use Rattle.kinds.proofs.BoolLaws.{cond_either}
use Rattle.command.specs.Command.{Command}
use Rattle.command.specs.Proposal.{read_proposal}
use Rattle.message.specs.Message.{Message}
use Rattle.message.specs.Text.{read}
use Rattle.state.specs.State.{Kept, Lost, follower, candidate, leader, State}
use Rattle.rules.specs.Outcome.{Next, not_known, bad_state, short_output, bad_message, nothing_new}
use Rattle.rules.specs.Events.{is_leader, len, start, propose, propose_leading, send, restart}
use Rattle.rules.specs.Receive.{Effect, idle, effect, rule, is_misaddressed, is_stale, contradicts, follower_at, after_raise, at_own_term, receive}
use Rattle.rules.specs.Step.{
  Call,
  Answer,
  Event,
  start_event,
  propose_event,
  send_event,
  restart_event,
  receive_event,
  event_of,
  refusal,
  answer,
  receiving,
  acting,
  seen_by,
  at_state,
  at_event,
  step_of,
}
use Rattle.rules.specs.Happens.{Occasion, to_start, to_propose, to_send, to_restart, to_receive, happens}

-- An outcome at most the last, and not 4.
pub record Told (n : Next) : Type 0 where
  pub other : n.outcome ≡ bad_message → ⊥
  pub most : n.outcome ≤ nothing_new

-- One that is known.
told : (n : Next) → (n.outcome ≡ bad_message → ⊥) → n.outcome ≤ nothing_new → Told n
told n other most = record { other = other; most = most }

-- A start.
pub start_told : (w : Who) (s : State) → Told (start w s)
unfolding start
start_told w s =
    cond_either Told (is_leader s) (λ a. told _ (λ e. omega arith) (omega arith))
    (λ a. cond_either Told (eqb s.kept.term term_most) (λ b. told _ (λ e. omega arith) (omega arith)) (λ b. told _ (λ e. omega arith) (omega arith)))

leading_told : (w : Who) (s : State) (confirmed : List ℕ) (c : Option Command) → Told (propose_leading w s confirmed c)
unfolding propose_leading
leading_told w s confirmed none = told _ (λ e. omega arith) (omega arith)
leading_told w s confirmed (some c) = cond_either Told (leb limit (len s)) (λ a. told _ (λ e. omega arith) (omega arith)) (λ a. told _ (λ e. omega arith) (omega arith))

-- A proposal.
pub propose_told : (w : Who) (k : Kept) (l : Lost) (c : Option Command) → Told (propose w (record { kept = k; lost = l }) c)
unfolding propose
propose_told w k follower c = told _ (λ e. omega arith) (omega arith)
propose_told w k (candidate voters gathered) c = told _ (λ e. omega arith) (omega arith)
propose_told w k (leader confirmed) c = leading_told w (record { kept = k; lost = leader confirmed }) confirmed c

-- A send.
pub send_told : (w : Who) (s : State) (peer prev : ℕ) → Told (send w s peer prev)
unfolding send
send_told w s peer prev =
    cond_either Told (not (is_leader s)) (λ a. told _ (λ e. omega arith) (omega arith))
    (λ a.
    cond_either Told (not (is_hub w.size peer) || (eqb peer w.own || ltb (len s) prev)) (λ b. told _ (λ e. omega arith) (omega arith)) (λ b. told _ (λ e. omega arith) (omega arith)))

-- A restart.
pub restart_told : (k : Kept) → Told (restart k)
unfolding restart
restart_told k = told _ (λ e. omega arith) (omega arith)

raise_told : (s : State) (x : Effect) → Told (after_raise s x)
unfolding after_raise
raise_told s idle = told _ (λ e. omega arith) (omega arith)
raise_told s (effect next message) = told _ (λ e. omega arith) (omega arith)

own_told : (s : State) (x : Effect) → Told (at_own_term s x)
unfolding at_own_term
own_told s idle = told _ (λ e. omega arith) (omega arith)
own_told s (effect next message) = told _ (λ e. omega arith) (omega arith)

-- A message.
pub receive_told : (w : Who) (s : State) (m : Message) → Told (receive w s m)
unfolding receive
receive_told w s m =
    cond_either Told (is_misaddressed w m) (λ a. told _ (λ e. omega arith) (omega arith))
    (λ a.
    cond_either Told (is_stale s m) (λ b. told _ (λ e. omega arith) (omega arith))
    (λ b.
    cond_either Told (ltb s.kept.term m.term) (λ c. raise_told (follower_at s m.term) (rule w (follower_at s m.term) m.from m.body))
    (λ c.
    cond_either Told (contradicts s m.body) (λ d. told _ (λ e. omega arith) (omega arith)) (λ d. own_told s (rule w s m.from m.body)))))

-- Any event.
pub happens_told : (w : Who) (s : State) (o : Occasion) → Told (happens w s o)
unfolding happens
happens_told w s to_start = start_told w s
happens_told w s (to_propose bytes) = propose_told w s.kept s.lost (read_proposal bytes)
happens_told w s (to_send peer prev) = send_told w s peer prev
happens_told w s to_restart = restart_told s.kept
happens_told w s (to_receive m) = receive_told w s m

-- ---- the whole call

-- The outcome of an answer is at most the last.
abbrev Last : Answer → Type 0
Last a = a.outcome ≤ nothing_new

refusal_last : (c : Call) (k : ℕ) → k ≤ nothing_new → Last (refusal c k)
unfolding refusal
refusal_last c k h = h

answer_last : (c : Call) (n : Next) → Told n → Last (answer c n)
unfolding answer
answer_last c n t = t.most

receiving_last : (c : Call) (s : State) (m : Option Message) → Last (receiving c s m)
unfolding receiving
receiving_last c s none = refusal_last c bad_message (omega arith)
receiving_last c s (some m) = answer_last c (receive c.who s m) (receive_told c.who s m)

acting_last : (c : Call) (e : Event) (s : State) → Last (acting c e s)
unfolding acting
acting_last c start_event s = answer_last c _ (start_told c.who s)
acting_last c propose_event s = answer_last c _ (propose_told c.who s.kept s.lost (read_proposal c.input))
acting_last c send_event s = answer_last c _ (send_told c.who s c.a c.b)
acting_last c restart_event s = answer_last c _ (restart_told s.kept)
acting_last c receive_event s = receiving_last c s (read c.input)

state_last : (c : Call) (e : Event) (o : Option State) → Last (at_state c e o)
unfolding at_state
state_last c e none = refusal_last c bad_state (omega arith)
state_last c e (some s) =
    cond_either Last (ltb (length c.output) text_room) (λ a. refusal_last c short_output (omega arith)) (λ a. acting_last c e s)

event_last : (c : Call) (o : Option Event) → Last (at_event c o)
unfolding at_event
event_last c none = refusal_last c not_known (omega arith)
event_last c (some e) =
    cond_either Last (is_size c.who.size && is_hub c.who.size c.who.own) (λ a. state_last c e (seen_by c.who e c.state))
    (λ a. refusal_last c not_known (omega arith))

-- Every call comes to one of the outcomes.
pub step_last : (c : Call) → (step_of c).outcome ≤ nothing_new
unfolding step_of
step_last c = event_last c (event_of c.event)
