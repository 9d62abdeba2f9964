-- `start::start_at` meets its contract: each `return` is one outcome of the event. Assumes nothing.
use mathlib.Core.Path.{sym, ◌∙◌, ap}
use Rattle.kinds.specs.Caller.{who_in}
use Rattle.promise.proofs.PromiseLaws.{ready_long}
use Rattle.start.proofs.StartLaws.{start_leader, start_last, may_start, start_ready, start_asking, start_done}
use Rattle.start.proofs.start_at.Goals as goal

-- There is a head.
pub read_head-h-requires : goal.read_head-h-requires
read_head-h-requires c = ready_long _ _ c.requires.0

-- A leader.
pub returns-then-h-eq-LEADER : goal.returns-then-h-eq-LEADER
returns-then-h-eq-LEADER c = start_leader _ _ _ (record { ready = c.requires.0; head = c.read_head-h.ensures }) c.if-h-eq-LEADER.true

-- The last term.
pub returns-then-from : goal.returns-then-from
returns-then-from c =
    start_last _ _ _ (record { ready = c.requires.0; head = c.read_head-h.ensures }) c.if-h-eq-LEADER.false (sym c.from.ensures ∙ c.if-from.true)

-- A term that is not the last.
pub start_in-requires : goal.start_in-requires
start_in-requires c =
    may_start _ _ _ (record { ready = c.requires.0; head = c.read_head-h.ensures }) c.if-h-eq-LEADER.false (λ e. c.if-from.false (c.from.ensures ∙ e))

-- The bytes are ready again.
pub of-risen-requires : goal.of-risen-requires
of-risen-requires c =
    let rises = may_start _ _ _ (record { ready = c.requires.0; head = c.read_head-h.ensures }) c.if-h-eq-LEADER.false
    (λ e. c.if-from.false (c.from.ensures ∙ e)) in
    start_ready _ _ _ rises c.start_in.ensures

-- The request may be written.
pub ask-requires : goal.ask-requires
ask-requires c =
    let rises = may_start _ _ _ (record { ready = c.requires.0; head = c.read_head-h.ensures }) c.if-h-eq-LEADER.false
    (λ e. c.if-from.false (c.from.ensures ∙ e)) in
    start_asking _ _ _ rises c.start_in.ensures (ap who_in c.of-risen.ensures.caller) c.of-risen.ensures.state c.requires.1

-- A candidate of the next term, and the request.
pub returns : goal.returns
returns c =
    let rises = may_start _ _ _ (record { ready = c.requires.0; head = c.read_head-h.ensures }) c.if-h-eq-LEADER.false
    (λ e. c.if-from.false (c.from.ensures ∙ e)) in
    start_done _ _ _ rises c.start_in.ensures (ap who_in c.of-risen.ensures.caller) c.of-risen.ensures.state c.ask.ensures
