-- `step::act` meets its contract: refused by the tests before every event, or each event by the law that says what the step is there.
-- Assumes nothing.
use mathlib.Core.Path.{sym, ◌∙◌, ap}
use mathlib.Core.List.{[]}
use Rattle.std.specs.Prelude.{Ok}
use Rattle.promise.specs.Promise.{call}
use Rattle.step.proofs.StepLaws.{step_passes, step_kept, step_room}
use Rattle.step.proofs.ActsLaws.{
  converted,
  refused_acts,
  start_ready,
  propose_ready,
  send_ready,
  receive_ready,
  start_acts,
  propose_acts,
  send_acts,
  restart_acts,
  receive_acts,
}
use Rattle.step.proofs.act.Goals as goal

-- Refused before every event.
pub returns-in_err-let_in : goal.returns-in_err-let_in
returns-in_err-let_in c = rw (converted _ c.from_residual.ensures.1) (refused_acts _ _ (sym c.in_err-let_in.ensures))

-- The state is ready for a start, and the output has its room.
pub start_at-requires : goal.start_at-requires
start_at-requires c =
    let passed = sym c.let_in.ensures ∙ c.in_ok-let_in.was ∙ ap Ok c.in-Start.is in
    (start_ready (call _ _ _ 0 0 _ [] _) passed, step_room (call _ _ _ 0 0 _ [] _) _ (step_passes (call _ _ _ 0 0 _ [] _) _ passed))

-- It takes effect.
pub returns-in_ok-start_at-in-Start : goal.returns-in_ok-start_at-in-Start
returns-in_ok-start_at-in-Start c = start_acts _ (sym c.let_in.ensures ∙ c.in_ok-let_in.was ∙ ap Ok c.in-Start.is) c.in_ok-start_at-in-Start.ensures

-- It is refused.
pub returns-in_err-start_at-in-Start : goal.returns-in_err-start_at-in-Start
returns-in_err-start_at-in-Start c =
    rw (converted _ c.from_residual-in_err-start_at-in-Start.ensures.1)
    (start_acts _ (sym c.let_in.ensures ∙ c.in_ok-let_in.was ∙ ap Ok c.in-Start.is) c.in_err-start_at-in-Start.ensures)

-- The state is ready for a proposal.
pub propose_at-requires : goal.propose_at-requires
propose_at-requires c = propose_ready (call _ _ _ 0 0 _ [] _) (sym c.let_in.ensures ∙ c.in_ok-let_in.was ∙ ap Ok c.in-Propose.is)

-- It takes effect.
pub returns-in_ok-propose_at-in-Propose : goal.returns-in_ok-propose_at-in-Propose
returns-in_ok-propose_at-in-Propose c = propose_acts _ (sym c.let_in.ensures ∙ c.in_ok-let_in.was ∙ ap Ok c.in-Propose.is) c.in_ok-propose_at-in-Propose.ensures

-- It is refused.
pub returns-in_err-propose_at-in-Propose : goal.returns-in_err-propose_at-in-Propose
returns-in_err-propose_at-in-Propose c =
    rw (converted _ c.from_residual-in_err-propose_at-in-Propose.ensures.1)
    (propose_acts _ (sym c.let_in.ensures ∙ c.in_ok-let_in.was ∙ ap Ok c.in-Propose.is) c.in_err-propose_at-in-Propose.ensures)

-- The state is ready for a send, and the output has its room.
pub send_at-requires : goal.send_at-requires
send_at-requires c =
    let passed = sym c.let_in.ensures ∙ c.in_ok-let_in.was ∙ ap Ok c.in-Send.is in
    (send_ready (call _ _ _ 0 0 _ [] _) passed, step_room (call _ _ _ 0 0 _ [] _) _ (step_passes (call _ _ _ 0 0 _ [] _) _ passed))

-- It takes effect.
pub returns-in_ok-send_at-in-Send : goal.returns-in_ok-send_at-in-Send
returns-in_ok-send_at-in-Send c = send_acts _ (sym c.let_in.ensures ∙ c.in_ok-let_in.was ∙ ap Ok c.in-Send.is) c.into.ensures c.into-in-Send.ensures c.in_ok-send_at-in-Send.ensures

-- It is refused.
pub returns-in_err-send_at-in-Send : goal.returns-in_err-send_at-in-Send
returns-in_err-send_at-in-Send c =
    rw (converted _ c.from_residual-in_err-send_at-in-Send.ensures.1)
    (send_acts _ (sym c.let_in.ensures ∙ c.in_ok-let_in.was ∙ ap Ok c.in-Send.is) c.into.ensures c.into-in-Send.ensures c.in_err-send_at-in-Send.ensures)

-- The kept parts are legal for a restart.
pub restart_in-requires : goal.restart_in-requires
restart_in-requires c = step_kept (call _ _ _ 0 0 _ [] _) (step_passes (call _ _ _ 0 0 _ [] _) _ (sym c.let_in.ensures ∙ c.in_ok-let_in.was ∙ ap Ok c.in-Restart.is))

-- Restart.
pub returns-in-Restart : goal.returns-in-Restart
returns-in-Restart c = restart_acts _ (sym c.let_in.ensures ∙ c.in_ok-let_in.was ∙ ap Ok c.in-Restart.is) c.restart_in.ensures

-- The state is ready for a message, and the output has its room.
pub receive_at-requires : goal.receive_at-requires
receive_at-requires c =
    let passed = sym c.let_in.ensures ∙ c.in_ok-let_in.was ∙ ap Ok c.in-Receive.is in
    (receive_ready (call _ _ _ 0 0 _ [] _) passed, step_room (call _ _ _ 0 0 _ [] _) _ (step_passes (call _ _ _ 0 0 _ [] _) _ passed))

-- Receive.
pub returns-in-Receive : goal.returns-in-Receive
returns-in-Receive c = receive_acts _ (sym c.let_in.ensures ∙ c.in_ok-let_in.was ∙ ap Ok c.in-Receive.is) c.receive_at.ensures
