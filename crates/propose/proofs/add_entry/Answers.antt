-- `propose::add_entry` meets its contract: a row behind the log, then the head of a leader with one entry more. Assumes nothing.
use mathlib.Core.Path.{sym, ◌∙◌, ap}
use native.Mathlib.Omega.{arith}
use Rattle.command.proofs.ProposalLaws.{is_proposal_length}
use Rattle.state.specs.declared.Head.{Head}
use Rattle.state.specs.Image.{state_size}
use Rattle.promise.proofs.PromiseLaws.{ready_size, ready_who}
use Rattle.propose.proofs.ProposeLaws.{propose_steps}
use Rattle.propose.proofs.add_entry.Goals as goal

-- The command has 16 bytes.
pub words_at-requires : goal.words_at-requires
words_at-requires c = omega (arith, is_proposal_length _ c.requires.proposal)

-- The row lies within the table.
pub put_row-requires : goal.put_row-requires
unfolding state_size
put_row-requires c =
    let pre = c.requires in
    omega (arith, ready_size _ _ pre.ready, c.row_after-row.ensures, pre.room)

-- The own number is a hub's, and the log is not full.
pub grow-requires : goal.grow-requires
grow-requires c =
    let pre = c.requires in
    let who = ready_who _ _ pre.ready in
    (who.first, omega (arith, who.last, who.most), pre.room)

-- The head is still there.
pub write_head-requires : goal.write_head-requires
unfolding state_size
write_head-requires c = omega (arith, ready_size _ _ c.requires.ready, c.put_row.auto)

-- A proposal's bytes.
pub returns : goal.returns
returns c =
    let pre = c.requires in
    propose_steps _ c.args.state.now pre.ready c.args.command.now (λ i. (c.type_inv.command i).fits) pre.proposal
    (sym (ap (λ (h : Head). h.role) pre.head) ∙ pre.role) (omega (arith, ap (λ (h : Head). h.length.0) pre.head, pre.room))
    pre.head c.row_after-row.ensures c.words_at.ensures c.put_row.ensures c.grow.ensures c.write_head.ensures
