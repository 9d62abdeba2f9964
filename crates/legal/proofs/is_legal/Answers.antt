-- `legal::is_legal` meets its contract: the length, the head, then the table. Assumes nothing.
use mathlib.Core.Path.{sym, ◌∙◌}
use native.Mathlib.Omega.{arith}
use Rattle.kinds.specs.Caller.{who_in}
use Rattle.kinds.proofs.BoolLaws.{and_fails, and_holds}
use Rattle.state.proofs.CheckLaws.{state_checked, state_length, size_least}
use Rattle.legal.proofs.CheckSteps.{head_room}
use Rattle.legal.proofs.is_legal.Goals as goal

-- Not of the layout's length.
pub returns-then-s-state_bytes : goal.returns-then-s-state_bytes
returns-then-s-state_bytes c = sym (state_length (who_in c.args.g) c.args.s.now (λ e. c.if-s-state_bytes.true (e ∙ sym c.state_bytes.ensures)))

-- The head is there.
pub read_head-h-requires : goal.read_head-h-requires
read_head-h-requires c = omega (arith, size_least, c.state_bytes.ensures, c.if-s-state_bytes.false)

pub is_legal_head-requires : goal.is_legal_head-requires
is_legal_head-requires c = (omega (arith, size_least, c.state_bytes.ensures, c.if-s-state_bytes.false), c.read_head-h.ensures)

-- A legal head leaves room for its rows.
pub is_legal_table-requires : goal.is_legal_table-requires
is_legal_table-requires c =
    let long = c.if-s-state_bytes.false ∙ c.state_bytes.ensures in
    (head_room (who_in c.args.g) c.args.s.now long (sym c.is_legal_head.ensures ∙ c.if-is_legal_head.true), c.read_head-h.ensures)

-- The table decides.
pub returns-then-is_legal_head : goal.returns-then-is_legal_head
returns-then-is_legal_head c =
    let long = c.if-s-state_bytes.false ∙ c.state_bytes.ensures in
    let checked = state_checked (who_in c.args.g) c.args.s.now (λ i. (c.type_inv.s i).fits) long in
    c.is_legal_table.ensures ∙ sym (checked ∙ and_holds _ (sym c.is_legal_head.ensures ∙ c.if-is_legal_head.true))

-- The head is not legal.
pub returns-else-is_legal_head : goal.returns-else-is_legal_head
returns-else-is_legal_head c =
    let long = c.if-s-state_bytes.false ∙ c.state_bytes.ensures in
    let checked = state_checked (who_in c.args.g) c.args.s.now (λ i. (c.type_inv.s i).fits) long in
    c.if-is_legal_head.false ∙ sym (checked ∙ and_fails _ (sym c.is_legal_head.ensures ∙ c.if-is_legal_head.false))
