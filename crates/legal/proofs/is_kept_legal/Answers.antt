-- `legal::is_kept_legal` meets its contract: the length, the head's numbers, then the log. Assumes nothing.
use mathlib.Core.Path.{sym, ◌∙◌, ap}
use native.Mathlib.Omega.{arith}
use lib.ListN.{drop}
use Rattle.state.specs.declared.Head.{Head}
use Rattle.state.specs.Image.{head_size}
use Rattle.state.specs.Head.{kept_head}
use Rattle.state.specs.Check.{legal_log}
use Rattle.kinds.proofs.BoolLaws.{and_fails, and_holds}
use Rattle.state.proofs.CheckLaws.{kept_part_checked, kept_length, size_least}
use Rattle.legal.proofs.CheckSteps.{kept_room, rows_within}
use Rattle.legal.proofs.is_kept_legal.Goals as goal

-- Not of the layout's length.
pub returns-then-s-state_bytes : goal.returns-then-s-state_bytes
returns-then-s-state_bytes c = sym (kept_length c.args.s.now (λ e. c.if-s-state_bytes.true (e ∙ sym c.state_bytes.ensures)))

-- The head is there.
pub read_head-h-requires : goal.read_head-h-requires
read_head-h-requires c = omega (arith, size_least, c.state_bytes.ensures, c.if-s-state_bytes.false)

-- The log's rows are there.
pub is_log-requires : goal.is_log-requires
is_log-requires c =
    let room = kept_room c.read_head-h.result (sym c.is_kept_head.ensures ∙ c.if-is_kept_head.true) in
    rows_within (c.if-s-state_bytes.false ∙ c.state_bytes.ensures) room

-- The log decides.
pub returns-then-is_kept_head : goal.returns-then-is_kept_head
returns-then-is_kept_head c =
    let l = c.args.s.now in
    let long = c.if-s-state_bytes.false ∙ c.state_bytes.ensures in
    let read = c.read_head-h.ensures in
    let head = ap kept_head (sym read) ∙ sym c.is_kept_head.ensures ∙ c.if-is_kept_head.true in
    c.is_log.ensures
    ∙ ap (λ (h : Head). legal_log 1 h.ballot.0 h.length.0 (drop head_size l)) read
    ∙ sym (kept_part_checked l (λ i. (c.type_inv.s i).fits) long ∙ and_holds _ head)

-- The head's numbers are not legal.
pub returns-else-is_kept_head : goal.returns-else-is_kept_head
returns-else-is_kept_head c =
    let l = c.args.s.now in
    let long = c.if-s-state_bytes.false ∙ c.state_bytes.ensures in
    let head = ap kept_head (sym c.read_head-h.ensures) ∙ sym c.is_kept_head.ensures ∙ c.if-is_kept_head.false in
    c.if-is_kept_head.false ∙ sym (kept_part_checked l (λ i. (c.type_inv.s i).fits) long ∙ and_fails _ head)
