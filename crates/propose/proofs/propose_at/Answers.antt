-- `propose::propose_at` meets its contract: each `return` is one outcome of the event. Assumes nothing.
use mathlib.Core.Path.{sym, ◌∙◌}
use native.Mathlib.Omega.{arith}
use Rattle.promise.proofs.PromiseLaws.{ready_long}
use Rattle.propose.proofs.ProposeLaws.{proposed_wrong_role, proposed_bad, proposed_full, proposed_done}
use Rattle.propose.proofs.propose_at.Goals as goal

-- There is a head.
pub read_head-h-requires : goal.read_head-h-requires
read_head-h-requires c = ready_long _ _ c.requires

-- Another role.
pub returns-then-h-ne-LEADER : goal.returns-then-h-ne-LEADER
returns-then-h-ne-LEADER c = proposed_wrong_role _ _ c.requires _ c.read_head-h.ensures c.if-h-ne-LEADER.true

-- Bytes that may not be proposed.
pub returns-then-not-is_proposal : goal.returns-then-not-is_proposal
returns-then-not-is_proposal c =
    proposed_bad _ _ c.requires _ c.read_head-h.ensures c.if-h-ne-LEADER.false (sym c.is_proposal.ensures ∙ c.if-not-is_proposal.true)

-- A full log.
pub returns-then-places-into : goal.returns-then-places-into
returns-then-places-into c =
    proposed_full _ _ c.requires _ c.read_head-h.ensures c.if-h-ne-LEADER.false (sym c.is_proposal.ensures ∙ c.if-not-is_proposal.false)
    (omega (arith, c.into.ensures, c.places.ensures, c.if-places-into.true))

-- What is needed to add it.
pub add_entry-requires : goal.add_entry-requires
add_entry-requires c =
    record {
      ready = c.requires;
      head = c.read_head-h.ensures;
      role = c.if-h-ne-LEADER.false;
      room = omega (arith, c.into.ensures, c.places.ensures, c.if-places-into.false);
      proposal = sym c.is_proposal.ensures ∙ c.if-not-is_proposal.false;
    }

-- It is added.
pub returns : goal.returns
returns c =
    proposed_done _ _ c.requires _ c.read_head-h.ensures c.if-h-ne-LEADER.false (sym c.is_proposal.ensures ∙ c.if-not-is_proposal.false)
    (omega (arith, c.into.ensures, c.places.ensures, c.if-places-into.false)) c.add_entry.ensures
