-- `receive::receive_message` meets its contract: each refusal is one outcome, in the order of rule R32. Assumes nothing.
use mathlib.Core.Path.{sym, ◌∙◌}
use Rattle.promise.proofs.PromiseLaws.{ready_long, ready_head}
use Rattle.receive.proofs.OutcomeLaws.{misaddressed_told, may_reply, stale_told}
use Rattle.receive.proofs.receive_message.Goals as goal

-- Outcome 5.
pub returns-then-is_misaddressed : goal.returns-then-is_misaddressed
returns-then-is_misaddressed c =
    misaddressed_told _ _ c.args.m _ c.requires (sym (c.is_misaddressed.ensures _) ∙ c.if-is_misaddressed.true)

-- There is a head.
pub read_head-h-requires : goal.read_head-h-requires
read_head-h-requires c = ready_long _ _ c.requires.ready

-- The bytes are ready.
pub of-requires : goal.of-requires
of-requires c = c.requires.ready

-- The sender of a stale message may be answered.
pub reply_stale-requires : goal.reply_stale-requires
reply_stale-requires c =
    let head = c.read_head-h.ensures ∙ ready_head _ _ c.requires.ready in
    rw c.of.ensures.state
    (may_reply _ _ c.args.m _ c.requires (sym (c.is_misaddressed.ensures _) ∙ c.if-is_misaddressed.false)
    (sym (c.is_stale.ensures _ _ head) ∙ c.if-is_stale.true))

-- Outcome 6.
pub returns-then-is_stale : goal.returns-then-is_stale
returns-then-is_stale c =
    let head = c.read_head-h.ensures ∙ ready_head _ _ c.requires.ready in
    stale_told _ _ c.args.m _ c.requires (sym (c.is_misaddressed.ensures _) ∙ c.if-is_misaddressed.false)
    (sym (c.is_stale.ensures _ _ head) ∙ c.if-is_stale.true)
    (rw (c.of.ensures.caller, c.of.ensures.state) at (c.reply_stale.ensures c.args.m.lines.now))

-- It is for this hub and not stale.
pub receive_fresh-requires : goal.receive_fresh-requires
receive_fresh-requires c =
    let head = c.read_head-h.ensures ∙ ready_head _ _ c.requires.ready in
    record {
      receives = c.requires;
      head = c.read_head-h.ensures;
      addressed = sym (c.is_misaddressed.ensures _) ∙ c.if-is_misaddressed.false;
      fresh = sym (c.is_stale.ensures _ _ head) ∙ c.if-is_stale.false;
    }
