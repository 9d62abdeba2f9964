-- `fresh::receive_fresh` meets its contract: a higher term, then the rule; or own term, and it contradicts, or the rule is obeyed.
-- Assumes nothing.
use mathlib.Core.Path.{sym, ◌∙◌}
use Rattle.std.proofs.Common.{rules, tests}
use Rattle.fresh.proofs.FreshLaws.{head_of_lem, may_raise, may_obey_risen, higher_comes, contradicting_comes, may_obey, obeyed_comes}
use Rattle.fresh.proofs.receive_fresh.Goals as goal

-- The hub may become a follower of the higher term.
pub raise_in-requires : goal.raise_in-requires
raise_in-requires c = may_raise _ _ _ _ _ c.requires (search (rules, tests))

-- The rule may be obeyed there.
pub obey-requires : goal.obey-requires
obey-requires c =
    may_obey_risen _ _ _ _ _ c.requires (search (rules, tests)) c.raise_in.ensures

-- Outcome 0, whatever it did.
pub returns-then-lt : goal.returns-then-lt
returns-then-lt c =
    higher_comes _ _ _ _ _ c.requires (search (rules, tests)) c.raise_in.ensures c.obey.ensures (search rules)

-- Outcome 7.
pub returns-then-is_contradicting : goal.returns-then-is_contradicting
returns-then-is_contradicting c =
    contradicting_comes _ _ _ _ _ c.requires (search (rules, tests))
    (sym (c.is_contradicting.ensures _ _ (head_of_lem _ _ _ _ _ c.requires)) ∙ c.if-is_contradicting.true)

-- The rule may be obeyed at own term.
pub obey-requires-2 : goal.obey-requires-2
obey-requires-2 c =
    may_obey _ _ _ _ _ c.requires (search (rules, tests))
    (sym (c.is_contradicting.ensures _ _ (head_of_lem _ _ _ _ _ c.requires)) ∙ c.if-is_contradicting.false)

-- Outcome 13 if it did nothing, else 0.
pub returns : goal.returns
returns c =
    obeyed_comes _ _ _ _ _ c.requires (search (rules, tests))
    (sym (c.is_contradicting.ensures _ _ (head_of_lem _ _ _ _ _ c.requires)) ∙ c.if-is_contradicting.false)
    c.obey-2.ensures c.ok_or.ensures.value
