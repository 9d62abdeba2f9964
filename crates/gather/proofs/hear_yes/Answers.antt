-- `gather::hear_yes` meets its contract: each `return` is one case of the rule for vote-yes. Assumes nothing.
use Prim.Native.Nat.{ℕ, max}
use mathlib.Core.Path.{sym, ◌∙◌, ap}
use native.Mathlib.Omega.{arith}
use Rattle.state.specs.Image.{state_size}
use Rattle.promise.proofs.PromiseLaws.{ready_long, ready_size}
use Rattle.gather.specs.Yes.{with_voter}
use Rattle.gather.proofs.YesLaws.{heard_from, heard_other, heard_seen, heard_room, heard_counts, heard_new}
use Rattle.gather.proofs.hear_yes.Goals as goal

-- There is a head.
pub read_head-h-requires : goal.read_head-h-requires
read_head-h-requires c = ready_long _ _ c.requires.yes.ready

-- Another role.
pub returns-then-h-ne-CANDIDATE : goal.returns-then-h-ne-CANDIDATE
returns-then-h-ne-CANDIDATE c = heard_other _ _ _ _ _ c.requires c.read_head-h.ensures c.if-h-ne-CANDIDATE.true

-- A voter seen before.
pub returns-then-has_voted : goal.returns-then-has_voted
returns-then-has_voted c =
    heard_seen _ _ _ _ _ c.requires c.read_head-h.ensures c.if-h-ne-CANDIDATE.false (sym c.has_voted.ensures ∙ c.if-has_voted.true)

-- The entries' rows lie within the table.
pub gather_in-requires : goal.gather_in-requires
unfolding state_size
gather_in-requires c =
    let pre = c.requires in
    let room = heard_room _ _ _ _ _ pre c.read_head-h.ensures c.if-h-ne-CANDIDATE.false in
    omega (arith, room, ready_size _ _ pre.yes.ready, c.row_after.ensures)

-- The sender is one of seven.
pub add_voter-voted-requires : goal.add_voter-voted-requires
add_voter-voted-requires c = heard_from c.requires

-- The votes may be counted.
pub count_votes-requires : goal.count_votes-requires
count_votes-requires c =
    heard_counts _ _ _ _ _ c.requires c.read_head-h.ensures c.if-h-ne-CANDIDATE.false (c.add_voter-voted.ensures ∙ ap (λ (n : ℕ). with_voter c.read_head-h.result c.args.from.0 (max c.read_head-h.result.gathered.0 n)) c.many.ensures) c.gather_in.auto.state

-- A new voter.
pub returns : goal.returns
returns c =
    heard_new _ _ _ _ _ c.requires c.read_head-h.ensures c.if-h-ne-CANDIDATE.false (sym c.has_voted.ensures ∙ c.if-has_voted.false)
    c.row_after.ensures c.gather_in.ensures (c.add_voter-voted.ensures ∙ ap (λ (n : ℕ). with_voter c.read_head-h.result c.args.from.0 (max c.read_head-h.result.gathered.0 n)) c.many.ensures) c.count_votes.ensures
