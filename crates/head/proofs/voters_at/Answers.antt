-- `head::voters_at` meets its contract: the seven bytes one by one. Assumes nothing.
use Prim.Native.Nat.{ℕ, ◌+◌}
use mathlib.Core.Path.{◌∙◌}
use mathlib.Core.Bool.{false}
use native.Mathlib.Nat.{add-zero}
use lib.Dec.{eqb}
use lib.ListN.{get_or}
use Rattle.std.proofs.Common.{rules, tests}
use Rattle.rows.proofs.PartLaws.{part_seven}
use Rattle.head.proofs.MadeLaws.{made_of}
use Rattle.head.proofs.voters_at.Goals as goal

pub returns : goal.returns
returns c =
    let flag = λ (i : ℕ). eqb (get_or c.args.s.now (c.args.at + i) 0) 1 in
    made_of _ _ flag c.from_fn.result 7 false (λ j y q l k. search (rules, tests)) c.from_fn.ensures.items
    ∙ rw (part_seven c.args.s.now c.args.at c.requires) (simp add-zero)
