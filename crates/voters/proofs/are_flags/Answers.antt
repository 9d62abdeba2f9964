-- `voters::are_flags` meets its contract: all of the seven bytes. Assumes nothing.
use Prim.Native.Nat.{ℕ, ◌+◌, ◌-◌}
use native.Mathlib.Omega.{arith}
use mathlib.Core.Path.{◌≡◌, ◌∙◌, ap}
use lib.ListN.{take, drop}
use Rattle.std.proofs.Common.{rules, tests}
use Rattle.std.proofs.lemmas.Iterator.{YieldsList-from_slice}
use Rattle.std.proofs.lemmas.Iterator.Search.{all_from_yields_List}
use Rattle.command.specs.Words.{part}
use Rattle.state.specs.Head.{is_flag}
use Rattle.state.proofs.LegalLaws.{all_is}
use Rattle.voters.proofs.are_flags.Goals as goal

pub returns : goal.returns
unfolding is_flag part
returns c =
    let seven : c.args.at + 7 - c.args.at ≡ 7 = omega arith in
    let flags = part c.args.at 7 c.args.s.now in
    let bytes = YieldsList-from_slice flags (c.iter.ensures.rest ∙ ap (λ (n : ℕ). take n (drop c.args.at c.args.s.now)) seven) in
    all_from_yields_List is_flag _ _ c.all.result c.all.ensures.ran bytes (λ x b q k. search (rules, tests)) ∙ all_is is_flag flags
