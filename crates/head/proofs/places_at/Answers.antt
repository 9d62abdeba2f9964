-- `head::places_at` meets its contract: the seven numbers one by one. Assumes nothing.
use Prim.Native.Nat.{ℕ, ◌+◌, ◌*◌}
use mathlib.Core.Path.{◌∙◌}
use native.Mathlib.Nat.{add-zero}
use Rattle.std.proofs.Common.{rules, tests}
use Rattle.kinds.specs.Of.{place}
use Rattle.command.specs.Words.{word_at}
use Rattle.state.proofs.HeadLaws.{words_seven}
use Rattle.head.proofs.MadeLaws.{made_of}
use Rattle.head.proofs.places_at.Goals as goal

pub returns : goal.returns
returns c =
    let length = λ (i : ℕ). place (word_at (c.args.at + i * 4) 4 c.args.s.now) in
    made_of _ _ length c.from_fn.result 7 (place 0) (λ j y q l k. search (rules, tests)) c.from_fn.ensures.items
    ∙ rw (words_seven c.args.s.now c.args.at) (simp add-zero)
