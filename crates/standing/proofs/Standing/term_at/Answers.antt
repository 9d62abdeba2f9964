-- `Standing::term_at` meets its contract: no entry stands at place 0, and at another the number of its row is the term. Assumes nothing.
use Prim.Native.Nat.{ℕ, ◌+◌, ◌-◌, ◌*◌, ◌≤◌}
use mathlib.Core.Path.{◌≡◌, sym, ◌∙◌, ap}
use native.Mathlib.Omega.{arith}
use Rattle.kinds.specs.Of.{term}
use Rattle.kinds.specs.Sizes.{row_size}
use Rattle.command.specs.Words.{word_at}
use Rattle.state.specs.Image.{head_size}
use Rattle.standing.proofs.StandingLaws.{term_at_none, tested_inside, tested_at}
use Rattle.standing.proofs.Standing.term_at.Goals as goal

-- Place 0.
pub returns-then-from-eq0 : goal.returns-then-from-eq0
returns-then-from-eq0 c = c.from-then-from-eq0.ensures ∙ ap term (sym (term_at_none _ (sym c.from.ensures ∙ c.if-from-eq0.true)))

-- The row lies within the bytes.
pub get32-requires : goal.get32-requires
get32-requires c = omega (arith, tested_inside _ _ _ c.args.self.now.tested c.args.p.0 (omega arith) c.requires, c.row_after.ensures)

-- Its number is the term.
pub returns : goal.returns
returns c =
    let first : 1 ≤ c.args.p.0 = omega arith in
    let at : c.row_after.result - row_size ≡ head_size + (c.args.p.0 - 1) * row_size = omega arith in
    c.from-2.ensures
    ∙ ap term (c.get32.ensures ∙ ap (λ (a : ℕ). word_at a 4 c.args.self.now.state.now) at ∙ tested_at _ _ _ c.args.self.now.tested _ first c.requires)
