-- `scan::stands` meets its contract. The loop's invariant: the literal stands at `at` exactly if what is left of it stands at i, and there is
-- room for it. The measure is what is left of the literal. Assumes nothing.
use native.Mathlib.Omega.{arith}
use borrow.Author.Rules.{rules}
use Rattle.text.proofs.FoundLaws.{literal_few, four_same, four_other, literal_rest}
use Rattle.scan.proofs.stands.Goals as goal

-- Fewer bytes are left than the literal has.
pub returns-then-s-at : goal.returns-then-s-at
returns-then-s-at c = search (rules, literal_few)

-- Other bytes stand there.
pub returns-then-four : goal.returns-then-four
returns-then-four c = search (rules, four_other)

-- The right four bytes stand there.
pub loop-j-preserved : goal.loop-j-preserved
loop-j-preserved c =
    let in-loop = c in
    let inv = in-loop.loop-j.invariant in
    let same = four_same _ _ _ _ _ inv.2 in-loop.loop-j-test.true inv.1 _ _ c.four.ensures c.four-in-loop-j.ensures c.if-four.false in
    (omega arith, omega arith, same)

-- The rest decides.
pub returns : goal.returns
returns c = search (rules, literal_rest)
