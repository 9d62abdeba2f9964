-- `entries::next_entry` meets its contract: the parts of the line that stands there, one after the other. Assumes nothing.
use native.Mathlib.Omega.{arith}
use Rattle.entries.proofs.LineLaws.{stands_key, stands_term, stands_digits, stands_line}
use Rattle.entries.proofs.next_entry.Goals as goal

-- The key ends inside the text.
pub overflow_add-at : goal.overflow_add-at
overflow_add-at c =
    omega (arith, stands_key c.args.s.now c.args.at c.requires)

-- A term stands behind it.
pub unwrap-term-requires : goal.unwrap-term-requires
unwrap-term-requires c = stands_term c.args.s.now c.args.at c.requires _ c.number_in.ensures

-- The digits of its command stand there.
pub words_of-requires : goal.words_of-requires
words_of-requires c =
    stands_digits c.args.s.now c.args.at c.requires _ c.number_in.ensures c.unwrap-term.ensures

-- The entry of the line.
pub returns : goal.returns
returns c =
    stands_line c.args.s.now c.args.at c.requires _ c.number_in.ensures c.unwrap-term.ensures _ c.words_of.ensures c.from.ensures
