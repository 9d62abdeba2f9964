-- `head::read_head` meets its contract: field by field. Assumes nothing.
use native.Mathlib.Omega.{arith}
use Rattle.state.specs.Head.{head_in}
use Rattle.rows.proofs.PartLaws.{word_at_byte}
use Rattle.head.proofs.read_head.Goals as goal

pub returns : goal.returns
unfolding head_in
returns c =
    simp (
      c.places_at.ensures,
      c.voters_at.ensures,
      c.into-5.ensures,
      c.into-4.ensures,
      c.into-3.ensures,
      c.into-2.ensures,
      c.into.ensures,
      c.get32-5.ensures,
      c.get32-4.ensures,
      c.get32-3.ensures,
      c.get32-2.ensures,
      c.get32.ensures,
      word_at_byte c.args.s.now 20 (omega (arith, c.requires)),
    )
