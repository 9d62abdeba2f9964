-- `alone::write_message` meets its contract: the output is too short, or the rows are not as many as the entries, or the message is not legal,
-- or its text is put. Assumes nothing.
use Rattle.std.proofs.Common.{arith, ◌∙◌, sym, ap, ℕ, ◌*◌}
use Rattle.kinds.specs.Sizes.{row_size}
use Rattle.writer.proofs.PartsLaws.{span_count}
use Rattle.alone.proofs.WrittenLaws.{written_message}
use Rattle.alone.proofs.write_message.Goals as goal

-- It is put.
pub returns : goal.returns
returns c =
    let count = ap (λ (n : ℕ). n * row_size) (span_count c.args.f c.span_of-count.ensures) in
    written_message c.args.f c.args.rows.now c.args.out.now (c.if-rows-count.false ∙ count) (sym c.is_legal.ensures ∙ c.if-not-is_legal.false)
    (omega (arith, c.text_room.ensures, c.if-out-text_room.false)) c.put_message.ensures
