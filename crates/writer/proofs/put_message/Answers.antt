-- `writer::put_message` meets its contract: the type, the head, the type's own lines and the entry lines, one behind the other. Assumes nothing.
use Rattle.std.proofs.Common.{rules, arith, sym, ◌∙◌}
use Rattle.std.proofs.lemmas.Grind.{common_steps}
use Rattle.writer.proofs.PartsLaws.{parts_fit, rows_there, all_added, all_written, span_count}
use Rattle.writer.proofs.put_message.Goals as goal

-- There is room for the line of the type,
pub write_type-requires : goal.write_type-requires
write_type-requires c =
    let fit = parts_fit c.new-out.result c.args.f c.args.rows.now c.new-out.ensures.begins c.new-out.ensures.bytes c.requires in
    grind (arith, common_steps, fit)

-- for term, from and to,
pub write_head-requires : goal.write_head-requires
write_head-requires c =
    let fit = parts_fit c.new-out.result c.args.f c.args.rows.now c.new-out.ensures.begins c.new-out.ensures.bytes c.requires in
    grind (arith, common_steps, fit)

-- for the type's own lines,
pub write_own-requires : goal.write_own-requires
write_own-requires c =
    let fit = parts_fit c.new-out.result c.args.f c.args.rows.now c.new-out.ensures.begins c.new-out.ensures.bytes c.requires in
    grind (arith, common_steps, fit)

-- and for the entry lines, of which the rows are there.
pub write_rows-requires-clause-rows : goal.write_rows-requires-clause-rows
write_rows-requires-clause-rows c = rows_there c.args.f c.args.rows.now _ (span_count c.args.f c.span_of.ensures) c.requires

pub write_rows-requires-clause-room : goal.write_rows-requires-clause-room
write_rows-requires-clause-room c =
    let fit = parts_fit c.new-out.result c.args.f c.args.rows.now c.new-out.ensures.begins c.new-out.ensures.bytes c.requires in
    let count = span_count c.args.f c.span_of.ensures in
    rw count (grind (arith, common_steps, fit))

-- All are written.
pub returns : goal.returns
returns c =
    let all = all_added c.args.f c.args.rows.now _ (span_count c.args.f c.span_of.ensures) c.write_type.ensures c.write_head.ensures c.write_own.ensures c.write_rows.ensures in
    let same = sym (all.same ∙ c.new-out.ensures.same) in
    all_written all c.new-out.ensures.begins c.new-out.ensures.bytes c.len.ensures (search (rules, same))
