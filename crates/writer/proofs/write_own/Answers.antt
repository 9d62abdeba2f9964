-- `writer::write_own` meets its contract: each type has its own lines. Assumes nothing.
use Rattle.message.specs.Fields.{own_fields}
use Rattle.message.specs.Text.{lines_text}
use Rattle.output.proofs.AddedLaws.{added_then, added_none}
use Rattle.writer.specs.Parts.{own_text}
use Rattle.writer.proofs.write_own.Goals as goal

-- An append's are four.
pub returns-in-Append : goal.returns-in-Append
unfolding own_text own_fields lines_text
returns-in-Append c =
    let count_on = added_then c.line-in-Append-4.ensures added_none in
    rw (c.in-Append.is, ← c.into-in-Append.ensures, ← c.into-in-Append-2.ensures, ← c.into-in-Append-3.ensures)
    (added_then c.line-in-Append.ensures (added_then c.line-in-Append-2.ensures (added_then c.line-in-Append-3.ensures count_on)))
