-- `listing::write_rows` meets its contract. The loop's invariant: what is written, and that the lines of the rows that are left are the rest of the
-- text. Assumes nothing.
use Rattle.std.proofs.Common.{◌≡◌}
use Rattle.kinds.specs.Sizes.{row_size}
use Rattle.message.specs.Rows.{row_entries}
use Rattle.message.specs.Text.{entries_text}
use Rattle.listing.proofs.RowsLaws.{Writing}
use Rattle.listing.proofs.write_rows.Given as goal

abbrev pub invariant-loop-row : goal.invariant-loop-row
invariant-loop-row l =
    (goal.iterator-loop-row).can_next l.row-iterator
    × (goal.iterator-loop-row).is_finite l.row-iterator
    × (l.row-iterator.size ≡ row_size)
    × Writing l.initial.out (entries_text (row_entries l.count l.rows)) l.out l.row-iterator.rest.now
