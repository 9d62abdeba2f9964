-- `rows::are_legal` meets its contract. The loop's invariant: the rows that are left decide as all of them do. Assumes nothing.
use mathlib.Core.Path.{◌≡◌}
use lib.ListN.{drop}
use Rattle.std.specs.Slice.Iter.{chunks_exact_size, chunks_exact_rest}
use Rattle.kinds.specs.Sizes.{row_size}
use Rattle.rows.specs.Rows.{row_of, rows_in, legal_rows}
use Rattle.rows.proofs.LegalLaws.{whole_rows}
use Rattle.rows.proofs.are_legal.Given as goal

abbrev pub invariant-loop-row : goal.invariant-loop-row
invariant-loop-row l =
    (goal.iterator-loop-row).can_next l.row-iterator
    × (goal.iterator-loop-row).is_finite l.row-iterator
    × (chunks_exact_size l.row-iterator ≡ row_size)
    × (legal_rows l.rising l.low l.high (rows_in row_of l.n (drop l.from l.s)) ≡ legal_rows l.rising l.least l.high (whole_rows (chunks_exact_rest l.row-iterator)))
