-- `pairs::gather_row` meets its contract: a held pair whose ballot is not lower stays, and any other row is written. Assumes nothing.
use mathlib.Core.Path.{◌∙◌}
use Rattle.std.proofs.Common.{rules, tests}
use Rattle.pairs.proofs.GatheringLaws.{row_stays, row_raised, row_free}
use Rattle.pairs.proofs.gather_row.Goals as goal
use Rattle.pairs.proofs.gather_row.Goals.{then-not-held-via-then-not-held, then-not-held-via-else-not-held+then-lt}

-- It is written.
pub returns-then-not-held : goal.returns-then-not-held
returns-then-not-held c =
    c.put_row.ensures
    ∙ elim c.then-not-held.branch [ then-not-held-via-then-not-held w ↦ row_free _ _ _ _ _ (search (rules, tests)) | then-not-held-via-else-not-held+then-lt w ↦ row_raised _ _ _ _ _ (search (rules, tests)) ]

-- It stays.
pub returns-else-lt : goal.returns-else-lt
returns-else-lt c = row_stays _ _ _ _ _ (search (rules, tests)) (search (rules, tests))
