-- Gathering where the rows lie: entry by entry, the row behind the log is replaced where its ballot is lower, and a further row is written where none is held.
-- Assumes nothing.
use Rattle.std.specs.Prelude.{ℕ, zero, suc, ◌+◌, Bool, cond, not, ◌&&◌, List, [], ◌∷◌, ltb}
use Rattle.std.proofs.lemmas.List.Edits.{sets}
use Rattle.command.specs.Words.{word_at}
use Rattle.command.specs.Entry.{Entry}
use Rattle.rows.specs.Rows.{row}
use Rattle.kinds.specs.Sizes.{row_size}

-- The bytes after one entry of this ballot came to its row: a held pair stays unless its ballot is lower.
unfoldable pub row_gathered : List ℕ → ℕ → Bool → ℕ → List ℕ → List ℕ
row_gathered l at held ballot new = cond (held && not (ltb (word_at at 4 l) ballot)) l (sets l at new)

-- The bytes after gathering these entries of this ballot into the rows from a place on, of which so many are held.
unfoldable pub gathered_into : List ℕ → ℕ → ℕ → ℕ → List Entry → List ℕ
gathered_into l at held ballot [] = l
gathered_into l at zero ballot (e ∷ es) = gathered_into (sets l at (row ballot e.command)) (at + row_size) zero ballot es
gathered_into l at (suc held) ballot (e ∷ es) =
    gathered_into (cond (ltb (word_at at 4 l) ballot) (sets l at (row ballot e.command)) l) (at + row_size) held ballot es
