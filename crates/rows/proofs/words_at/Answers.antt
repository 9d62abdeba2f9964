-- `rows::words_at` meets its contract: each word stands where the definition reads it. Assumes nothing.
use Rattle.rows.specs.Words.{words_at}
use Rattle.rows.proofs.words_at.Goals as goal

pub returns : goal.returns
unfolding words_at
returns c = λ i. record { what = c.get32.ensures i; duration = c.get32-2.ensures i; a = c.get32-3.ensures i; b = c.get32-4.ensures i }
