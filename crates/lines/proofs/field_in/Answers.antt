-- `lines::field_in` meets its contract: the key, then the number. Assumes nothing.
use borrow.Author.Rules.{rules}
use Rattle.lines.proofs.FieldLaws.{line_no_key, line_read}
use Rattle.lines.proofs.field_in.Goals as goal

-- Another key stands there.
pub returns-in_err-at : goal.returns-in_err-at
returns-in_err-at c = search (rules, line_no_key)

-- The number decides.
pub returns : goal.returns
returns c = search (rules, line_read)
