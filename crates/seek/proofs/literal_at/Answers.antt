-- `seek::literal_at` meets its contract: it counts how many bytes of the literal stand there. Assumes nothing.
use borrow.Author.Rules.{rules}
use Rattle.std.proofs.lemmas.List.{take_rest}
use Rattle.seek.proofs.LiteralLaws.{literal_stood, literal_wrong}
use Rattle.seek.proofs.literal_at.Goals as goal

-- All of them.
pub returns-then-many-key : goal.returns-then-many-key
returns-then-many-key c = search (rules, literal_stood, take_rest)

-- Fewer.
pub returns-else-many-key : goal.returns-else-many-key
returns-else-many-key c = search (rules, literal_wrong, take_rest)
