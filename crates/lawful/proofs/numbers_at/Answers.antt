-- `lawful::numbers_at` meets its contract: each number stands where the definition reads it. Assumes nothing.
use Rattle.command.specs.Answers.{numbers_at}
use Rattle.lawful.proofs.numbers_at.Goals as goal

pub returns : goal.returns
unfolding numbers_at
returns c = λ i. record { motor = c.get16.ensures i; kind = c.get16-2.ensures i; duration = c.get32.ensures i; a = c.get32-2.ensures i; b = c.get32-3.ensures i }
