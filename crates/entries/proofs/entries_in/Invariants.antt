-- `entries::entries_in` meets its contract. The loop's invariant: so many lines were read, the next begins inside the text, and its term is at
-- least that of the last. Assumes nothing.
use Rattle.entries.proofs.EntryLaws.{Walking}
use Rattle.entries.proofs.entries_in.Given as goal

abbrev pub invariant-loop : goal.invariant-loop
invariant-loop l = Walking l.s l.at l.count l.terms.lo l.terms.hi l.next l.counter l.least
