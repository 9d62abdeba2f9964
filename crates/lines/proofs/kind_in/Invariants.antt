-- `lines::kind_in` meets its contract. The loop's invariant: what is looked for among all types is what is looked for among those that are left. Assumes nothing.
use Rattle.lines.proofs.TypeLaws.{Left}
use Rattle.lines.proofs.kind_in.Given as goal

abbrev pub invariant-loop-kind : goal.invariant-loop-kind
invariant-loop-kind l = Left l.s l.at l.kind-items l.kind-index
