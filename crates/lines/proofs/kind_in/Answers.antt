-- `lines::kind_in` meets its contract: the names of the types are tried one after the other. Assumes nothing.
use borrow.Author.Rules.{rules}
use mathlib.Core.Path.{refl}
use Rattle.message.specs.Text.{types}
use Rattle.lines.proofs.TypeLaws.{type_here, type_next, type_never}
use Rattle.lines.proofs.kind_in.Goals as goal

-- At first all are left.
pub loop-kind-init : goal.loop-kind-init
unfolding types
loop-kind-init c = refl

-- The name of the next stands there.
pub returns-in-Some : goal.returns-in-Some
returns-in-Some c = search (rules, type_here)

-- It does not.
pub loop-kind-preserved : goal.loop-kind-preserved
loop-kind-preserved c = search (rules, type_next)

-- None is left.
pub returns : goal.returns
returns c = search (rules, type_never)
