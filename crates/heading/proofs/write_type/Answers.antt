-- `heading::write_type` meets its contract: each type has its line. Assumes nothing.
use mathlib.Core.Path.{subst, sym}
use Rattle.output.specs.Added.{Added}
use Rattle.heading.specs.Heading.{type_text}
use Rattle.heading.proofs.write_type.Goals as goal

pub returns-in-VoteRequest : goal.returns-in-VoteRequest
unfolding type_text
returns-in-VoteRequest c = subst (λ b. Added c.args.out.now (type_text b) c.put.new.self) (sym c.in-VoteRequest.is) c.put.ensures
