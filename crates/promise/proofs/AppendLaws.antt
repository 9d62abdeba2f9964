-- Laws of what holds where an append is tested: the head's numbers are those of the state. Assumes nothing.
use Prim.Native.Nat.{ℕ}
use mathlib.Core.Path.{◌≡◌, ◌∙◌, ap}
use mathlib.Core.List.{List}
use lib.ListN.{length}
use Rattle.kinds.specs.Sizes.{Who}
use Rattle.state.specs.declared.Head.{Head}
use Rattle.state.specs.Image.{state_in}
use Rattle.promise.specs.Append.{Tested}
use Rattle.promise.proofs.PromiseLaws.{ready_term, ready_ballot, ready_length}

module _ (w : Who) (h : Head) (l : List ℕ) (t : Tested w h l) where
  -- The log's length.
  pub tested_length : h.length.0 ≡ length (state_in l).kept.log
  tested_length = ap (λ (x : Head). x.length.0) t.head ∙ ready_length w l t.ready

  -- The ballot.
  pub tested_ballot : h.ballot.0 ≡ (state_in l).kept.ballot
  tested_ballot = ap (λ (x : Head). x.ballot.0) t.head ∙ ready_ballot w l t.ready

  -- The term.
  pub tested_term : h.term.0 ≡ (state_in l).kept.term
  tested_term = ap (λ (x : Head). x.term.0) t.head ∙ ready_term w l t.ready
