-- What holds where an append is tested. Assumes nothing.
use Rattle.std.specs.Prelude.{ℕ, ◌≡◌, List}
use Rattle.kinds.specs.Sizes.{Who}
use Rattle.state.specs.declared.Head.{Head}
use Rattle.state.specs.Head.{head_in}
use Rattle.promise.specs.Promise.{Ready}

-- What holds where a state is tested: its bytes are ready, and this is their head.
pub record Tested (w : Who) (h : Head) (l : List ℕ) : Type 0 where
  pub ready : Ready w l
  pub head : h ≡ head_in l
