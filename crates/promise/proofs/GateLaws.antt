-- Laws of the tests before every event: what is read. Assumes nothing.
use Prim.Native.Nat.{ℕ}
use mathlib.Core.Path.{◌≡◌, refl}
use mathlib.Core.Bool.{Bool, true, false, cond, ◌&&◌}
use mathlib.Core.List.{List}
use mathlib.Core.Option.{Option, none, some}
use lib.Dec.{eqb}
use lib.ListN.{length}
use Rattle.kinds.specs.Sizes.{Who}
use Rattle.state.specs.Legal.{legal_kept, legal_state}
use Rattle.state.specs.Image.{state_size, image, kept_in, state_in, read_state, read_kept}
use Rattle.state.specs.Check.{is_some}
use Rattle.kinds.specs.Same.{same}

some_when : {A : Type 0} (b : Bool) (x : A) → is_some (cond b (some x) none) ≡ true → cond b (some x) none ≡ some x
unfolding is_some
some_when true x h = refl
some_when false x h = cc

-- A state that is read is what the bytes say.
pub read_state_some : (w : Who) (l : List ℕ) → is_some (read_state w l) ≡ true → read_state w l ≡ some (state_in l)
unfolding read_state
read_state_some w l h = some_when (eqb (length l) state_size && (same (image (state_in l)) l && legal_state w (state_in l))) (state_in l) h

-- So are kept parts.
pub read_kept_some : (l : List ℕ) → is_some (read_kept l) ≡ true → read_kept l ≡ some (kept_in l)
unfolding read_kept
read_kept_some l h = some_when (eqb (length l) state_size && legal_kept (kept_in l)) (kept_in l) h

-- Not there: none.
pub none_when : {A : Type 0} (o : Option A) → is_some o ≡ false → o ≡ none
unfolding is_some
none_when none h = refl
none_when (some x) h = cc

-- Nothing is read.
pub read_kept_none : (l : List ℕ) → is_some (read_kept l) ≡ false → read_kept l ≡ none
read_kept_none l h = none_when (read_kept l) h
