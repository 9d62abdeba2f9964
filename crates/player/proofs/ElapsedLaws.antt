-- Laws of an elapsed time in range: it is of so many ms, which the cast to 32 bits keeps. Assumes nothing.
use native.Mathlib.Omega.{arith}
use mathlib.Core.Path.{◌≡◌, refl}
use mathlib.Core.Bool.{true, false≢true}
use borrow.Author.Tests.{leb-true}
use borrow.Author.Rules.{Fits-under}
use lib.Dec.{T, leb}
use lib.IntN.{ℤ, pos, negsuc, nat_abs}
use lib.Signed.{non_neg}
use mir.Syntax.{w32}
use mir.Val.{Fits}
use Rattle.kinds.proofs.BoolLaws.{and_second}
use Rattle.play.specs.Play.{elapsed_most, is_elapsed}

pub elapsed_kept : (n : ℤ) → is_elapsed n ≡ true → T (non_neg n) × Fits w32 (nat_abs n)
unfolding is_elapsed
elapsed_kept (pos n) h = (tt, Fits-under w32 n 0x8000_0000 (omega (arith, leb-true n elapsed_most (and_second (leb 0 n) _ h))) tt)
elapsed_kept (negsuc n) h = absurd (false≢true h)

pub elapsed_is : (n : ℤ) → is_elapsed n ≡ true → pos (nat_abs n) ≡ n
unfolding is_elapsed
elapsed_is (pos n) h = refl
elapsed_is (negsuc n) h = absurd (false≢true h)
