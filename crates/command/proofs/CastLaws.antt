-- Laws of a test that a command is legal, and of the cast of a duration that is not below zero (docs/PORT.md names them). Assumes nothing.
use Prim.Native.Nat.{ℕ}
use mathlib.Core.Path.{◌≡◌, sym, ◌∙◌}
use mathlib.Core.Bool.{Bool, true, false, not, true≢false}
use borrow.Author.Tests.{not-false}
use lib.Dec.{T}
use lib.IntN.{ℤ, pos, negsuc, nat_abs}
use lib.Signed.{lt_z, non_neg}
use mir.Syntax.{w32}
use mir.Val.{Fits, SFits, to_z, of_z}
use mir.Facts.{to_z-of_z, Fits-nat_abs}
use Rattle.command.specs.Command.{legal_command}
use Rattle.command.specs.Answers.{of_numbers}
use Rattle.command.specs.declared.Numbers.{Numbers}

-- What a test told, turned round.
pub told_legal : (n : Numbers) (b : Bool) → b ≡ legal_command (of_numbers n) → not b ≡ false → legal_command (of_numbers n) ≡ true
told_legal n b b_is t = sym b_is ∙ not-false b t

-- The code's cast of a signed number that is not below zero keeps the number.
pub cast_kept : (d : ℤ) → SFits w32 d → lt_z d (pos 0) ≡ false → T (non_neg (to_z w32 (of_z w32 d))) × Fits w32 (nat_abs (to_z w32 (of_z w32 d)))
cast_kept (pos n) fits h = rw (to_z-of_z fits) (tt, Fits-nat_abs tt fits)
cast_kept (negsuc n) fits h = absurd (true≢false h)
