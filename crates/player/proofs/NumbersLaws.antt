-- Laws of playing by C's numbers: a calibration from its bits, and an answer by its numbers (docs/PORT.md names them). Assumes nothing.
use Prim.Native.Nat.{ℕ}
use mathlib.Core.Path.{◌≡◌, refl, sym, ◌∙◌, subst}
use mathlib.Core.List.{List}
use lib.IntN.{ℤ}
use lib.Ieee.{Float, binary32, of_bits, to_bits}
use mir.Syntax.{w64}
use mir.Val.{SFits, to_z, of_z}
use mir.Facts.{to_z-of_z}
use Rattle.std.specs.Prelude.{Result, Ok}
use Rattle.kinds.specs.Outcome.{done}
use Rattle.kinds.specs.declared.Refusal.{Refusal}
use Rattle.play.specs.Answer.{played, result_of, calibration_of, IsPlayed}
use Rattle.play.specs.declared.Calibration.{Calibration}
use Rattle.play.specs.declared.Drives.{Drives}

-- By the floats of its bits.
pub calibration_bits : (floor ceiling : ℕ) (x y : Float) → x ≡ of_bits binary32 floor → y ≡ of_bits binary32 ceiling
    → ◌≡◌ {A = Calibration} (record { floor = x; ceiling = y }) (calibration_of floor ceiling)
calibration_bits floor ceiling x y e f = λ i. record { floor = e i; ceiling = f i }

-- A time left and a drive, by its numbers.
pub drives_numbers : (p : Result Drives Refusal) (left : ℤ) (gain : Float) (drive : ℕ) → SFits w64 left → p ≡ Ok (record { left = left; drive = gain }) → drive ≡ to_bits binary32 gain
    → IsPlayed (result_of p) done (to_z w64 (of_z w64 left)) drive
drives_numbers p left gain drive fits is e =
    subst (λ q. IsPlayed (result_of q) done (to_z w64 (of_z w64 left)) drive) (sym is)
    (record { outcome_is = refl; left_is = to_z-of_z fits; drive_is = e })

-- The whole call.
pub played_numbers : (l : List ℕ) (elapsed : ℤ) (floor ceiling : ℕ) (cal : Calibration) (p : Result Drives Refusal) (outcome : ℕ) (left : ℤ) (drive : ℕ)
    → SFits w64 elapsed → cal ≡ calibration_of floor ceiling → p ≡ played l (to_z w64 (of_z w64 elapsed)) cal
    → IsPlayed (result_of p) outcome left drive
    → IsPlayed (result_of (played l elapsed (calibration_of floor ceiling))) outcome left drive
played_numbers l elapsed floor ceiling cal p outcome left drive fits e f h =
    subst (λ q. IsPlayed (result_of q) outcome left drive) (f ∙ (λ i. played l (to_z-of_z fits i) (e i))) h
