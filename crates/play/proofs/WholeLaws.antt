-- Whole numbers up to 600,000 as binary32: each is that very number. Assumes nothing.
use Prim.Native.Nat.{ℕ, ◌*◌, ◌≤◌, ◌<◌}
use native.Mathlib.Omega.{arith}
use native.Mathlib.Nat.{eq_of_mul-eq-mul_right, mul_right_comm}
use mathlib.Core.Path.{◌≡◌, sym, ◌∙◌, ap}
use mathlib.Core.Bool.{Bool, false}
use lib.Dec.{T}
use lib.IntN.{pos}
use lib.Ieee.{Float, nan, inf, fin, binary32, up, down, of_int, fits}
use lib.Ieee.Exact.{HasValue}
use lib.Ieee.Fits.{of_int-fits}
use lib.Ieee.Back.{round_whole, whole_unique}
use Rattle.command.specs.Command.{duration_most}
use Rattle.play.specs.Play.{whole, IsNumber}
use Rattle.play.specs.Theorems.{WholeIsExact}

pub whole_is_exact : WholeIsExact
unfolding of_int
whole_is_exact n h = round_whole binary32 false n (omega arith)

-- From one fraction to another of the same size.
pub rescale : (x : Float) (s : Bool) (a c a' c' : ℕ) → 0 < c → a' * c ≡ a * c' → HasValue x s a c → HasValue x s a' c'
rescale nan s a c a' c' C h v = v
rescale (inf t) s a c a' c' C h v = v
rescale (fin t m e) s a c a' c' C h v =
    let over : m * up e * c' * c ≡ a' * down e * c =
    mul_right_comm (m * up e) c' c ∙ ap (λ (x : ℕ). x * c') v.1 ∙ mul_right_comm a (down e) c'
    ∙ ap (λ (x : ℕ). x * down e) (sym h) ∙ mul_right_comm a' c (down e) in
    (v.0, eq_of_mul-eq-mul_right c C (m * up e * c') (a' * down e) over)

-- A binary32 that is this number is its conversion: there is one.
pub number_is_whole : (x : Float) (n : ℕ) → n ≤ duration_most → T (fits binary32 x) → IsNumber x n → x ≡ whole (pos n)
number_is_whole x n h t v = whole_unique binary32 x (whole (pos n)) false n t (of_int-fits binary32 (pos n)) v (whole_is_exact n h)
