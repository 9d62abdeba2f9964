-- Laws of a legal duration and of a time left: what their casts keep, and that they fit (docs/PORT.md names them). Assumes nothing.
use Prim.Native.Nat.{ℕ, zero, suc, ◌≤◌, ◌<◌}
use native.Mathlib.Omega.{arith}
use mathlib.Core.Path.{◌≡◌, refl, sym, ◌∙◌, ap, subst}
use borrow.Author.Rules.{sfits_of, Fits-under}
use lib.Dec.{T, ltb}
use lib.IntN.{ℤ, pos, nat_abs, ◌-ℤ◌}
use lib.Signed.{mag, non_neg}
use mir.Syntax.{Width, w32, w64}
use mir.Val.{Fits, SFits, to_z, of_z}
use mir.Facts.{to_z-of_z, to_z_pos}
use Rattle.command.specs.Command.{duration_most}
use Rattle.command.proofs.Tests.{by_test}
use Rattle.play.specs.Play.{time_left, elapsed_most, Lasts, Timed}

-- A legal duration is of so many ms.
duration_ms : (n : ℤ) → Timed n → Lasts elapsed_most n
duration_ms n t = record { ms = t.ms; is = t.is; most = omega (arith, t.most) }

-- ---- the ms of a time

-- A number of ms, in any width, is kept by the cast to 32 bits.
module _ (w : Width) (n : ℤ) (fits : SFits w n) (t : Lasts elapsed_most n) where
  ms_kept : T (non_neg (to_z w (of_z w n))) × Fits w32 (nat_abs (to_z w (of_z w n)))
  ms_kept = rw (to_z-of_z fits, t.is) (tt, Fits-under w32 t.ms 0x8000_0000 (omega (arith, t.most)) tt)

  ms_same : nat_abs (to_z w (of_z w n)) ≡ t.ms
  ms_same = rw (to_z-of_z fits, t.is)

  ms_is : pos (nat_abs (to_z w (of_z w n))) ≡ n
  ms_is = ap pos ms_same ∙ sym t.is

-- A legal command's duration.
module _ (n : ℤ) (fits : SFits w32 n) (t : Timed n) where
  pub duration_kept : T (non_neg (to_z w32 (of_z w32 n))) × Fits w32 (nat_abs (to_z w32 (of_z w32 n)))
  duration_kept = ms_kept w32 n fits (duration_ms n t)

  pub duration_is : (pos (nat_abs (to_z w32 (of_z w32 n))) ≡ n) × (nat_abs (to_z w32 (of_z w32 n)) ≤ duration_most)
  unfolding duration_ms
  duration_is = (ms_is w32 n fits (duration_ms n t), omega (arith, ms_same w32 n fits (duration_ms n t), t.most))

-- ---- the time left

mag_left : (d e : ℕ) → d < 4_294_967_296 → e < 4_294_967_296 → mag (pos d -ℤ pos e) < 4_294_967_296
mag_left d zero f g = omega arith
mag_left d (suc e) f g = by_test (ltb d (suc e)) (λ t. rw t (omega arith)) (λ t. rw t (omega arith))

module _ (d e : ℕ) (f : Fits w32 d) (g : Fits w32 e) where
  wide : to_z w64 d -ℤ to_z w64 e ≡ time_left (pos d) (pos e)
  wide =
      let p : to_z w64 d ≡ pos d = to_z_pos w64 (omega arith) in
      let q : to_z w64 e ≡ pos e = to_z_pos w64 (omega arith) in
      λ i. p i -ℤ q i

  pub left_fits : SFits w64 (to_z w64 d -ℤ to_z w64 e)
  left_fits = subst (λ z. SFits w64 z) (sym wide) (sfits_of (omega (arith, mag_left d e (omega arith) (omega arith))))

  pub left_is : to_z w64 (of_z w64 (to_z w64 d -ℤ to_z w64 e)) ≡ time_left (pos d) (pos e)
  left_is = to_z-of_z left_fits ∙ wide
