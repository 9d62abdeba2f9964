-- What holds of every time left and every drive: gains are values of 0 to 1, and x + (y - x) * part of such values is one again, on y's side of x.
-- Assumes nothing.
use Prim.Native.Nat.{ℕ, ◌≤◌, ◌<◌}
use mathlib.Core.Path.{◌≡◌, sym, subst}
use mathlib.Core.Logic.{⊎_elim}
use mathlib.Core.Bool.{true, false, false≢true, not, ◌&&◌}
use borrow.Author.Tests.{leb-false, le-leb, not-true}
use lib.Dec.{T, leb}
use lib.IntN.{ℤ, pos, negsuc}
use lib.Ieee.{Float, binary32, to_bits, div, lt, le, fits}
use lib.Ieee.Bits.{of_bits-fits}
use Rattle.std.specs.Prelude.{Result, Err}
use Rattle.kinds.specs.declared.Refusal.{Refusal}
use Rattle.kinds.specs.declared.Refusal.TheVariants.{NotPlayable, BadCalibration, BadElapsed}
use Rattle.kinds.proofs.BoolLaws.{and_first, and_second}
use Rattle.command.specs.Command.{Command, is_gain, legal_command, command_of, duration_most}
use Rattle.command.specs.Case.{case_of, motion_of}
use Rattle.command.specs.Answers.{is_command}
use Rattle.command.specs.declared.Case.{Case}
use Rattle.command.specs.declared.Case.TheVariants.{Stop, Buzz, Ramp}
use Rattle.command.proofs.Tests.{by_test}
use Rattle.command.proofs.CommandLaws.{legal_fields}
use Rattle.command.proofs.AnswersLaws.{is_command_legal}
use Rattle.floats.proofs.WithinLaws.{Small, between_part, between_least, between_none, rises_within, falls_within, rises, falls}
use Rattle.play.specs.Play.{gain, nought, whole, between, held, level_of, drive_of, drive_at, is_calibration, is_elapsed, Timed}
use Rattle.play.specs.Answer.{drives, motion_played, played, result_of, calibration_of}
use Rattle.play.specs.Theorems.{OnRamp, LevelIsUnheld, LevelBegins, LevelRisesWithin, LevelFallsWithin, LevelRises, LevelFalls}
use Rattle.play.specs.Theorems.{DriveIsUnheld, DriveIsNotBelowFloor, DriveFollowsLevel, DriveIsGain, OverdueIsNoError}
use Rattle.play.specs.declared.Calibration.{Calibration}
use Rattle.play.specs.declared.Drives.{Drives}
use Rattle.play.proofs.PlayLaws.{drive_none}
use Rattle.play.proofs.GainLaws.{Gain, gain_of_bits, gain_of, gain_bits, gain_nought, nought_least, above_nought, held_gain}
use Rattle.play.proofs.GainLaws.{quotient, quotient_small, quotient_none, quotient_grows}
use Rattle.play.proofs.AnswerLaws.{legal_timed}

-- ---- a ramp's level

-- Moving between two gains by a gain, and holding.
moved_gain : (x y part : Float) → Gain x → Gain y → Gain part → Gain (held (between x y part))
moved_gain x y part g h b =
    let z = between_part binary32 x y part g h b in
    subst (λ k. Gain k) (sym (held_gain _ z)) z

unheld : (x y part : Float) → Gain x → Gain y → Gain part → held (between x y part) ≡ between x y part
unheld x y part g h b = held_gain _ (between_part binary32 x y part g h b)

-- A ramp: its two gains, and the part of its duration that has elapsed.
module _ {from to duration elapsed : ℕ} (r : OnRamp from to duration elapsed) where
  from_gain : Gain (gain from)
  from_gain = gain_of_bits from r.from_in

  to_gain : Gain (gain to)
  to_gain = gain_of_bits to r.to_in

  part : Gain (div binary32 (whole (pos elapsed)) (whole (pos duration)))
  part = (quotient duration r.most elapsed r.during).part

  small : Small binary32 part.at
  unfolding part
  small = quotient_small duration r.most elapsed r.during

pub level_is_unheld : LevelIsUnheld
unfolding level_of
level_is_unheld from to duration elapsed r = unheld _ _ _ (from_gain r) (to_gain r) (part r)

pub level_begins : LevelBegins
unfolding part
level_begins from to duration r =
    rw (level_is_unheld from to duration 0 r)
    (between_none binary32 _ _ _ (from_gain r) (to_gain r) (part r) (quotient_none duration r.most r.during))

pub level_rises_within : LevelRisesWithin
level_rises_within from to duration elapsed r h =
    rw (level_is_unheld from to duration elapsed r) (rises_within binary32 _ _ _ (from_gain r) (to_gain r) (part r) (small r) h)

pub level_falls_within : LevelFallsWithin
level_falls_within from to duration elapsed r h =
    rw (level_is_unheld from to duration elapsed r) (falls_within binary32 _ _ _ (from_gain r) (to_gain r) (part r) (small r) h)

-- Later, the part is no less.
module _ {from to duration elapsed later : ℕ} (r : OnRamp from to duration elapsed) (s : OnRamp from to duration later) (g : elapsed ≤ later) where
  more : le (div binary32 (whole (pos elapsed)) (whole (pos duration))) (div binary32 (whole (pos later)) (whole (pos duration))) ≡ true
  more = quotient_grows duration r.most elapsed later r.during s.during g

pub level_rises : LevelRises
level_rises from to duration elapsed later r s g h =
    rw (level_is_unheld from to duration elapsed r, level_is_unheld from to duration later s)
    (rises binary32 _ _ _ (from_gain r) (to_gain r) (part r) _ (part s) (more r s g) h)

pub level_falls : LevelFalls
level_falls from to duration elapsed later r s g h =
    rw (level_is_unheld from to duration elapsed r, level_is_unheld from to duration later s)
    (falls binary32 _ _ _ (from_gain r) (to_gain r) (part r) _ (part s) (more r s g) h)

-- ---- drives

-- A calibration whose gains are binary32 numbers, and that is not refused.
record Calibrated (cal : Calibration) : Type 0 where
  floor_in : Gain cal.floor
  ceiling_in : Gain cal.ceiling
  in_order : lt cal.ceiling cal.floor ≡ false

calibrated : (cal : Calibration) → T (fits binary32 cal.floor) → T (fits binary32 cal.ceiling) → is_calibration cal ≡ true → Calibrated cal
unfolding is_calibration
calibrated cal f c h =
    let a = is_gain (to_bits binary32 cal.floor) in
    let b = is_gain (to_bits binary32 cal.ceiling) in
    let o = not (lt cal.ceiling cal.floor) in
    let rest = and_second a (b && o) h in
    record {
      floor_in = gain_of _ f (and_first a (b && o) h);
      ceiling_in = gain_of _ c (and_first b o rest);
      in_order = not-true _ (and_second b o rest);
    }

module _ (cal : Calibration) (k : Calibrated cal) where
  drive_unheld : (level : Float) → Gain level → lt nought level ≡ true → drive_of cal level ≡ between cal.floor cal.ceiling level
  unfolding drive_of
  drive_unheld level g t = rw t (unheld _ _ level k.floor_in k.ceiling_in g)

  drive_gain : (level : Float) → Gain level → Gain (drive_of cal level)
  drive_gain level g =
      by_test (lt nought level)
      (λ t. subst (λ z. Gain z) (sym (drive_unheld level g t)) (between_part binary32 _ _ level k.floor_in k.ceiling_in g))
      (λ t. subst (λ z. Gain z) (drive_none cal level t) gain_nought)

  drive_least : (level : Float) → Gain level → lt nought level ≡ true → le cal.floor (drive_of cal level) ≡ true
  drive_least level g t =
      rw (drive_unheld level g t) (between_least binary32 _ _ level k.floor_in k.ceiling_in g k.in_order)

  drive_follows : (level higher : Float) → Gain level → Gain higher → le level higher ≡ true → le (drive_of cal level) (drive_of cal higher) ≡ true
  drive_follows level higher g h l =
      by_test (lt nought level)
      (λ t.
      rw (drive_unheld level g t, drive_unheld higher h (above_nought level higher g h l t))
      (rises binary32 _ _ level k.floor_in k.ceiling_in g higher h l k.in_order))
      (λ t. rw (sym (drive_none cal level t)) (nought_least _ (drive_gain higher h)))

-- Of a calibration given by its bits.
of_bits_lem : (floor ceiling : ℕ) → is_calibration (calibration_of floor ceiling) ≡ true → Calibrated (calibration_of floor ceiling)
of_bits_lem floor ceiling = calibrated (calibration_of floor ceiling) (of_bits-fits binary32 floor) (of_bits-fits binary32 ceiling)

pub drive_is_unheld : DriveIsUnheld
drive_is_unheld floor ceiling level k t = drive_unheld _ (of_bits_lem floor ceiling k.calibrated) _ (gain_of_bits level k.level_in) t

pub drive_is_not_below_floor : DriveIsNotBelowFloor
drive_is_not_below_floor floor ceiling level k t = drive_least _ (of_bits_lem floor ceiling k.calibrated) _ (gain_of_bits level k.level_in) t

pub drive_follows_level : DriveFollowsLevel
drive_follows_level floor ceiling level higher k h l =
    drive_follows _ (of_bits_lem floor ceiling k.calibrated) _ _ (gain_of_bits level k.level_in) (gain_of_bits higher h.level_in) l

-- ---- every call

-- The gains of a case are gains.
abbrev Gains : Case → Type 0
Gains Stop = Unit
Gains (Buzz level) = Gain level
Gains (Ramp from to) = Gain from × Gain to

legal_gains : (c : Command) → legal_command c ≡ true → Gains (case_of c.kind c.a c.b)
unfolding case_of is_gain
legal_gains c h =
    let of : (k : ℕ) → c.kind ≡ k → Gains (case_of k c.a c.b) → Gains (case_of c.kind c.a c.b) =
    λ k e. subst (λ j. Gains (case_of j c.a c.b)) (sym e) in
    ⊎_elim (λ s. of 0 s.kind_is tt)
    (⊎_elim (λ b. of 1 b.kind_is (gain_of_bits c.a (le-leb _ _ b.a_in)))
    (λ r. of 2 r.kind_is (gain_of_bits c.a (le-leb _ _ r.a_in), gain_of_bits c.b (le-leb _ _ r.b_in))))
    (legal_fields c h).kinds

level_gain : (case : Case) (d e : ℕ) → Gains case → e < d → d ≤ duration_most → Gain (level_of case (pos d) (pos e))
unfolding level_of
level_gain Stop d e g l m = gain_nought
level_gain (Buzz level) d e g l m = g
level_gain (Ramp from to) d e g l m = moved_gain from to _ g.0 g.1 (quotient d m e l).part

drive_at_gain : (cal : Calibration) → Calibrated cal → (case : Case) (duration elapsed : ℤ)
    → Gains case → Timed duration → is_elapsed elapsed ≡ true
    → Gain (drive_at cal case duration elapsed)
unfolding drive_at is_elapsed
drive_at_gain cal k case duration (pos e) g t u =
    by_test (leb t.ms e) (λ l. rw (t.is, l) gain_nought)
    (λ l. rw (t.is, l) (drive_gain cal k _ (level_gain case t.ms e g (leb-false t.ms e l) t.most)))
drive_at_gain cal k case duration (negsuc e) g t u = absurd (false≢true u)

-- What an answer drives is a gain; a refusal drives +0.
abbrev DrivesGain : Result Drives Refusal → Type 0
DrivesGain p = is_gain (result_of p).drive ≡ true

refusal : (r : Refusal) → DrivesGain (Err r)
refusal r = gain_bits nought gain_nought

pub drive_is_gain : DriveIsGain
unfolding played motion_played drives motion_of
drive_is_gain l elapsed floor ceiling =
    let cal = calibration_of floor ceiling in
    by_test (is_command l)
    (λ t.
    by_test (is_calibration cal)
    (λ c.
    by_test (is_elapsed elapsed)
    (λ e.
    let legal = is_command_legal l t in
    rw (t, c, e) (gain_bits _ (drive_at_gain cal (of_bits_lem floor ceiling c) _ _ elapsed (legal_gains (command_of l) legal) (legal_timed (command_of l) legal) e)))
    (λ e. rw (t, c, e) (refusal BadElapsed)))
    (λ c. rw (t, c) (refusal BadCalibration)))
    (λ t. rw t (refusal NotPlayable))

pub overdue_is_no_error : OverdueIsNoError
unfolding played motion_played drives drive_at
overdue_is_no_error l elapsed cal t c e past = rw (t, c, e, past)
