-- Laws of the answer: one for each way through the code, and that there is one answer. Assumes nothing.
use Prim.Native.Nat.{ℕ}
use native.Mathlib.Omega.{arith}
use mathlib.Core.Path.{◌≡◌, refl, sym, ◌∙◌, ap}
use mathlib.Core.Logic.{⊎_elim}
use mathlib.Core.Bool.{true, false, false≢true}
use mathlib.Core.List.{List}
use borrow.Author.Tests.{leb-true}
use lib.Dec.{leb}
use lib.IntN.{ℤ, pos, negsuc}
use Rattle.std.specs.Prelude.{Ok, Err}
use Rattle.kinds.specs.declared.Refusal.{Refusal}
use Rattle.kinds.specs.declared.Refusal.TheVariants.{BadCommand, NotPlayable, BadCalibration, BadElapsed}
use Rattle.kinds.proofs.BoolLaws.{and_second}
use Rattle.kinds.proofs.Clash.{clash}
use Rattle.command.specs.Command.{Command, duration_most, is_duration, legal_command, command_of}
use Rattle.command.specs.Case.{motion_of}
use Rattle.command.specs.Answers.{is_command, motion_read, ReadsCommand}
use Rattle.command.specs.declared.Motion.{Motion}
use Rattle.command.proofs.Tests.{by_test}
use Rattle.command.proofs.CommandLaws.{legal_fields}
use Rattle.command.proofs.AnswersLaws.{is_command_legal}
use Rattle.play.specs.Play.{Timed, is_calibration, is_elapsed}
use Rattle.play.specs.Answer.{drives, motion_played, played, PlayResult, IsPlayed}
use Rattle.play.specs.declared.Calibration.{Calibration}

-- ---- what is read of bytes

duration_timed : (d : ℤ) → is_duration d ≡ true → Timed d
unfolding is_duration
duration_timed (pos n) h = record { ms = n; is = refl; most = leb-true n duration_most (and_second (leb 1 n) _ h) }
duration_timed (negsuc n) h = absurd (false≢true h)

-- A legal command's is.
pub legal_timed : (c : Command) → legal_command c ≡ true → Timed c.duration
legal_timed c h =
    ⊎_elim (λ s. record { ms = 0; is = s.duration_is; most = omega arith })
    (⊎_elim (λ b. duration_timed _ b.duration_in) (λ r. duration_timed _ r.duration_in)) (legal_fields c h).kinds

-- What bytes were read as: a motion,
module _ (l : List ℕ) (m : Motion) (h : ReadsCommand l (Ok m)) where
  read_legal : is_command l ≡ true
  unfolding motion_read
  read_legal = by_test (is_command l) (λ t. t) (λ t. let e : Ok m ≡ Err BadCommand = rw t at h.answer in clash cc)

  read_motion : m ≡ motion_of (command_of l)
  unfolding motion_read
  read_motion = let e : Ok m ≡ Ok (motion_of (command_of l)) = rw read_legal at h.answer in cc

  pub read_timed : Timed m.duration
  unfolding motion_of
  read_timed =
      let t = legal_timed (command_of l) (is_command_legal l read_legal) in
      record { ms = t.ms; is = ap (λ k. k.duration) read_motion ∙ t.is; most = t.most }

  -- played: refused for its calibration first, then for the elapsed time,
  module _ (elapsed : ℤ) (cal : Calibration) where
    played_legal : motion_played m elapsed cal ≡ played l elapsed cal
    unfolding played
    played_legal = rw read_legal (ap (λ k. motion_played k elapsed cal) read_motion)

    pub played_bad_calibration : is_calibration cal ≡ false → Err BadCalibration ≡ played l elapsed cal
    unfolding motion_played
    played_bad_calibration g = rw g at played_legal

    pub played_bad_elapsed : is_calibration cal ≡ true → is_elapsed elapsed ≡ false → Err BadElapsed ≡ played l elapsed cal
    unfolding motion_played
    played_bad_elapsed g e = rw (g, e) at played_legal

    pub played_drives : is_calibration cal ≡ true → is_elapsed elapsed ≡ true → Ok (drives m elapsed cal) ≡ played l elapsed cal
    unfolding motion_played
    played_drives g e = rw (g, e) at played_legal

-- or none.
module _ (l : List ℕ) (r : Refusal) (h : ReadsCommand l (Err r)) where
  read_illegal : is_command l ≡ false
  unfolding motion_read
  read_illegal =
      by_test (is_command l)
      (λ t. let e : Err r ≡ Ok (motion_of (command_of l)) = rw t at h.answer in clash cc) (λ t. t)

  pub played_illegal : (elapsed : ℤ) (cal : Calibration) → Err NotPlayable ≡ played l elapsed cal
  unfolding played
  played_illegal elapsed cal = rw read_illegal

-- ---- one answer

-- No second outcome, time left and drive meet the promise.
pub played_unique : {w : PlayResult} {outcome outcome' : ℕ} {left left' : ℤ} {drive drive' : ℕ}
    → IsPlayed w outcome left drive → IsPlayed w outcome' left' drive'
    → (outcome ≡ outcome') × (left ≡ left') × (drive ≡ drive')
played_unique a b = (a.outcome_is ∙ sym b.outcome_is, a.left_is ∙ sym b.left_is, a.drive_is ∙ sym b.drive_is)
