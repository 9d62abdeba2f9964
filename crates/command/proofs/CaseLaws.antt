-- Laws of a command's case: a legal command and its motion give each other back, gains by their bits; and no NaN is a gain. Assumes nothing.
use Prim.Native.Nat.{ℕ, zero, suc, ◌≤◌, ◌%◌}
use native.Mathlib.Omega.{arith}
use native.Mathlib.Nat.{mod-eq_of_lt}
use mathlib.Core.Path.{◌≡◌, refl, sym, ◌∙◌, ap, subst}
use mathlib.Core.Logic.{⊎_elim}
use mathlib.Core.Bool.{Bool, true, false, not}
use borrow.Author.Tests.{le-ltb}
use lib.Dec.{T, ltb}
use lib.Ieee.{nan, binary32, to_bits, of_bits, is_nan, nan_bits, fits}
use lib.Ieee.Bits.{nan_bits_above, nan_bits_is, to_bits-of_bits, of_bits-to_bits}
use Rattle.command.specs.Command.{Command, is_gain, legal_command}
use Rattle.command.specs.Case.{kind_of, a_of, b_of, command_is, case_of, motion_of}
use Rattle.command.specs.declared.Case.{Case}
use Rattle.command.specs.declared.Case.TheVariants.{Stop, Buzz, Ramp}
use Rattle.command.specs.declared.Motion.{Motion}
use Rattle.command.proofs.CommandLaws.{legal_fields}

-- ---- gains

-- A NaN is no gain.
pub nan_is_no_gain : is_gain (to_bits binary32 nan) ≡ false
unfolding is_gain to_bits
nan_is_no_gain = refl

module _ (bits : ℕ) where
  -- Bits that, without their sign, are not above the infinity's are no NaN's.
  pub bits_no_nan : bits % 0x8000_0000 ≤ 0x7f80_0000 → T (not (nan_bits binary32 bits))
  bits_no_nan h =
      let t : nan_bits binary32 bits ≡ false = nan_bits_above binary32 bits ∙ le-ltb 0x7f80_0000 (bits % 0x8000_0000) h in
      rw t tt

module _ (bits : ℕ) (h : bits ≤ 0x3f80_0000) where
  -- A gain's bits are no NaN's.
  pub gain_no_nan : nan_bits binary32 bits ≡ false
  gain_no_nan =
      let small : bits % 0x8000_0000 ≡ bits = mod-eq_of_lt (omega arith) in
      nan_bits_above binary32 bits ∙ ap (λ (k : ℕ). ltb 0x7f80_0000 k) small ∙ le-ltb 0x7f80_0000 bits (omega arith)

  pub gain_real : T (not (nan_bits binary32 bits))
  gain_real = rw gain_no_nan tt

  -- The float of a gain's bits has these bits.
  pub gain_back : to_bits binary32 (of_bits binary32 bits) ≡ bits
  gain_back =
      let real : is_nan (of_bits binary32 bits) ≡ false = sym (nan_bits_is binary32 bits) ∙ gain_no_nan in
      to_bits-of_bits binary32 bits (omega arith) (subst (λ (b : Bool). T (not b)) (sym real) tt)

-- ---- commands and motions

-- A kind of 2 or more is a ramp.
pub case_of_ramp : (kind a b : ℕ) → 2 ≤ kind → case_of kind a b ≡ Ramp (of_bits binary32 a) (of_bits binary32 b)
unfolding case_of
case_of_ramp zero a b h = absurd (omega arith)
case_of_ramp (suc zero) a b h = absurd (omega arith)
case_of_ramp (suc (suc kind)) a b h = refl

same_command : (c : Command) (k : Case) → case_of c.kind c.a c.b ≡ k →
    kind_of k ≡ c.kind → a_of k ≡ c.a → b_of k ≡ c.b → command_is (motion_of c) ≡ c
unfolding command_is motion_of
same_command c k e p q r =
    λ i. record { motor = c.motor; kind = (ap kind_of e ∙ p) i; duration = c.duration; a = (ap a_of e ∙ q) i; b = (ap b_of e ∙ r) i }

-- The command of a legal command's motion is that command.
pub command_is_motion : (c : Command) → legal_command c ≡ true → command_is (motion_of c) ≡ c
unfolding case_of
command_is_motion c h =
    let of : ℕ → Case = λ kind. case_of kind c.a c.b in
    ⊎_elim (λ s. same_command c Stop (ap of s.kind_is) (sym s.kind_is) (sym s.a_is) (sym s.b_is))
    (⊎_elim
    (λ b. same_command c (Buzz (of_bits binary32 c.a)) (ap of b.kind_is) (sym b.kind_is) (gain_back c.a b.a_in) (sym b.b_is))
    (λ r. same_command c (Ramp (of_bits binary32 c.a) (of_bits binary32 c.b)) (ap of r.kind_is) (sym r.kind_is)
    (gain_back c.a r.a_in) (gain_back c.b r.b_in)))
    (legal_fields c h).kinds

-- The gains of a case are values of the float type: every f32 in code is.
abbrev pub Floats : Case → Type 0
Floats Stop = Unit
Floats (Buzz gain) = T (fits binary32 gain)
Floats (Ramp from to) = T (fits binary32 from) × T (fits binary32 to)

case_of_back : (k : Case) → Floats k → case_of (kind_of k) (a_of k) (b_of k) ≡ k
unfolding case_of
case_of_back Stop f = refl
case_of_back (Buzz gain) f = ap Buzz (of_bits-to_bits binary32 gain f)
case_of_back (Ramp from to) f = λ i. Ramp (of_bits-to_bits binary32 from f.0 i) (of_bits-to_bits binary32 to f.1 i)

-- The motion of a motion's command is that motion.
pub motion_of_command : (m : Motion) → Floats m.case → motion_of (command_is m) ≡ m
unfolding command_is motion_of
motion_of_command m f = λ i. record { motor = m.motor; duration = m.duration; case = case_of_back m.case f i }
