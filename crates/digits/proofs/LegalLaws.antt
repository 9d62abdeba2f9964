-- A command is legal by the digits of its numbers: the tests of the code, by the limits of each kind. Assumes nothing.
use Prim.Native.Nat.{ℕ, zero, suc, ◌<◌}
use native.Mathlib.Omega.{arith}
use mathlib.Core.Path.{◌≡◌, refl, ◌∙◌}
use mathlib.Core.Bool.{Bool, true, false, ◌&&◌, cond, and_assoc}
use lib.Dec.{leb, eqb}
use borrow.Author.Tests.{lt-leb}
use Rattle.command.specs.Words.{word, value, signed}
use Rattle.command.specs.Command.{legal_command, gain_most}
use Rattle.command.specs.Answers.{command_with}
use Rattle.lawful.specs.Limits.{limits_of}
use Rattle.lawful.proofs.LimitLaws.{legal_limits}
use Rattle.text.specs.Hex.{hex_digit, hex}
use Rattle.digits.specs.Digits.{in_digits}
use Rattle.digits.specs.Legal.{Tells}
use Rattle.digits.proofs.OrderLaws.{in_digits_le, in_digits_eq}

-- ---- the limits of a kind, in numbers

-- The tests of the code with the numbers themselves.
abbrev tested : ℕ → ℕ → ℕ → ℕ → ℕ → Bool
tested m k d x y =
    leb k 2 && leb 1 m && leb m 64
    && leb (cond (eqb k 0) 0 1) d
    && leb d (cond (eqb k 0) 0 600_000)
    && leb x (cond (eqb k 0) 0 gain_most)
    && leb y (cond (eqb k 2) gain_most 0)

tested_legal : (m k d x y : ℕ) → tested m k d x y ≡ legal_command (command_with m k (signed d) x y)
unfolding limits_of
tested_legal m zero d x y = simp and_assoc (simp and_assoc at (legal_limits m d x y 0))
tested_legal m (suc zero) d x y = simp and_assoc (simp and_assoc at (legal_limits m d x y 1))
tested_legal m (suc (suc zero)) d x y = simp and_assoc (simp and_assoc at (legal_limits m d x y 2))
tested_legal m (suc (suc (suc k))) d x y = rw (lt-leb (suc (suc (suc k))) 2 (omega arith)) (legal_limits m d x y (suc (suc (suc k))))

-- ---- the same in digits

module _ (u p q : ℕ) (hu : u < 4_294_967_296) (hp : p < 4_294_967_296) (hq : q < 4_294_967_296) where
  -- At least one of two limits.
  from_limit : (t : Bool) → leb (cond t (in_digits 4 p) (in_digits 4 q)) (in_digits 4 u) ≡ leb (cond t p q) u
  from_limit true = in_digits_le 4 p u hp hu
  from_limit false = in_digits_le 4 q u hq hu

  -- At most one of two limits.
  to_limit : (t : Bool) → leb (in_digits 4 u) (cond t (in_digits 4 p) (in_digits 4 q)) ≡ leb u (cond t p q)
  to_limit true = in_digits_le 4 u p hu hp
  to_limit false = in_digits_le 4 u q hu hq

module _ (m k d x y : ℕ) where
  -- The tests of the code, with the digits of each number.
  abbrev in_digits_lem : Bool
  in_digits_lem =
      leb (in_digits 2 k) (in_digits 2 2) && leb (in_digits 2 1) (in_digits 2 m) && leb (in_digits 2 m) (in_digits 2 64)
      && leb (cond (eqb (in_digits 2 k) (in_digits 2 0)) (in_digits 4 0) (in_digits 4 1)) (in_digits 4 d)
      && leb (in_digits 4 d) (cond (eqb (in_digits 2 k) (in_digits 2 0)) (in_digits 4 0) (in_digits 4 600_000))
      && leb (in_digits 4 x) (cond (eqb (in_digits 2 k) (in_digits 2 0)) (in_digits 4 0) (in_digits 4 gain_most))
      && leb (in_digits 4 y) (cond (eqb (in_digits 2 k) (in_digits 2 2)) (in_digits 4 gain_most) (in_digits 4 0))

  in_digits_tested : m < 65_536 → k < 65_536 → d < 4_294_967_296 → x < 4_294_967_296 → y < 4_294_967_296 → in_digits_lem ≡ tested m k d x y
  in_digits_tested hm hk hd hx hy =
      rw (
        in_digits_le 2 k 2 hk (omega arith),
        in_digits_le 2 1 m (omega arith) hm,
        in_digits_le 2 m 64 hm (omega arith),
        in_digits_eq 2 k 0 hk (omega arith),
        in_digits_eq 2 k 2 hk (omega arith),
        from_limit d 0 1 hd (omega arith) (omega arith) (eqb k 0),
        to_limit d 0 600_000 hd (omega arith) (omega arith) (eqb k 0),
        to_limit x 0 gain_most hx (omega arith) (omega arith) (eqb k 0),
        to_limit y gain_most 0 hy (omega arith) (omega arith) (eqb k 2),
      )

-- ---- the constants of the code

-- The digits of motors 1 and 64, of kinds 0 and 2, of the numbers 0, 1 and 600,000, and of the greatest gain.
constants :
    (in_digits 2 1 ≡ 0x3030_3031)
    × (in_digits 2 64 ≡ 0x3030_3430)
    × (in_digits 2 0 ≡ 0x3030_3030)
    × (in_digits 2 2 ≡ 0x3030_3032)
    × (in_digits 4 0 ≡ 0x3030_3030_3030_3030)
    × (in_digits 4 1 ≡ 0x3030_3030_3030_3031)
    × (in_digits 4 600_000 ≡ 0x3030_3039_3237_6330)
    × (in_digits 4 gain_most ≡ 0x3366_3830_3030_3030)
unfolding in_digits value hex word hex_digit
constants = (refl, refl, refl, refl, refl, refl, refl, refl)

-- The code's tests tell whether the command is legal, with the limits that it picks by kind.
pub digits_tell : {motor kind duration a b least most a_most b_most : ℕ} →
    least ≡ cond (eqb kind 0x3030_3030) 0x3030_3030_3030_3030 0x3030_3030_3030_3031 →
    most ≡ cond (eqb kind 0x3030_3030) 0x3030_3030_3030_3030 0x3030_3039_3237_6330 →
    a_most ≡ cond (eqb kind 0x3030_3030) 0x3030_3030_3030_3030 0x3366_3830_3030_3030 →
    b_most ≡ cond (eqb kind 0x3030_3032) 0x3366_3830_3030_3030 0x3030_3030_3030_3030 →
    Tells motor kind duration a b
    (leb kind 0x3030_3032 && leb 0x3030_3031 motor && leb motor 0x3030_3430
    && leb least duration && leb duration most && leb a a_most && leb b b_most)
digits_tell el em ea eb m k d x y hm hk hd hx hy motor kind duration a b =
    let (motor_least, motor_most, stop, ramp, none, duration-least, duration_most, gain) = constants in
    rw (el, em, ea, eb, motor, kind, duration, a, b, ← motor_least, ← motor_most, ← stop, ← ramp, ← none, ← duration-least, ← duration_most, ← gain)
    (in_digits_tested m k d x y hm hk hd hx hy ∙ tested_legal m k d x y)
