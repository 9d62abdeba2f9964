-- A command is legal exactly if each of its numbers lies in its range. Assumes nothing.
use Prim.Native.Nat.{ℕ, zero, suc}
use native.Mathlib.Omega.{arith}
use mathlib.Core.Path.{◌≡◌, refl, sym, ◌∙◌, ap}
use mathlib.Core.Bool.{Bool, or-false, ◌&&◌}
use lib.Dec.{eqb}
use borrow.Author.Tests.{le-leb, ne_eqb}
use Rattle.kinds.specs.Sizes.{between}
use Rattle.kinds.proofs.BetweenLaws.{between_above}
use Rattle.command.specs.Command.{gain_most, is_gain, is_stop, is_buzz, is_ramp, legal_command}
use Rattle.command.proofs.CommandLaws.{is_zero_signed, is_duration_signed}
use Rattle.message.specs.Range.{Range}
use Rattle.begins.specs.Commands.{duration_range, a_range, b_range, made}

gain_in : (x : ℕ) → is_gain x ≡ between 0 gain_most x
unfolding is_gain between
gain_in x = rw (le-leb 0 x (omega arith))

zero_in : (x : ℕ) → eqb x 0 ≡ between 0 0 x
unfolding between
zero_in zero = refl
zero_in (suc x) = ne_eqb (suc x) 0 (λ z. omega arith) ∙ sym (between_above 0 0 (suc x) (omega arith))

-- A number lies in a range.
abbrev pub in_range : Range → ℕ → Bool
in_range R x = between R.lo R.hi x

-- The numbers behind the kind lie in its ranges.
abbrev pub in_ranges : ℕ → ℕ → ℕ → ℕ → Bool
in_ranges k d a b = in_range (duration_range k) d && (in_range (a_range k) a && in_range (b_range k) b)

-- A command is legal exactly if its motor, its kind and the three numbers behind them lie in their ranges.
pub legal_is : (m k d a b : ℕ) → legal_command (made m k d a b) ≡ (between 1 64 m && (between 0 2 k && in_ranges k d a b))
unfolding legal_command is_stop is_buzz is_ramp duration_range a_range b_range between
legal_is m zero d a b = rw (is_zero_signed d, zero_in d, zero_in a, zero_in b, or-false (between 0 0 d && (between 0 0 a && between 0 0 b)))
legal_is m (suc zero) d a b = rw (is_duration_signed d, gain_in a, zero_in b, or-false)
legal_is m (suc (suc zero)) d a b = rw (is_duration_signed d, gain_in a, gain_in b)
legal_is m (suc (suc (suc k))) d a b =
    let x = suc (suc (suc k)) in
    rw (ne_eqb x 0 (λ z. omega arith), ne_eqb x 1 (λ z. omega arith), ne_eqb x 2 (λ z. omega arith))
    (ap (λ (t : Bool). between 1 64 m && (t && (between 1 600_000 d && (between 0 gain_most a && between 0 0 b)))) (sym (between_above 0 2 x (omega arith))))
