-- How many digits a number has, by the powers of ten that it lies between. Assumes nothing.
use Prim.Native.Nat.{ℕ, zero, suc, ◌+◌, ◌*◌, ◌/◌, ◌^◌, ◌≤◌, ◌<◌, max}
use native.Mathlib.Omega.{arith}
use native.Mathlib.Nat.{pow-suc}
use mathlib.Core.Path.{◌≡◌, ap, sym}
use lib.ListN.{length}
use Rattle.text.specs.Decimal.{decimal}
use Rattle.text.proofs.DecimalLaws.{decimal_one, length_more}

some_power : (k : ℕ) → 1 ≤ 10 ^ k
some_power zero = omega arith
some_power (suc k) =
    let power : 10 ^ suc k ≡ 10 ^ k * 10 = pow-suc 10 k in
    omega (arith, power, some_power k)

digits_between : (k x : ℕ) → 10 ^ k ≤ x → x < 10 * 10 ^ k → length (decimal x) ≡ k + 1
digits_between zero x low high = ap length (decimal_one x (omega arith))
digits_between (suc k) x low high =
    let power : 10 ^ suc k ≡ 10 ^ k * 10 = pow-suc 10 k in
    let rest = digits_between k (x / 10) (omega (arith, power, low)) (omega (arith, power, high)) in
    omega (arith, rest, length_more x (omega (arith, power, some_power k, low)))

-- As the code counts them: 0 has one digit too.
pub width_is : (k x y : ℕ) → y ≡ max x 1 → 10 ^ k ≤ y → y < 10 * 10 ^ k → k + 1 ≡ length (decimal x)
width_is k zero y e low high =
    let none : k + 1 ≡ length (decimal 1) = sym (digits_between k 1 (omega (arith, e, low)) (omega (arith, e, high))) in
    omega (arith, none, ap length (decimal_one 0 (omega arith)), ap length (decimal_one 1 (omega arith)))
width_is k (suc x) y e low high = sym (digits_between k (suc x) (omega (arith, e, low)) (omega (arith, e, high)))
