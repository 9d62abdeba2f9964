-- The place that `seek::number_at` tells of a number that is wrong is that of its first wrong byte by its meaning (rule R46), counted from where it was read.
-- Assumes nothing.
use Rattle.std.specs.Prelude.{Err}
use Prim.Native.Nat.{ℕ, ◌-◌, ◌≤◌}
use native.Mathlib.Omega.{arith}
use mathlib.Core.Bool.{false}
use mathlib.Core.List.{List}
use mathlib.Core.Path.{◌≡◌, ap, subst}
use lib.ListN.{length, drop, length-drop}
use Rattle.text.specs.Decimal.{is_digit}
use Rattle.text.specs.Place.{IsPlace, BeginsNumber}
use Rattle.begins.specs.Seek.{Sought, rest_of, place_of}
use Rattle.begins.specs.Digits.{seek_number}
use Rattle.begins.proofs.MeaningLaws.{number_place}
use Rattle.seek.specs.Spotted.{SpottedNumber}
use Rattle.seek.specs.declared.Wrong.{Wrong}

pub number_wrong_at :
    (s : List ℕ) (at lo hi end : ℕ) → lo ≤ hi → is_digit end ≡ false → {e : Wrong} → SpottedNumber s (seek_number lo hi end (drop at s)) (Err e)
    → IsPlace (BeginsNumber lo hi end) (drop at s) (e.place - at)
unfolding place_of rest_of
number_wrong_at s at lo hi end range no_digit {e} w =
    let left : length (rest_of (seek_number lo hi end (drop at s))) ≡ length (drop e.place s) = ap (λ (o : Sought ℕ). length (rest_of o)) w.is in
    let here : place_of (seek_number lo hi end) (drop at s) ≡ e.place - at = omega (arith, left, length-drop at s, length-drop e.place s, w.inside) in
    subst (IsPlace (BeginsNumber lo hi end) (drop at s)) here (number_place lo hi end range no_digit (drop at s))
