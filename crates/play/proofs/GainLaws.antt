-- Gains are the binary32 values of 0 to 1. So are a time over a longer one, and what holding within 0 and 1 leaves as it is. Assumes nothing.
use Prim.Native.Nat.{ℕ, zero, suc, ◌+◌, ◌-◌, ◌*◌, ◌/◌, ◌%◌, ◌^◌, ◌≤◌, ◌<◌}
use native.Mathlib.Omega.{arith}
use native.Mathlib.Nat.{mul-one, mul_comm, le_refl, le_trans, le_of_eq, le_of_lt, mul-le-mul_left, mul-le-mul_right, mul-div_cancel, eq-or-lt_of_le}
use mathlib.Core.Path.{◌≡◌, refl, sym, ◌∙◌, ap, subst}
use mathlib.Core.Logic.{⊎_elim}
use mathlib.Core.Bool.{true, false, true≢false}
use borrow.Author.Tests.{lt-leb, ne_eqb, le-leb, leb-true, ltb-true, ltb-false}
use lib.Dec.{T, leb, ltb, eqb, lit≤}
use lib.IntN.{pos}
use lib.Pow.{pow_mono, shl_lt}
use lib.Ieee.{Float, nan, inf, fin, binary32, up, down, of_bits, of_fields, to_bits, round, div, lt, le, fits, size}
use lib.Ieee.Exact.{HasValue, odd_sign}
use lib.Ieee.Bits.{of_bits-fits, of_bits-to_bits}
use lib.Ieee.Digits.{size-le}
use lib.Ieee.Fits.{down_pos, kept-lt, div-fits}
use lib.Ieee.Back.{whole_unique}
use Rattle.command.specs.Command.{is_gain, gain_most, duration_most}
use Rattle.command.proofs.Tests.{by_test}
use Rattle.floats.proofs.UnitsLaws.{Is, is_le, le_is, is_lt, lt_is, not_lt_is, is_div}
use Rattle.floats.proofs.RoundLaws.{unity, some, Rounds, rounds_none, round_le, round_le_over}
use Rattle.floats.proofs.PartLaws.{Part, Rounded, not_above}
use Rattle.floats.proofs.WithinLaws.{Small}
use Rattle.play.specs.Play.{nought, one, whole, held}
use Rattle.play.proofs.PlayLaws.{held_low, held_same}
use Rattle.play.proofs.WholeLaws.{whole_is_exact, rescale}

-- A binary32 of 0 to 1.
abbrev pub Gain : Float → Type 0
Gain x = Part binary32 x

abbrev u : ℕ
u = unity binary32

-- ---- from bits

-- The exponent's field x and the digits t of a gain's bits, in units.
record Fields (x t : ℕ) : Type 0 where
  at : ℕ
  is : HasValue (of_fields binary32 false x t) false at u
  most : at ≤ u

-- Below 1 the field is below 127; at 127 the digits are 0.
field_most : (x t : ℕ) → t < 0x80_0000 → suc x * 0x80_0000 + t ≤ gain_most → (0x80_0000 + t) * 2 ^ x ≤ u
field_most x t f h =
    by_test (ltb x 126)
    (λ l.
    let few : (0x80_0000 + t) * 2 ^ x < 2 ^ (24 + x) = shl_lt {a = 0x80_0000 + t} 24 x (omega arith) in
    le_trans (le_of_lt few) (pow_mono {i = 24 + x} {j = 149} (omega (arith, ltb-true x 126 l))))
    (λ l.
    let e : x ≡ 126 = omega (arith, ltb-false x 126 l) in
    let z : t ≡ 0 = omega (arith, ltb-false x 126 l) in
    le_of_eq (λ i. (0x80_0000 + z i) * 2 ^ e i))

fields_at : (x t : ℕ) → t < 0x80_0000 → x * 0x80_0000 + t ≤ gain_most → Fields x t
unfolding of_fields
fields_at zero t f h =
    record { at = t * 2 ^ 0; is = odd_sign 24 false t 0 149; most = le_trans (le_of_eq (mul-one t)) (le_trans (le_of_lt f) (lit≤ tt)) }
fields_at (suc x) t f h =
    let n = 0x80_0000 + t in
    let finite : eqb (suc x) 255 ≡ false = ne_eqb (suc x) 255 (λ e. omega arith) in
    record { at = n * 2 ^ x; is = rw finite (odd_sign 24 false n x 149); most = field_most x t f h }

pub gain_of_bits : (bits : ℕ) → is_gain bits ≡ true → Gain (of_bits binary32 bits)
unfolding of_bits is_gain
gain_of_bits bits h =
    let m : bits ≤ gain_most = leb-true bits gain_most h in
    let s : leb 0x8000_0000 bits ≡ false = lt-leb 0x8000_0000 bits (omega arith) in
    let x = bits % 0x8000_0000 / 0x80_0000 in
    let t = bits % 0x80_0000 in
    let r = fields_at x t (omega arith) (omega arith) in
    record {
      at = r.at;
      is = subst (λ b. HasValue (of_fields binary32 b x t) false r.at u) (sym s) r.is;
      most = r.most;
      fit = of_bits-fits binary32 bits;
    }

-- A float whose bits are a gain's.
pub gain_of : (x : Float) → T (fits binary32 x) → is_gain (to_bits binary32 x) ≡ true → Gain x
gain_of x t h = subst (λ k. Gain k) (of_bits-to_bits binary32 x t) (gain_of_bits (to_bits binary32 x) h)

-- ---- to bits

units_of : (m n d : ℕ) → 0 < d → m * u ≡ n * d → m * u / d ≡ n
units_of m n d p h = ap (λ (k : ℕ). k / d) h ∙ mul-div_cancel n p

few_bits : (n : ℕ) → n ≤ u → 0 + (size n - 24) * 0x80_0000 + n / 2 ^ (size n - 24) ≤ gain_most
unfolding size
few_bits n h =
    ⊎_elim (λ e. le_of_eq (λ i. 0 + (size (e i) - 24) * 0x80_0000 + e i / 2 ^ (size (e i) - 24)))
    (λ l.
    let k : size n - 24 ≤ 125 = omega (arith, size-le n 149 l) in
    let m : n / 2 ^ (size n - 24) < 0x100_0000 = kept-lt 24 n in
    omega arith)
    (eq-or-lt_of_le h)

pub gain_bits : (x : Float) → Gain x → is_gain (to_bits binary32 x) ≡ true
unfolding is_gain to_bits
gain_bits nan g = absurd g.is
gain_bits (inf s) g = absurd g.is
gain_bits (fin true m e) g = absurd (true≢false g.is.0)
gain_bits (fin false m e) g =
    let n_is : m * up e * u / down e ≡ g.at = units_of (m * up e) g.at (down e) (down_pos e) g.is.1 in
    le-leb _ gain_most
    (le_trans (le_of_eq (ap (λ (n : ℕ). 0 + (size n - 24) * 0x80_0000 + n / 2 ^ (size n - 24)) n_is)) (few_bits g.at g.most))

-- ---- +0 and 1.0

nought_is : Is u nought 0
unfolding of_bits
nought_is = (refl, refl)

one_is : Is u one u
unfolding of_bits
one_is = (refl, refl)

pub gain_nought : Gain nought
gain_nought = record { at = 0; is = nought_is; most = lit≤ tt; fit = of_bits-fits binary32 0 }

abbrev gain_one : Gain one
gain_one = record { at = u; is = one_is; most = le_refl u; fit = of_bits-fits binary32 gain_most }

-- +0 is not above any.
pub nought_least : (x : Float) → Gain x → le nought x ≡ true
nought_least x g = le_is u (some binary32) nought x 0 g.at nought_is g.is (omega arith)

-- What is not below one that is above 0 is above 0.
pub above_nought : (x y : Float) → Gain x → Gain y → le x y ≡ true → lt nought x ≡ true → lt nought y ≡ true
above_nought x y g h l t =
    let some_x : 0 < g.at = is_lt u (some binary32) nought x 0 g.at nought_is g.is t in
    let more : g.at ≤ h.at = is_le u (some binary32) x y g.at h.at g.is h.is l in
    lt_is u (some binary32) nought y 0 h.at nought_is h.is (omega arith)

-- ---- holding within 0 and 1 never acts on a gain

not_above_nought : (x : Float) → Gain x → le x nought ≡ true → nought ≡ x
not_above_nought x g t =
    let z : g.at ≡ 0 = omega (arith, is_le u (some binary32) x nought g.at 0 g.is nought_is t) in
    let x_is : Is u x 0 = subst (λ n. Is u x n) z g.is in
    whole_unique binary32 nought x false 0 (of_bits-fits binary32 0) g.fit
    (rescale nought false 0 u 0 1 (some binary32) refl nought_is) (rescale x false 0 u 0 1 (some binary32) refl x_is)

pub held_gain : (x : Float) → Gain x → held x ≡ x
held_gain x g =
    by_test (le x nought) (λ t. sym (held_low x t) ∙ not_above_nought x g t)
    (λ t. sym (held_same x t (not_lt_is u (some binary32) one x u g.at one_is g.is g.most)))

-- ---- a time over a longer one

-- The greatest, 599,999 / 600,000, in units.
greatest : Rounds binary32 599_999 600_000 (16_777_188 * 2 ^ 125)
unfolding round
greatest = (refl, refl)

module _ (d : ℕ) (m : d ≤ duration_most) where
  module _ (e : ℕ) (l : e < d) where
    -- A gain.
    pub quotient : Rounded binary32 e d (div binary32 (whole (pos e)) (whole (pos d)))
    quotient =
        not_above binary32 one gain_one _ e d (omega arith) (le_trans (le_of_eq (mul_comm e u)) (mul-le-mul_left u (le_of_lt l)))
        (is_div binary32 (whole (pos e)) (whole (pos d)) e d (whole_is_exact e (omega arith)) (whole_is_exact d m) (omega arith))
        (div-fits binary32 (whole (pos e)) (whole (pos d)))

    -- Well below 1.
    pub quotient_small : Small binary32 quotient.part.at
    quotient_small =
        let n = 16_777_188 * 2 ^ 125 in
        let under : quotient.part.at ≤ n =
        round_le binary32 e d 599_999 600_000 n (omega arith) (omega arith) (omega arith) greatest quotient.part.at quotient.from in
        le_trans (mul-le-mul_right 1_048_576 under) (lit≤ tt)

  -- No time over it is nothing.
  pub quotient_none : (l : 0 < d) → (quotient 0 l).part.at ≡ 0
  quotient_none l = let q = quotient 0 l in rounds_none binary32 d q.part.at l q.from

  -- A longer time over it is no less.
  pub quotient_grows : (e e' : ℕ) (l : e < d) (l' : e' < d) → e ≤ e'
      → le (div binary32 (whole (pos e)) (whole (pos d))) (div binary32 (whole (pos e')) (whole (pos d))) ≡ true
  quotient_grows e e' l l' h =
      let q = quotient e l in
      let q' = quotient e' l' in
      let under = round_le_over binary32 d e e' q.part.at q'.part.at (omega arith) h q.from q'.from in
      le_is u (some binary32) _ _ q.part.at q'.part.at q.part.is q'.part.is under
