-- Words worked on a byte at a time: `and`, `or`, `xor` and sums of words are those of their bytes. And a test of all bytes, which antt computes.
-- Assumes nothing.
use Prim.Native.Nat.{ℕ, zero, suc, ◌+◌, ◌*◌, ◌/◌, ◌%◌, ◌^◌, ◌<◌}
use native.Mathlib.Omega.{arith}
use native.Mathlib.Nat.{pow-suc, div-add-mod', div-lt_iff_lt-mul, mod-lt}
use mathlib.Core.Path.{◌≡◌, refl, ap, ◌∙◌}
use mathlib.Core.Bool.{Bool, true, ◌&&◌}
use borrow.Author.Tests.{ltb-true, eqb-true, eqb-false}
use lib.Dec.{ltb, eqb}
use lib.Bits.{bit_and, bit_or, bit_xor, and_block, or_block, xor_block}
use Rattle.command.proofs.Tests.{by_test, both}

-- ---- a test of all bytes

-- Whether a test holds of all numbers below n.
unfoldable pub every : (ℕ → Bool) → ℕ → Bool
every p zero = true
every p (suc n) = p n && every p n

-- What holds of all numbers below n holds of each of them.
pub every_at : (p : ℕ → Bool) (n : ℕ) → every p n ≡ true → (k : ℕ) → k < n → p k ≡ true
unfolding every
every_at p zero h k below = absurd (omega arith)
every_at p (suc n) h k below =
    by_test (eqb k n) (λ e. rw (eqb-true k n e) (both (p n) (every p n) h).0)
    (λ e. every_at p n (both (p n) (every p n) h).1 k (omega (arith, eqb-false k n e)))

-- ---- words

-- The word of n bytes in which f of each byte of x stands in that byte's place.
unfoldable pub each : (ℕ → ℕ) → ℕ → ℕ → ℕ
each f zero x = 0
each f (suc n) x = each f n (x / 256) * 256 + f (x % 256)

-- f makes bytes of bytes.
abbrev pub Lane : (ℕ → ℕ) → Type 0
Lane f = (b : ℕ) → b < 256 → f b < 256

-- That it does, by a test of all bytes.
pub lane_test : (f : ℕ → ℕ) → every (λ b. ltb (f b) 256) 256 ≡ true → Lane f
lane_test f h b below = ltb-true (f b) 256 (every_at (λ b. ltb (f b) 256) 256 h b below)

-- What is left by 256 is a byte.
pub low_byte : (x : ℕ) → x % 256 < 256
low_byte x = mod-lt x (omega arith)

-- The word of x's own bytes is x, if x fits.
pub each_self : (n x : ℕ) → x < 256 ^ n → each (λ b. b) n x ≡ x
unfolding each
each_self zero x h = omega arith
each_self (suc n) x h =
    let high : x / 256 < 256 ^ n = (div-lt_iff_lt-mul {k = 256} (omega arith)).1 (rw pow-suc at h) in
    rw (each_self n (x / 256) high) (div-add-mod' x 256)

-- Words add byte by byte.
pub each_sum : (f g h : ℕ → ℕ) → ((b : ℕ) → b < 256 → f b + g b ≡ h b) → (n x : ℕ) → each f n x + each g n x ≡ each h n x
unfolding each
each_sum f g h e zero x = refl
each_sum f g h e (suc n) x = omega (arith, e (x % 256) (low_byte x), each_sum f g h e n (x / 256))

module _ (op : ℕ → ℕ → ℕ) (none : op 0 0 ≡ 0)
    (block : (a b r s : ℕ) → r < 256 → s < 256 → op (a * 256 + r) (b * 256 + s) ≡ op a b * 256 + op r s)
    (f g : ℕ → ℕ) (hf : Lane f) (hg : Lane g) where
  each_op : (n x : ℕ) → op (each f n x) (each g n x) ≡ each (λ b. op (f b) (g b)) n x
  unfolding each
  each_op zero x = none
  each_op (suc n) x =
      block _ _ _ _ (hf _ (low_byte x)) (hg _ (low_byte x)) ∙ ap (λ (k : ℕ). k * 256 + op (f (x % 256)) (g (x % 256))) (each_op n (x / 256))

-- `and` works byte by byte,
pub each_and : (f g : ℕ → ℕ) → Lane f → Lane g → (n x : ℕ) → bit_and (each f n x) (each g n x) ≡ each (λ b. bit_and (f b) (g b)) n x
each_and = each_op bit_and refl (and_block 8)

-- and so does `or`,
pub each_or : (f g : ℕ → ℕ) → Lane f → Lane g → (n x : ℕ) → bit_or (each f n x) (each g n x) ≡ each (λ b. bit_or (f b) (g b)) n x
each_or = each_op bit_or refl (or_block 8)

-- and so does `xor`.
pub each_xor : (f g : ℕ → ℕ) → Lane f → Lane g → (n x : ℕ) → bit_xor (each f n x) (each g n x) ≡ each (λ b. bit_xor (f b) (g b)) n x
each_xor = each_op bit_xor refl (xor_block 8)
