-- A legal command's hex digits are sought exactly; and reading them by ranges is reading sixteen bytes whose command is refused later if it
-- is not legal. Assumes nothing.
use Prim.Native.Nat.{ℕ, zero, suc, ◌/◌, ◌≤◌}
use native.Mathlib.Omega.{arith}
use mathlib.Core.Path.{◌≡◌, sym, ◌∙◌}
use mathlib.Core.Bool.{true, false}
use mathlib.Core.List.{List}
use lib.Dec.{eqb}
use Rattle.kinds.specs.Sizes.{between}
use Rattle.text.specs.Reader.{lost, Reader, onward, pure, ◌>>=◌}
use Rattle.text.specs.Hex.{hex_digit, hex_bytes}
use Rattle.text.proofs.ReaderLaws.{onward_never}
use Rattle.command.specs.Command.{Command, command_of, command_size, legal_command}
use Rattle.command.proofs.Tests.{by_test}
use Rattle.message.specs.Range.{Range}
use Rattle.begins.specs.Commands.{digit_of, hex_in, seek_hex, motor_range, kind_range, duration_range, a_range, b_range, made, command_in}
use Rattle.begins.specs.Entries.{seek_rest, seek_command}
use Rattle.begins.proofs.DigitsLaws.{Fits}
use Rattle.begins.proofs.FixedLaws.{opens_fixed, exact_fixed}
use Rattle.begins.proofs.HexLaws.{hex_digits, hex_word, double}
use Rattle.begins.proofs.LegalLaws.{in_range, legal_is}
use Rattle.begins.proofs.BytesLaws.{word_in, words_from_b, words_from_a, words_from_duration, words_from_kind, words_all, ranges_from_b, ranges_from_a, ranges_from_duration, ranges_from_kind, ranges_all}
use Rattle.begins.proofs.Seeks.{Seeks, seeks_then, seeks_pure}

-- ---- sought

-- Digits 0 begin every range from 0 on.
fits_zero : (k lo hi : ℕ) → lo ≡ 0 → Fits 16 k lo hi 0
fits_zero zero lo hi e = (omega arith, omega arith)
fits_zero (suc k) lo hi e = fits_zero k (lo / 16) (hi / 16) (omega arith)

-- Hex digits of a range that is not empty and begins with 0 or 1 are sought exactly.
pub seeks_hex : (k : ℕ) (R : Range) → R.lo ≤ 1 → R.lo ≤ R.hi → Seeks (hex_in (suc k) R) (seek_hex (suc k) R)
unfolding hex_in seek_hex
seeks_hex k R l h =
    let f : Fits 16 (suc k) R.lo R.hi 0 = fits_zero k (R.lo / 16) (R.hi / 16) (omega arith) in
    record {
      opens = opens_fixed 16 digit_of hex_digit hex_digits R.lo R.hi h (suc k) 0 f;
      exact = λ s. exact_fixed 16 digit_of hex_digit hex_digits R.lo R.hi h (suc k) 0 s f;
    }

seeks_duration : (kind : ℕ) → Seeks (hex_in 8 (duration_range kind)) (seek_hex 8 (duration_range kind))
unfolding duration_range
seeks_duration kind =
    seeks_hex 7 (duration_range kind) (by_test (eqb kind 0) (λ e. rw e (omega arith)) (λ e. rw e (omega arith)))
    (by_test (eqb kind 0) (λ e. rw e (omega arith)) (λ e. rw e (omega arith)))

seeks_a : (kind : ℕ) → Seeks (hex_in 8 (a_range kind)) (seek_hex 8 (a_range kind))
unfolding a_range
seeks_a kind = seeks_hex 7 (a_range kind) (omega arith) (omega arith)

seeks_b : (kind : ℕ) → Seeks (hex_in 8 (b_range kind)) (seek_hex 8 (b_range kind))
unfolding b_range
seeks_b kind = seeks_hex 7 (b_range kind) (omega arith) (omega arith)

-- What is read behind the motor and the kind.
abbrev rest_in : ℕ → ℕ → Reader Command
rest_in motor kind = do
  duration ← hex_in 8 (duration_range kind)
  a ← hex_in 8 (a_range kind)
  b ← hex_in 8 (b_range kind)
  pure (made motor kind duration a b)

seeks_rest : (motor kind : ℕ) → Seeks (rest_in motor kind) (seek_rest motor kind)
unfolding seek_rest
seeks_rest m k =
    seeks_then (hex_in 8 (duration_range k)) _ (seek_hex 8 (duration_range k)) _ (seeks_duration k)
    (λ d t e. seeks_then (hex_in 8 (a_range k)) _ (seek_hex 8 (a_range k)) _ (seeks_a k)
    (λ a t e. seeks_then (hex_in 8 (b_range k)) _ (seek_hex 8 (b_range k)) _ (seeks_b k)
    (λ b t e. seeks_pure (made m k d a b))))

-- A legal command is sought exactly.
pub seeks_command : Seeks command_in seek_command
unfolding command_in seek_command
seeks_command =
    seeks_then (hex_in 4 motor_range) _ (seek_hex 4 motor_range) _ (seeks_hex 3 motor_range (omega arith) (omega arith))
    (λ m t e. seeks_then (hex_in 4 kind_range) (rest_in m) (seek_hex 4 kind_range) (seek_rest m) (seeks_hex 3 kind_range (omega arith) (omega arith))
    (λ k t e. seeks_rest m k))

-- ---- read by ranges

module _ {B : Type 0} (G K : Command → Reader B)
    (same : (c : Command) → legal_command c ≡ true → (r : List ℕ) → G c r ≡ K c r)
    (never : (c : Command) → legal_command c ≡ false → (r : List ℕ) → G c r ≡ lost) where
  b_never : (m k d a : ℕ) → ((b : ℕ) → legal_command (made m k d a b) ≡ false) → (r : List ℕ) → words_from_b G m k d a r ≡ lost
  b_never m k d a h r = onward_never (hex_word 4 0 r) _ (λ b. never (made m k d a b) (h b))

  a_never : (m k d : ℕ) → ((a b : ℕ) → legal_command (made m k d a b) ≡ false) → (r : List ℕ) → words_from_a G m k d r ≡ lost
  a_never m k d h r = onward_never (hex_word 4 0 r) _ (λ a. b_never m k d a (h a))

  d_never : (m k : ℕ) → ((d a b : ℕ) → legal_command (made m k d a b) ≡ false) → (r : List ℕ) → words_from_duration G m k r ≡ lost
  d_never m k h r = onward_never (hex_word 4 0 r) _ (λ d. a_never m k d (h d))

  k_never : (m : ℕ) → ((k d a b : ℕ) → legal_command (made m k d a b) ≡ false) → (r : List ℕ) → words_from_kind G m r ≡ lost
  k_never m h r = onward_never (hex_word 2 0 r) _ (λ k. d_never m k (h k))

  b_same : (m k d a : ℕ) → between 1 64 m ≡ true → between 0 2 k ≡ true → in_range (duration_range k) d ≡ true → in_range (a_range k) a ≡ true →
      (r : List ℕ) → words_from_b G m k d a r ≡ ranges_from_b K m k d a r
  unfolding double
  b_same m k d a hm hk hd ha r =
      word_in 4 (b_range k) r (λ b. G (made m k d a b)) (λ b. K (made m k d a b))
      (λ b hb. same (made m k d a b) (rw (legal_is m k d a b, hm, hk, hd, ha, hb)))
      (λ b hb. never (made m k d a b) (rw (legal_is m k d a b, hm, hk, hd, ha, hb)))

  a_same : (m k d : ℕ) → between 1 64 m ≡ true → between 0 2 k ≡ true → in_range (duration_range k) d ≡ true →
      (r : List ℕ) → words_from_a G m k d r ≡ ranges_from_a K m k d r
  unfolding double
  a_same m k d hm hk hd r =
      word_in 4 (a_range k) r _ _ (λ a ha. b_same m k d a hm hk hd ha)
      (λ a ha. b_never m k d a (λ b. rw (legal_is m k d a b, hm, hk, hd, ha)))

  d_same : (m k : ℕ) → between 1 64 m ≡ true → between 0 2 k ≡ true → (r : List ℕ) → words_from_duration G m k r ≡ ranges_from_duration K m k r
  unfolding double
  d_same m k hm hk r =
      word_in 4 (duration_range k) r _ _ (λ d hd. a_same m k d hm hk hd)
      (λ d hd. a_never m k d (λ a b. rw (legal_is m k d a b, hm, hk, hd)))

  k_same : (m : ℕ) → between 1 64 m ≡ true → (r : List ℕ) → words_from_kind G m r ≡ ranges_from_kind K m r
  unfolding double
  k_same m hm r =
      word_in 2 kind_range r _ _ (λ k hk. d_same m k hm hk) (λ k hk. d_never m k (λ d a b. rw (legal_is m k d a b, hm, hk)))

  -- Sixteen bytes, whose command is refused later if it is not legal, are a command by ranges.
  pub command_then : (s : List ℕ) → onward (hex_bytes command_size s) (λ bs. G (command_of bs)) ≡ onward (command_in s) K
  unfolding double
  command_then s =
      words_all G s
      ∙ word_in 2 motor_range s (words_from_kind G) (ranges_from_kind K) k_same (λ m hm. k_never m (λ k d a b. rw (legal_is m k d a b, hm)))
      ∙ sym (ranges_all K s)
