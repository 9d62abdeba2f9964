-- Sixteen bytes, word by word, and a command by ranges, number by number; a word whose values outside a range are refused later is a word of
-- that range. Assumes nothing.
use Prim.Native.Nat.{ℕ}
use mathlib.Core.Path.{◌≡◌, sym, ◌∙◌, ap}
use mathlib.Core.Bool.{true, false}
use mathlib.Core.List.{List}
use Rattle.text.specs.Reader.{Got, lost, Reader, onward}
use Rattle.text.specs.Hex.{hex_bytes}
use Rattle.text.specs.Range.{within}
use Rattle.text.proofs.ReaderLaws.{onward_got, onward_lost, onward_same, onward-assoc}
use Rattle.command.specs.Command.{Command, command_of, command_size}
use Rattle.command.specs.Words.{word_at, part, value}
use Rattle.command.proofs.Tests.{by_test}
use Rattle.message.specs.Range.{Range}
use Rattle.begins.specs.Commands.{hex_in, motor_range, kind_range, duration_range, a_range, b_range, made, command_in}
use Rattle.begins.proofs.HexLaws.{hex_word, double, fixed_word}
use Rattle.begins.proofs.LegalLaws.{in_range}

-- A word whose values outside a range are refused later is a word of that range.
pub word_in : {B : Type 0} (n : ℕ) (R : Range) (s : List ℕ) (f g : ℕ → Reader B) →
    ((x : ℕ) → in_range R x ≡ true → (r : List ℕ) → f x r ≡ g x r) →
    ((x : ℕ) → in_range R x ≡ false → (r : List ℕ) → f x r ≡ lost) →
    onward (hex_word n 0 s) f ≡ onward (hex_in (double n) R s) g
unfolding hex_in within
word_in n R s f g inside outside =
    onward_same (hex_word n 0 s)
    (λ x r.
    by_test (in_range R x) (λ e. inside x e r ∙ sym (onward_got g (rw (e, within)))) (λ e. outside x e r ∙ sym (onward_lost g (rw (e, within)))))
    ∙ sym (onward-assoc (hex_word n 0 s) (within R.lo R.hi) g)
    ∙ ap (λ (h : Got ℕ). onward h g) (sym (fixed_word R.lo R.hi n 0 s))

module _ {B : Type 0} (G : Command → Reader B) where
  -- ---- what is read behind the words so far

  abbrev pub words_from_b : ℕ → ℕ → ℕ → ℕ → Reader B
  words_from_b m k d a r = onward (hex_word 4 0 r) (λ b. G (made m k d a b))

  abbrev pub words_from_a : ℕ → ℕ → ℕ → Reader B
  words_from_a m k d r = onward (hex_word 4 0 r) (words_from_b m k d)

  abbrev pub words_from_duration : ℕ → ℕ → Reader B
  words_from_duration m k r = onward (hex_word 4 0 r) (words_from_a m k)

  abbrev pub words_from_kind : ℕ → Reader B
  words_from_kind m r = onward (hex_word 2 0 r) (words_from_duration m)

  -- Sixteen bytes, word by word.
  pub words_all : (s : List ℕ) → onward (hex_bytes command_size s) (λ bs. G (command_of bs)) ≡ onward (hex_word 2 0 s) words_from_kind
  unfolding hex_bytes hex_word onward command_of word_at part value
  words_all s = simp onward-assoc

  -- ---- what is read behind the numbers so far, by ranges

  abbrev pub ranges_from_b : ℕ → ℕ → ℕ → ℕ → Reader B
  ranges_from_b m k d a r = onward (hex_in 8 (b_range k) r) (λ b. G (made m k d a b))

  abbrev pub ranges_from_a : ℕ → ℕ → ℕ → Reader B
  ranges_from_a m k d r = onward (hex_in 8 (a_range k) r) (ranges_from_b m k d)

  abbrev pub ranges_from_duration : ℕ → ℕ → Reader B
  ranges_from_duration m k r = onward (hex_in 8 (duration_range k) r) (ranges_from_a m k)

  abbrev pub ranges_from_kind : ℕ → Reader B
  ranges_from_kind m r = onward (hex_in 4 kind_range r) (ranges_from_duration m)

  -- A command by ranges, number by number.
  pub ranges_all : (s : List ℕ) → onward (command_in s) G ≡ onward (hex_in 4 motor_range s) ranges_from_kind
  unfolding command_in onward
  ranges_all s = simp onward-assoc
