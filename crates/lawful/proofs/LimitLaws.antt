-- A command is legal by the limits of its kind, and 16 bytes by the numbers in them. Assumes nothing.
use Prim.Native.Nat.{ℕ, zero, suc}
use native.Mathlib.Omega.{arith}
use mathlib.Core.Path.{◌≡◌, refl, sym, ◌∙◌, ap}
use mathlib.Core.Bool.{Bool, true, false, ◌&&◌, ◌||◌, and_assoc}
use mathlib.Core.List.{List}
use lib.Dec.{leb, eqb}
use lib.ListN.{length}
use borrow.Author.Tests.{eqb-true, ne_eqb, le-leb, lt-leb}
use Rattle.std.specs.Prelude.{Option, None, Some, MatchOption}
use Rattle.command.specs.Command.{Command, legal_command, command_size, command_of}
use Rattle.command.specs.Words.{part, signed}
use Rattle.command.specs.Answers.{command_with, of_numbers, numbers_at}
use Rattle.command.specs.declared.Numbers.{Numbers}
use Rattle.command.proofs.Tests.{by_test}
use Rattle.command.proofs.AnswersLaws.{legal_numbers, of_numbers_at, of_numbers_whole}
use Rattle.lawful.specs.declared.Limits.{Limits}
use Rattle.lawful.specs.Limits.{limits_of, numbers_of}

and_none : (t : Bool) → t && false ≡ false
and_none true = refl
and_none false = refl

or_none : (t : Bool) → t || false ≡ t
or_none true = refl
or_none false = refl

at_most_none : (n : ℕ) → leb n 0 ≡ eqb n 0
at_most_none zero = refl
at_most_none (suc n) = lt-leb (suc n) 0 (omega arith) ∙ sym (ne_eqb (suc n) 0 (λ e. omega arith))

-- ---- a command's numbers

module _ (motor x a b : ℕ) where
  -- The tests with these limits.
  abbrev pub within : Limits → Bool
  within l = (leb 1 motor && leb motor 64) && ((leb l.least x && leb x l.most) && (leb a l.a_most && leb b l.b_most))

  -- And with those of a number that may be no kind.
  abbrev pub allowed : Option Limits → Bool
  allowed None = false
  allowed (Some l) = within l

  -- Each kind by its limits.
  pub legal_limits : (kind : ℕ) → allowed (limits_of kind) ≡ legal_command (command_with motor kind (signed x) a b)
  unfolding limits_of
  legal_limits zero =
      sym (legal_numbers motor 0 x a b ∙ rw (or_none (eqb x 0 && (eqb a 0 && eqb b 0)), le-leb 0 x (omega arith), at_most_none x, at_most_none a, at_most_none b))
  legal_limits (suc zero) =
      sym
      (legal_numbers motor 1 x a b
      ∙ rw (or_none ((leb 1 x && leb x 600_000) && (leb a 0x3f80_0000 && eqb b 0)), sym (at_most_none b)))
  legal_limits (suc (suc zero)) = sym (legal_numbers motor 2 x a b)
  legal_limits (suc (suc (suc k))) =
      let kind = suc (suc (suc k)) in
      sym
      (legal_numbers motor kind x a b
      ∙ rw (ne_eqb kind 0 (λ e. omega arith), ne_eqb kind 1 (λ e. omega arith), ne_eqb kind 2 (λ e. omega arith)) (and_none (leb 1 motor && leb motor 64)))

-- A kind that is none.
pub legal_kindless : (n : Numbers) → limits_of n.kind ≡ None → false ≡ legal_command (of_numbers n)
unfolding of_numbers
legal_kindless n e = rw e at (legal_limits n.motor n.duration n.a n.b n.kind)

-- A kind with these limits, as the code tests it.
pub legal_within : (n : Numbers) {l : Limits} → limits_of n.kind ≡ Some l →
    (((leb 1 n.motor && leb n.motor 64) && (leb l.least n.duration && leb n.duration l.most)) && (leb n.a l.a_most && leb n.b l.b_most))
    ≡ legal_command (of_numbers n)
unfolding of_numbers
legal_within n e = simp and_assoc (simp and_assoc at (rw e at (legal_limits n.motor n.duration n.a n.b n.kind)))

-- ---- bytes

-- The command of 16 bytes is legal by the numbers there.
pub legal_there : (at : ℕ) (l : List ℕ) {n : Numbers} {r : Bool} → n ≡ numbers_at at l → r ≡ legal_command (of_numbers n) →
    r ≡ legal_command (command_of (part at command_size l))
legal_there at l en er = er ∙ ap legal_command (ap of_numbers en ∙ of_numbers_at at l)

-- A test of a command, asked of the numbers of bytes, if there are 16.
pub told : (test : Command → Bool) (l : List ℕ) {o : Option Numbers} {r : Bool} → o ≡ numbers_of l →
    MatchOption o (r ≡ false) (λ n. r ≡ test (of_numbers n)) → r ≡ (eqb (length l) command_size && test (command_of l))
unfolding numbers_of
told test l e m =
    by_test (eqb (length l) command_size)
    (λ h. rw h (rw (e, h) at m ∙ ap test (of_numbers_whole l (eqb-true (length l) command_size h))))
    (λ h. rw h (rw (e, h) at m))
