-- Laws of what may be proposed: it is legal; the code's tests of a command's numbers come to it; and what bytes that are proposed are read as.
-- Assumes nothing.
use Prim.Native.Nat.{ℕ}
use native.Mathlib.Omega.{arith}
use mathlib.Core.Path.{◌≡◌}
use mathlib.Core.Logic.{⊎_elim}
use mathlib.Core.Bool.{Bool, true, false, ◌&&◌, ◌||◌}
use mathlib.Core.List.{List}
use mathlib.Core.Option.{none, some}
use borrow.Author.Tests.{eqb-true, eq-eqb, ne_eqb}
use lib.Dec.{leb, eqb}
use lib.IntN.{pos}
use lib.ListN.{length}
use lib.Signed.{le_z}
use Rattle.kinds.proofs.BoolLaws.{and_first, and_second, cond_some}
use Rattle.command.specs.Command.{Command, is_zero, is_stop, legal_command, command_of}
use Rattle.command.specs.Answers.{of_numbers, numbers_at}
use Rattle.command.specs.Proposal.{felt_least, proposable, is_proposal, read_proposal}
use Rattle.command.specs.declared.Numbers.{Numbers}
use Rattle.command.proofs.Tests.{by_test}
use Rattle.command.proofs.WordsLaws.{signed_low}
use Rattle.command.proofs.CommandLaws.{legal_fields}
use Rattle.command.proofs.AnswersLaws.{legal_small, of_numbers_whole}

-- ---- a command

-- What may be proposed may be held.
pub proposable_legal : (c : Command) → proposable c ≡ true → legal_command c ≡ true
unfolding proposable
proposable_legal c h = and_first (legal_command c) (is_stop c || le_z (pos felt_least) c.duration) h

-- Of the legal commands those of kind 0 are the stops.
is_stop_kind : (c : Command) → legal_command c ≡ true → is_stop c ≡ eqb c.kind 0
unfolding is_stop is_zero
is_stop_kind c h =
    ⊎_elim (λ s. rw (s.kind_is, s.duration_is, s.a_is, s.b_is)) (⊎_elim (λ b. rw b.kind_is) (λ r. rw r.kind_is)) (legal_fields c h).kinds

-- As the code tests it: legal, and of kind 0 or long enough by the bits of its duration, which count whole.
pub proposable_numbers : (n : Numbers) {legal : Bool} → legal ≡ legal_command (of_numbers n) →
    (legal && (eqb n.kind 0 || leb felt_least n.duration)) ≡ proposable (of_numbers n)
unfolding proposable of_numbers
proposable_numbers n e =
    by_test (legal_command (of_numbers n))
    (λ h.
    let small = legal_small n h in
    rw (e, is_stop_kind (of_numbers n) h, signed_low n.duration (omega arith)))
    (λ h. rw (e, h))

-- ---- bytes

module _ (l : List ℕ) where
  -- Not 16 bytes.
  pub is_proposal_size : (length l ≡ 16 → ⊥) → is_proposal l ≡ false
  unfolding is_proposal
  is_proposal_size h = simp (ne_eqb (length l) 16 h)

  -- 16 bytes, by the numbers in them.
  pub is_proposal_whole : length l ≡ 16 → is_proposal l ≡ proposable (of_numbers (numbers_at 0 l))
  unfolding is_proposal
  is_proposal_whole h = rw (eq-eqb (length l) 16 h, of_numbers_whole l h)

  -- What may be proposed has 16 bytes.
  pub is_proposal_length : is_proposal l ≡ true → length l ≡ 16
  unfolding is_proposal
  is_proposal_length h = eqb-true (length l) 16 (and_first (eqb (length l) 16) (proposable (command_of l)) h)

  -- Such bytes are read as their command.
  pub read_proposal_some : is_proposal l ≡ true → read_proposal l ≡ some (command_of l)
  unfolding read_proposal
  read_proposal_some h = rw h

  -- Others are not read.
  pub read_proposal_none : is_proposal l ≡ false → read_proposal l ≡ none
  unfolding read_proposal
  read_proposal_none h = rw h

  -- What is read may be proposed.
  pub read_proposal_proposable : (c : Command) → read_proposal l ≡ some c → proposable c ≡ true
  unfolding read_proposal is_proposal
  read_proposal_proposable c =
      cond_some (λ (x : Command). proposable x ≡ true) (is_proposal l) (command_of l) c (and_second (eqb (length l) 16) (proposable (command_of l)))

  -- So it is legal.
  pub read_proposal_legal : (c : Command) → read_proposal l ≡ some c → legal_command c ≡ true
  read_proposal_legal c h = proposable_legal c (read_proposal_proposable c h)
