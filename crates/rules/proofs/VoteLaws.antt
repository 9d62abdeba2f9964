-- Laws of the answer to a vote-request: the ballot that a hub tells, what the answer can be, and that it is legal. Assumes nothing.
use Prim.Native.Nat.{ℕ, ◌≤◌, ◌<◌}
use native.Mathlib.Omega.{arith}
use mathlib.Core.Path.{◌≡◌, refl}
use mathlib.Core.Bool.{true, cond}
use mathlib.Core.List.{List, []}
use borrow.Author.Tests.{eqb-true, eqb-false, leb-true, leb-false}
use lib.Dec.{leb, eqb}
use lib.ListN.{length, drop, length-drop, drop_of_length-le}
use Rattle.kinds.specs.Sizes.{limit}
use Rattle.kinds.proofs.BoolLaws.{cond_either}
use Rattle.command.specs.Entry.{Entry, legal_entries}
use Rattle.message.specs.Message.{Body, vote_yes, vote_no}
use Rattle.message.specs.Legal.{legal_body}
use Rattle.message.proofs.LegalLaws.{is_yes}
use Rattle.state.specs.State.{Kept}
use Rattle.state.proofs.LegalLaws.{IsKept}
use Rattle.rules.specs.Receive.{ballot_told, vote}
use Rattle.rules.proofs.EntryLaws.{legal_entries_after}

-- ---- the ballot that a hub tells

-- What holds of 0 with an empty log, and of the own ballot with any other, holds of the ballot told.
pub ballot_told_either : (P : ℕ → Type 0) (n own : ℕ) → (n ≡ 0 → P 0) → (1 ≤ n → P own) → P (ballot_told n own)
unfolding ballot_told
ballot_told_either P n own empty other =
    cond_either P (eqb n 0) (λ t. empty (eqb-true n 0 t)) (λ t. let held = eqb-false n 0 t in other (omega arith))

-- With an empty log it is 0.
pub ballot_told_empty : (n own : ℕ) → n ≡ 0 → ballot_told n own ≡ 0
ballot_told_empty n own e = ballot_told_either (λ (told : ℕ). told ≡ 0) n own (λ e. refl) (λ h. absurd (omega arith))

-- With any other it is the own ballot.
pub ballot_told_own : (n own : ℕ) → 1 ≤ n → ballot_told n own ≡ own
ballot_told_own n own h = ballot_told_either (λ (told : ℕ). told ≡ own) n own (λ e. absurd (omega arith)) (λ h. refl)

-- It is never above the own ballot.
pub ballot_told_most : (n own : ℕ) → ballot_told n own ≤ own
ballot_told_most n own = ballot_told_either (λ (told : ℕ). told ≤ own) n own (λ e. omega arith) (λ h. omega arith)

-- ---- the answer

-- What is left of an empty log is legal.
none_legal : (last : ℕ) (log : List Entry) → length log ≡ 0 → legal_entries 1 0 (drop last log) ≡ true
unfolding legal_entries
none_legal last log e = rw (drop_of_length-le log {i = last} (omega arith))

module _ (k : Kept) (last : ℕ) where
  abbrev told : ℕ
  told = ballot_told (length k.log) k.ballot

  abbrev yes : Body
  yes = vote_yes last told (drop last k.log)

  -- It is a yes where the ballot told is not above the request's, and else a no.
  pub vote_either : (P : Body → Type 0) (ballot : ℕ) → (told ≤ ballot → P yes) → (ballot < told → P vote_no) → P (vote k last ballot)
  unfolding vote
  vote_either P ballot given higher = cond_either P (leb told ballot) (λ t. given (leb-true told ballot t)) (λ t. higher (leb-false told ballot t))

  -- An empty hub's is a yes with ballot 0.
  pub vote_empty : (ballot : ℕ) → length k.log ≡ 0 → vote k last ballot ≡ vote_yes last 0 []
  vote_empty ballot e =
      let none = ballot_told_empty (length k.log) k.ballot e in
      vote_either (λ (b : Body). b ≡ vote_yes last 0 []) ballot (λ low. rw (none, drop_of_length-le k.log {i = last} (omega arith)))
      (λ high. absurd (omega arith))

  -- Any other's goes by its own ballot.
  pub vote_other :
      (ballot : ℕ) → 1 ≤ length k.log → vote k last ballot ≡ cond (leb k.ballot ballot) (vote_yes last k.ballot (drop last k.log)) vote_no
  unfolding vote
  vote_other ballot h = rw (ballot_told_own (length k.log) k.ballot h)

  -- A yes is legal, where the ballot told is below the term.
  pub yes_legal : IsKept k → last ≤ limit → told < k.term → legal_body k.term yes ≡ true
  yes_legal kept within below =
      let n = length k.log in
      let entries = drop last k.log in
      let left = length-drop last k.log in
      is_yes k.term last told entries
      (record {
        within = omega (arith, kept.within);
        below = below;
        empty = ballot_told_either (λ (b : ℕ). b ≡ 0 → length entries ≡ 0) n k.ballot (λ e z. omega arith) (λ h z. omega (arith, kept.empty z));
        legal =
            ballot_told_either (λ (b : ℕ). legal_entries 1 b entries ≡ true) n k.ballot (none_legal last k.log)
            (λ h. legal_entries_after 1 k.ballot last k.log kept.entries);
      })
