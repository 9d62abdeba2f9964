-- Laws of a state whose lost parts are to be cleared: what its kept parts say, that all its rows have a place, and which hub may start or follow. Assumes nothing.
use Prim.Native.Nat.{ℕ, ◌+◌, ◌≤◌}
use native.Mathlib.Omega.{arith}
use mathlib.Core.Path.{◌≡◌, refl, sym, ◌∙◌}
use mathlib.Core.Bool.{true, false}
use mathlib.Core.List.{List}
use mathlib.Core.Option.{some}
use borrow.Author.Tests.{ne_eqb}
use lib.ListN.{length, drop}
use Rattle.kinds.specs.Role.{as_leader}
use Rattle.kinds.specs.Sizes.{Who, term_most, limit}
use Rattle.command.specs.Words.{word_at}
use Rattle.command.proofs.WordsLaws.{Bytes}
use Rattle.state.specs.State.{Kept, Lost, follower, candidate, leader, State}
use Rattle.state.specs.Legal.{legal_state}
use Rattle.rows.specs.Rows.{entry_of}
use Rattle.state.specs.Image.{head_size, state_size, role_of, kept_in, state_in, read_kept}
use Rattle.state.specs.Head.{head_in}
use Rattle.state.specs.Check.{is_some}
use Rattle.state.proofs.LegalLaws.{legal_kept_is, rows_of_length, IsKept, legal_state_kept, follower_legal}
use Rattle.rows.proofs.RowLaws.{rows_in_length}
use Rattle.state.proofs.ImageLaws.{read_kept_sound}
use Rattle.rules.specs.Outcome.{goes}
use Rattle.rules.specs.Events.{is_leader, started, asks, start, with_term}
use Rattle.rules.specs.Receive.{follower_at}
use Rattle.rules.proofs.EventsLaws.{with_term_kept}
use Rattle.promise.specs.Promise.{Ready}
use Rattle.promise.proofs.PromiseLaws.{ready_legal, ready_held, ready_role, ready_term, ready_length, ready_gathered}
use Rattle.promise.proofs.GateLaws.{read_kept_some}

-- ---- kept parts that are legal

module _ (l : List ℕ) (o : Bytes l) (h : is_some (read_kept l) ≡ true) where
  read_is : read_kept l ≡ some (kept_in l)
  read_is = read_kept_some l h

  -- The log has as many entries as the head says.
  pub kept_length : (head_in l).length.0 ≡ length (kept_in l).log
  unfolding head_in kept_in
  kept_length = sym (rows_in_length entry_of (word_at 12 4 l) (drop head_size l))

  -- The bytes have the layout's length.
  pub kept_size : length l ≡ state_size
  kept_size = (read_kept_sound l (kept_in l) read_is).2

  -- The log is within the limit.
  pub kept_within : (head_in l).length.0 ≤ limit
  kept_within = omega (arith, kept_length, (legal_kept_is (kept_in l) (read_kept_sound l (kept_in l) read_is).1).within)

-- ---- a start that takes effect

no_leader : (k : Kept) (l : Lost) → (role_of l ≡ as_leader → ⊥) → is_leader (record { kept = k; lost = l }) ≡ false
unfolding is_leader role_of
no_leader k follower h = refl
no_leader k (candidate voters gathered) h = refl
no_leader k (leader confirmed) h = absurd (h refl)

-- Neither a leader nor at the last term.
pub start_goes : (w : Who) (s : State) → is_leader s ≡ false → (s.kept.term ≡ term_most → ⊥) → start w s ≡ goes (started w s) (some (asks w (started w s)))
unfolding start
start_goes w s role low = rw (role, ne_eqb s.kept.term term_most low)

-- ---- the lost parts of a ready state

module _ (w : Who) (l : List ℕ) (r : Ready w l) where
  -- All rows are within the limit.
  pub rows_within : (head_in l).length.0 + (head_in l).gathered.0 ≤ limit
  rows_within = omega (arith, ready_length w l r, ready_gathered w l r, rows_of_length (state_in l), (ready_held w l r).room)

  kept_is : IsKept (state_in l).kept
  kept_is = legal_state_kept w (state_in l) (ready_legal w l r)

  -- No leader's head: no leader.
  pub not_leading : ((head_in l).role ≡ as_leader → ⊥) → is_leader (state_in l) ≡ false
  not_leading h = no_leader (state_in l).kept (state_in l).lost (λ e. h (ready_role w l r ∙ e))

  module _ (t : ℕ) (up : (head_in l).term.0 ≤ t) (last : t ≤ term_most) where
    -- The follower of this term or of a higher one is legal.
    pub raised_legal : legal_state w (follower_at (state_in l) t) ≡ true
    unfolding follower_at
    raised_legal =
        let k = (state_in l).kept in
        follower_legal w (with_term k t) (with_term_kept k t kept_is (omega (arith, ready_term w l r)) last)
