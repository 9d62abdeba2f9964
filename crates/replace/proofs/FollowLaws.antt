-- Laws of becoming a follower of the own term, and of an append that is heard then. Assumes nothing.
use Prim.Native.Nat.{ℕ, ◌+◌}
use mathlib.Core.Path.{◌≡◌, sym, ◌∙◌, ap}
use mathlib.Core.Bool.{Bool, true}
use mathlib.Core.List.{List}
use lib.ListN.{length}
use Rattle.kinds.specs.Sizes.{Who}
use Rattle.command.specs.Entry.{Entry}
use Rattle.state.specs.declared.Head.{Head}
use Rattle.state.specs.State.{follower, State}
use Rattle.state.specs.Legal.{legal_state}
use Rattle.state.specs.Image.{image, state_in}
use Rattle.state.specs.Head.{head_in, head_of}
use Rattle.state.proofs.LegalLaws.{legal_held, legal_state_kept, follower_legal}
use Rattle.state.proofs.ImageLaws.{image_head}
use Rattle.rules.specs.Events.{with_term}
use Rattle.rules.specs.Receive.{follower_at, fits}
use Rattle.promise.specs.Promise.{Ready, HearsAppend}
use Rattle.promise.specs.Heads.{following}
use Rattle.promise.proofs.PromiseLaws.{ready_legal, ready_head, ready_next, ready_term}
use Rattle.promise.proofs.HeadsLaws.{following_head}
use Rattle.replace.specs.Taken.{taken_by, Followed, HearsTaking}

-- ---- the follower

module _ (w : Who) (l : List ℕ) (r : Ready w l) where
  abbrev after : State
  after = record { kept = (state_in l).kept; lost = follower }

  after_legal : legal_state w after ≡ true
  after_legal = follower_legal w (state_in l).kept (legal_state_kept w (state_in l) (ready_legal w l r))

  -- Raised to its own term, a hub keeps what it keeps.
  raised_own : (t : ℕ) → t ≡ (state_in l).kept.term → follower_at (state_in l) t ≡ after
  unfolding follower_at with_term
  raised_own t e = rw e

  -- The bytes and the head of a follower of the own term.
  pub follow_steps :
      {h f : Head} {l' : List ℕ} → h ≡ head_in l → l' ≡ image (follower_at (state_in l) h.term.0) → f ≡ following h h.term
      → Followed w l f l'
  unfolding with_term head_of
  follow_steps {h} {f} {l'} eh el ef =
      let s = state_in l in
      let own : h.term.0 ≡ s.kept.term = ap (λ (x : Head). x.term.0) eh ∙ ready_term w l r in
      let all = eh ∙ ready_head w l r in
      let bytes : l' ≡ image after = el ∙ ap image (raised_own h.term.0 own) in
      let next = ready_next w l r after after_legal bytes in
      let head : f ≡ head_of s.kept follower =
      ef ∙ ap (λ (x : Head). following x x.term) all ∙ following_head s.kept s.lost s.kept.term in
      record {
        tested = record {
          ready = next.0;
          head = head ∙ sym (ap head_in bytes ∙ image_head after (legal_held w after after_legal));
        };
        state_is = next.1;
      }

-- ---- an append that it hears

module _
    {w : Who} {l : List ℕ} {prev prevterm chosen : ℕ} {es : List Entry} (a : HearsAppend w l prev prevterm chosen es)
    {h : Head} {l1 : List ℕ} (f : Followed w l h l1)
  where
    kept_is : (state_in l1).kept ≡ (state_in l).kept
    kept_is = ap (λ (x : State). x.kept) f.state_is

    -- The follower hears the append.
    pub follow_heard : HearsTaking w h l1 prev prevterm chosen es
    follow_heard = record { tested = f.tested; follows = ap (λ (x : State). x.lost) f.state_is; legal = rw kept_is a.legal }

    -- What the follower answers and takes is what the hub has to that became it.
    pub follow_took :
        {b : Bool} {l2 : List ℕ}
        → (b ≡ fits (state_in l1).kept prev prevterm (prev + length es)) × (l2 ≡ image (taken_by (state_in l1) prev prevterm chosen es))
        → (b ≡ fits (state_in l).kept prev prevterm (prev + length es)) × (l2 ≡ image (taken_by (state_in l) prev prevterm chosen es))
    unfolding taken_by
    follow_took e = (e.0 ∙ rw kept_is, e.1 ∙ rw kept_is)
