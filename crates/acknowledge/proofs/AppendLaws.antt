-- Laws of an append: that its sender may be answered after it, and that its answer is the rule's. Assumes nothing.
use Prim.Native.Nat.{ℕ, ◌+◌, ◌≤◌}
use native.Mathlib.Omega.{arith}
use mathlib.Core.Path.{◌≡◌, refl, sym, ◌∙◌, ap}
use mathlib.Core.Bool.{Bool, true, false}
use mathlib.Core.List.{List}
use mathlib.Core.Option.{some}
use lib.ListN.{length}
use Rattle.kinds.specs.declared.Place.{Place}
use Rattle.kinds.specs.Of.{place}
use Rattle.kinds.specs.Sizes.{Who, limit}
use Rattle.command.specs.Entry.{Entry}
use Rattle.message.specs.Message.{Message, Body as Says, append_yes, append_no}
use Rattle.state.specs.State.{Kept, State}
use Rattle.state.specs.Legal.{legal_state}
use Rattle.state.specs.Image.{image, state_in}
use Rattle.rules.specs.Events.{len, says}
use Rattle.rules.specs.Receive.{Effect, effect, fits, taken, heard_append}
use Rattle.rules.specs.Step.{written}
use Rattle.kinds.proofs.BoolLaws.{cond_either}
use Rattle.message.proofs.LegalLaws.{append_is}
use Rattle.promise.specs.Promise.{Ready, HearsAppend, is_effect, ruled_by, said_by}
use Rattle.promise.proofs.PromiseLaws.{ready_legal, ready_next, ready_who}
use Rattle.replace.specs.Taken.{taken_by}
use Rattle.replace.proofs.TakenLaws.{append_fits, append_misses, taken_by_legal}
use Rattle.say.specs.Said.{Said, Answering}
use Rattle.acknowledge.specs.Answered.{Answered}

-- A rule that writes a message.
said_answered :
    {e : Effect} (next : State) (m : Message) {l l' out out' : List ℕ} {r : ℕ} → e ≡ effect next (some m) → l' ≡ image next → Said m out r out'
    → Answered e l out r l' out'
unfolding is_effect ruled_by said_by written
said_answered next m e left said =
    rw e (record { acts = refl; returned = said.returned; state_left = left; output_left = said.output_left })

-- ---- the state that it leaves

module _ (w : Who) (s : State) (prev prevterm chosen : ℕ) (es : List Entry) where
  abbrev fitting : Bool
  fitting = fits s.kept prev prevterm (prev + length es)

  abbrev after : State
  after = taken_by s prev prevterm chosen es

  -- The term stays.
  after_term_lem : after.kept.term ≡ s.kept.term
  unfolding taken_by taken
  after_term_lem = cond_either (λ (k : Kept). k.term ≡ s.kept.term) fitting (λ t. refl) (λ t. refl)

  -- So what is said after it is what is said before.
  says_after : (to : ℕ) (body : Says) → says w after to body ≡ says w s to body
  unfolding says
  says_after to body = rw after_term_lem

  -- The log stays where it does not fit.
  len_after : fitting ≡ false → len after ≡ len s
  unfolding taken_by
  len_after e = rw e

-- ---- an append that is heard

module _ (w : Who) (l : List ℕ) (prev prevterm chosen : ℕ) (es : List Entry) (a : HearsAppend w l prev prevterm chosen es) where
  abbrev left : State
  left = taken_by (state_in l) prev prevterm chosen es

  -- Its end is a place of the log.
  pub end_within : prev + length es ≤ limit
  end_within = (append_is (state_in l).kept.term prev prevterm chosen es a.legal).within

  left_legal : legal_state w left ≡ true
  left_legal = taken_by_legal w (ready_who w l a.ready) (state_in l) prev prevterm chosen es (ready_legal w l a.ready) a.legal

  module _ (from : ℕ) (out : List ℕ) (k : Answering (state_in l) from out) {l' : List ℕ} (el : l' ≡ image left) where
    next : Ready w l' × (state_in l' ≡ left)
    next = ready_next w l a.ready left left_legal el

    -- The bytes are ready again.
    pub ready_after : Ready w l'
    ready_after = next.0

    -- The sender may be answered after it.
    pub may_say_after : Answering (state_in l') from out
    may_say_after =
        let same = ap (λ (x : State). x.kept.term) next.1 ∙ after_term_lem w (state_in l) prev prevterm chosen es in
        record { risen = omega (arith, same, k.risen); to_first = k.to_first; to_last = k.to_last; room = k.room }

    module _ {fitted : Bool} (is : fitted ≡ fits (state_in l).kept prev prevterm (prev + length es)) where
      -- It fitted: append-yes with its end.
      pub fitted_answered :
          fitted ≡ true → {end : Place} → end ≡ place (prev + length es) → {r : ℕ} {out' : List ℕ}
          → Said (says w (state_in l') from (append_yes end.0)) out r out'
          → Answered (heard_append w (state_in l) from prev prevterm chosen es) l out r l' out'
      fitted_answered fit ee said =
          said_answered left _ (append_fits w (state_in l) from prev prevterm chosen es (sym is ∙ fit)) el
          (rw (next.1, ee, says_after w (state_in l) prev prevterm chosen es from (append_yes (prev + length es))) at said)

      -- It did not: append-no with own length.
      pub missed_answered :
          fitted ≡ false → {r : ℕ} {out' : List ℕ} → Said (says w (state_in l') from (append_no (len (state_in l')))) out r out'
          → Answered (heard_append w (state_in l) from prev prevterm chosen es) l out r l' out'
      missed_answered miss said =
          let misses = sym is ∙ miss in
          said_answered left _ (append_misses w (state_in l) from prev prevterm chosen es misses) el
          (rw (
            next.1,
            len_after w (state_in l) prev prevterm chosen es misses,
            says_after w (state_in l) prev prevterm chosen es from (append_no (len (state_in l))),
          ) at said)
