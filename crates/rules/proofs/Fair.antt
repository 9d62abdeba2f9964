-- What is shown of every event, in one record, and the laws by which it is shown: of a refusal, of an effect, of parts that stay. Assumes nothing.
use Prim.Native.Nat.{ℕ, ◌≤◌}
use native.Mathlib.Omega.{arith}
use mathlib.Core.Path.{◌≡◌, refl, sym, subst}
use mathlib.Core.Bool.{true}
use mathlib.Core.Option.{Option, none, some}
use Rattle.kinds.specs.Sizes.{Who, term_most}
use Rattle.message.specs.Message.{Message, Body}
use Rattle.message.specs.Legal.{legal_to, legal_body}
use Rattle.state.specs.State.{Kept, State}
use Rattle.state.specs.Legal.{legal_state}
use Rattle.rules.specs.Outcome.{Next, done, stale, goes, refuses}
use Rattle.rules.specs.Events.{says}
use Rattle.rules.specs.Receive.{Effect, idle, effect}
use Rattle.rules.specs.Theorems.{Grows, SaysLegal}
use Rattle.kinds.proofs.BoolLaws.{none_some}
use Rattle.rules.proofs.LegalLaws.{IsWho, is_legal_message}

-- A next state and what is written with it.
pub record Sound (w : Who) (s next : State) (message : Option Message) : Type 0 where
  pub legal : legal_state w next ≡ true
  pub grows : Grows s.kept next.kept
  pub writes : (m : Message) → message ≡ some m → SaysLegal w next m

-- What an event comes to.
pub record Fair (w : Who) (s : State) (n : Next) : Type 0 where
  pub sound : Sound w s n.state n.message
  pub leaves : (n.outcome ≡ done → ⊥) → n.state ≡ s
  pub silent : (n.outcome ≡ done → ⊥) → (n.outcome ≡ stale → ⊥) → n.message ≡ none

-- What the rules do with a message: where they do anything, a message is written or the state is another.
pub data Fine (w : Who) (s : State) : Effect → Type 0 where
  idles : Fine w s idle
  does : {next : State} {message : Option Message} → Sound w s next message → (message ≡ none → next ≡ s → ⊥) → Fine w s (effect next message)

-- A hub of the group, and another than this one.
pub record IsPeer (w : Who) (from : ℕ) : Type 0 where
  pub first : 1 ≤ from
  pub last : from ≤ w.size
  pub other : from ≡ w.own → ⊥

-- ---- kept parts

-- What stays does not fall.
pub grows_same : (k : Kept) → Grows k k
grows_same k = record { term = omega arith; ballot = omega arith; chosen = omega arith; log = omega arith }

-- What does not fall twice does not fall.
pub grows_then : {j k l : Kept} → Grows j k → Grows k l → Grows j l
grows_then g h =
    record {
      term = omega (arith, g.term, h.term);
      ballot = omega (arith, g.ballot, h.ballot);
      chosen = omega (arith, g.chosen, h.chosen);
      log = omega (arith, g.log, h.log);
    }

-- ---- messages

-- Nothing is written.
pub writes_none : (w : Who) (next : State) (m : Message) → ◌≡◌ {A = Option Message} none (some m) → SaysLegal w next m
writes_none w next m e = none_some e

-- One message is written.
pub writes_one : (w : Who) (next : State) (x : Message) → SaysLegal w next x → (m : Message) → some x ≡ some m → SaysLegal w next m
writes_one w next x h m e =
    let same : x ≡ m = cc in
    subst (λ (y : Message). SaysLegal w next y) same h

-- What a hub says at its term is legal, if its to and its fields are.
pub says_legal :
    (w : Who) → IsWho w → (s next : State) (to : ℕ) (body : Body) → next.kept.term ≡ s.kept.term → 1 ≤ s.kept.term → s.kept.term ≤ term_most
    → legal_to to body ≡ true → legal_body s.kept.term body ≡ true → SaysLegal w next (says w s to body)
unfolding says
says_legal w i s next to body same first last t b =
    record {
      legal =
          is_legal_message (record { term = s.kept.term; from = w.own; to = to; body = body })
          (record { term = first; last = last; from = i.first; seven = omega (arith, i.last, i.most); to = t; body = b });
      from = refl;
      term = sym same;
    }

-- A message is written.
pub some_not_none : {m : Message} → some m ≡ none → ⊥
some_not_none e = none_some (sym e)

-- ---- outcomes

-- A refusal that writes nothing.
pub refuses_fair : (w : Who) (s : State) (k : ℕ) → legal_state w s ≡ true → Fair w s (refuses s k)
refuses_fair w s k h =
    record {
      sound = record { legal = h; grows = grows_same s.kept; writes = writes_none w s };
      leaves = λ f. refl;
      silent = λ f g. refl;
    }

-- An effect.
pub goes_fair : (w : Who) (s next : State) (message : Option Message) → Sound w s next message → Fair w s (goes next message)
goes_fair w s next message h = record { sound = h; leaves = λ f. absurd (f refl); silent = λ f g. absurd (f refl) }
