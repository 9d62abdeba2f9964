-- A worked case: one call of the step at full size, and all that has to come out of it. The states are given by what they hold; what is lent and what
-- is left are their images, byte for byte. Assumes nothing.
use Rattle.std.specs.Prelude.{ℕ, Bool, true, ◌&&◌, List, ◌≡◌, eqb, length, replicate}
use Rattle.kinds.specs.Sizes.{Who}
use Rattle.state.specs.State.{State}
use Rattle.state.specs.Legal.{all}
use Rattle.state.specs.Image.{image}
use Rattle.rules.specs.Step.{Call, Answer, step_of, over}
use Rattle.kinds.specs.Same.{same}

pub record CaseRow : Type 0 where
  pub case : ℕ  -- the number of the case, or the outcome that the row is an example of
  pub who : Who
  pub event : ℕ
  pub a : ℕ
  pub b : ℕ
  pub state : State  -- whose image is lent
  pub input : List ℕ
  pub room : ℕ  -- the bytes of the output
  pub outcome : ℕ
  pub next : State  -- whose image is left
  pub message : List ℕ  -- the text that is written; empty for none

-- An output filled with a byte that no message has.
abbrev pub lent : CaseRow → List ℕ
lent r = replicate r.room 255

abbrev pub call_of : CaseRow → Call
call_of r =
    record {
      who = r.who;
      event = r.event;
      a = r.a;
      b = r.b;
      state = image r.state;
      input = r.input;
      output = lent r;
    }

-- The answer of a call: outcome, bytes written, every byte of the state and of the output.
abbrev pub answers : CaseRow → Answer → Bool
answers r given =
    eqb given.outcome r.outcome
    && (eqb given.wrote (length r.message)
    && (same given.state (image r.next) && same given.output (over r.message (lent r))))

-- The step gives what the row says.
unfoldable pub holds : CaseRow → Bool
holds r = answers r (step_of (call_of r))

-- Every row of a table holds.
abbrev pub AllHold : List CaseRow → Type 0
AllHold table = all holds table ≡ true
