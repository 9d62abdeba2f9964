-- A hub reports the commands at places 1 to chosen of its log, and no others (rule R13): what a caller that asks for one is told, and how
-- many there are. `kritnamon_reported` and `kritnamon_chosen` promise this. Assumes nothing.
use Rattle.std.specs.Prelude.{ℕ, ◌≡◌, cond, List, ◌++◌, ltb, length, drop}
use Rattle.std.proofs.Math.Option.{Option, none, some}
use Rattle.command.specs.Command.{Command, command_size, command_bytes}
use Rattle.state.specs.State.{Kept, reported_at}
use Rattle.state.specs.Image.{read_kept}
use Rattle.rules.specs.Outcome.{done, bad_state, short_output, out_of_range}
use Rattle.kinds.specs.Packed.{packed}

-- What a question comes to: an outcome, and the bytes that it leaves.
pub record Report : Type 0 where
  pub outcome : ℕ
  pub output : List ℕ

-- A place that is not in 1..chosen is refused with 12. A command takes the first 16 bytes of the output; the rest stays.
unfoldable pub told : Option Command → List ℕ → Report
told none out = record { outcome = out_of_range; output = out }
told (some c) out = record { outcome = done; output = command_bytes c ++ drop command_size out }

-- Kept parts that are not legal are refused first, then too short an output.
unfoldable pub reporting : Option Kept → ℕ → List ℕ → Report
reporting none p out = record { outcome = bad_state; output = out }
reporting (some k) p out =
    cond (ltb (length out) command_size) (record { outcome = short_output; output = out }) (told (reported_at k p) out)

abbrev pub report_of : List ℕ → ℕ → List ℕ → Report
report_of state p out = reporting (read_kept state) p out

-- An outcome and the bytes left are as they have to be.
pub record IsReport (a : Report) (outcome : ℕ) (output : List ℕ) : Type 0 where
  pub outcome_is : outcome ≡ a.outcome
  pub output_is : output ≡ a.output

-- How many are reported, in the upper half of a number; or outcome 2 in its lower half.
unfoldable pub counting : Option Kept → ℕ
counting none = bad_state
counting (some k) = packed done k.chosen

abbrev pub chosen_of : List ℕ → ℕ
chosen_of state = counting (read_kept state)
