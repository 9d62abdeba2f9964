-- The cases of rule R39, computed on values and carried over to whole calls. Assumes nothing.
use mathlib.Core.Path.{◌≡◌, refl}
use mathlib.Core.Bool.{true}
use Rattle.state.specs.Legal.{all}
use Rattle.cases.specs.Cases.{case_table, CasesHold}
use Rattle.rules.proofs.Computed.{computed}
use Rattle.rules.proofs.Values.{comes_out, all_hold}

on_values : all comes_out case_table ≡ true
unfolding computed case_table
on_values = refl

-- The twelve starred cases.
pub cases_hold : CasesHold
cases_hold = all_hold case_table on_values
