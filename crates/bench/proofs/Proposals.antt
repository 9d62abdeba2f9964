-- What may be proposed and what may be held, computed; the steps on values, and carried over to whole calls. Assumes nothing.
use mathlib.Core.Path.{◌≡◌, refl}
use mathlib.Core.Bool.{true}
use Rattle.command.specs.Answers.{is_command, command_written}
use Rattle.state.specs.Legal.{all}
use Rattle.bench.specs.Proposals.{proposals, ProposalsHold}
use Rattle.rules.proofs.Computed.{computed}
use Rattle.rules.proofs.Values.{comes_out, all_hold}

on_values : all comes_out proposals ≡ true
unfolding computed proposals
on_values = refl

pub proposals_hold : ProposalsHold
unfolding computed is_command command_written
proposals_hold = record { steps = all_hold proposals on_values; low_0 = refl; low_19 = refl; reads = refl; writes = refl }
