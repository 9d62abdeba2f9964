-- The answers to vote-requests, computed on values and carried over to whole calls. Assumes nothing.
use mathlib.Core.Path.{◌≡◌, refl}
use mathlib.Core.Bool.{true}
use Rattle.state.specs.Legal.{all}
use Rattle.bench.specs.Votes.{votes, VotesHold}
use Rattle.rules.proofs.Computed.{computed}
use Rattle.rules.proofs.Values.{comes_out, all_hold}

on_values : all comes_out votes ≡ true
unfolding computed votes
on_values = refl

pub votes_hold : VotesHold
votes_hold = all_hold votes on_values
