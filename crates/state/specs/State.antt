-- A hub's state (rules R10 to R13): what a hub keeps over a restart and what it loses, a fresh hub, and what a hub reports. Assumes nothing.
use Rattle.std.specs.Prelude.{ℕ, zero, suc, Bool, List, [], map, take}
use Rattle.std.proofs.Math.Option.{Option, none}
use Rattle.std.proofs.Math.ListN.{get_elem?}
use Rattle.command.specs.Command.{Command}
use Rattle.command.specs.Entry.{Entry}

-- Kept over a restart. The ballot is one number for the whole log; chosen is a count of leading places.
pub record Kept : Type 0 where
  pub term : ℕ
  pub ballot : ℕ
  pub chosen : ℕ
  pub log : List Entry

-- A gathered entry.
pub record Pair : Type 0 where
  pub ballot : ℕ
  pub command : Command

-- Lost at a restart: the role, with what a hub of that role holds. So a follower holds nothing in the lost parts, a candidate no confirmed
-- lengths, a leader no voters and nothing gathered.
pub data Lost : Type 0 where
  follower : Lost
  candidate : List Bool → List Pair → Lost  -- for each of seven hubs whether it is among the voters; the gathered pairs
  leader : List ℕ → Lost  -- for each of seven hubs the length it has confirmed

pub record State : Type 0 where
  pub kept : Kept
  pub lost : Lost

-- A fresh hub is a follower with term, ballot and chosen 0 and an empty log.
unfoldable pub fresh : State
fresh = record { kept = record { term = 0; ballot = 0; chosen = 0; log = [] }; lost = follower }

-- A hub reports the commands at places 1 to chosen of its log, and no others.
unfoldable pub reported_by : Kept → List Command
reported_by k = map (λ e. e.command) (take k.chosen k.log)

-- The command that it reports at a place; places are counted from 1.
unfoldable pub reported_at : Kept → ℕ → Option Command
reported_at k zero = none
reported_at k (suc i) = get_elem? (reported_by k) i
