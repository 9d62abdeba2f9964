-- A hub seen from MultiPaxos (rule R37): with ballot b and length n it counts as having voted at b for places 1..n. Assumes nothing.
use Rattle.std.specs.Prelude.{ℕ, zero, suc, false, List, map, ◌++◌}
use Rattle.std.proofs.Math.Option.{Option, none, some}
use Rattle.std.proofs.Math.ListN.{get_elem?}
use Rattle.kinds.specs.Sizes.{Group, between}
use Rattle.command.specs.Command.{Command}
use Rattle.command.specs.Entry.{Entry}
use Rattle.state.specs.State.{Kept, Pair}
use Rattle.state.specs.Image.{read_kept}
use Rattle.paxos.specs.Paxos.{Machine, Seen, never, at}
use Rattle.views.specs.Hall.{View, blank}

-- What an entry at the ballot b, or none, counts as.
abbrev pub entry_counts : ℕ → Option Entry → Seen Command
entry_counts b none = never
entry_counts b (some e) = at b e.command

-- What a log at the ballot b holds at each place; places are counted from 1.
unfoldable pub holds_of : ℕ → List Entry → ℕ → Seen Command
holds_of b log zero = never
holds_of b log (suc i) = entry_counts b (get_elem? log i)

-- The view of the kept parts: places 1..length are held at the ballot, places 1..chosen reported.
abbrev pub view_of : Kept → View Command
view_of k = record { term = k.term; holds = holds_of k.ballot k.log; says = between 1 k.chosen }

-- The view of bytes: of their kept parts, and a fresh hub's where those are not legal.
unfoldable pub view_in : List ℕ → View Command
view_in l = elim (read_kept l) [ none ↦ blank | some k ↦ view_of k ]

-- The machine that a group is mapped to. It has no command of its own.
abbrev pub machine : Group → Machine Command
machine G = record { size = G.size; own = λ c. false }

-- What a gathered pair, or none, counts as.
abbrev pub pair_counts : Option Pair → Seen Command
pair_counts none = never
pair_counts (some x) = at x.ballot x.command

-- What a candidate would propose, place by place: its log's commands at its ballot, then what it gathered.
unfoldable pub tally : Kept → List Pair → List Pair
tally k gathered = map (λ e. record { ballot = k.ballot; command = e.command }) k.log ++ gathered
