-- Restart: the kept parts stay, so the hub's view does. Assumes nothing.
use Prim.Native.Nat.{ℕ}
use Rattle.kinds.specs.Sizes.{Group}
use Rattle.command.specs.Command.{Command}
use Rattle.state.specs.State.{State}
use Rattle.rules.specs.Events.{restart}
use Rattle.views.specs.Hall.{Hall}
use Rattle.views.proofs.Moves.{stay}
use Rattle.home.specs.Stands.{Logs, Ground, Rooted}
use Rattle.home.proofs.Frame.{Goes, goes}

-- A hub restarts.
pub restart_goes :
    {G : Group} {H : Hall Command} {made : Logs} → Ground G H made → {h : ℕ} {s : State} → Rooted G H made h s
    → Goes G H made h (restart s.kept).state (restart s.kept).message
unfolding restart
restart_goes ok f = goes ok (stay f.view) f.prefix tt tt
