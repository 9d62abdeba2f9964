-- What an event's proof has to give for a message, by what the rules do with it. Assumes nothing.
use Prim.Native.Nat.{ℕ}
use mathlib.Core.Option.{none}
use Rattle.kinds.specs.Sizes.{Group}
use Rattle.command.specs.Command.{Command}
use Rattle.state.specs.State.{State}
use Rattle.rules.specs.Receive.{Effect, idle, effect}
use Rattle.views.specs.Hall.{Hall}
use Rattle.home.specs.Stands.{Logs}
use Rattle.home.proofs.Frame.{Goes}

-- What the rules do with a message: nothing at all, or a step.
abbrev pub GoesBy : (G : Group) → Hall Command → Logs → ℕ → State → Effect → Type 0
GoesBy G H made h s idle = Goes G H made h s none
GoesBy G H made h s (effect next m) = Goes G H made h next m
