-- The seven steps, computed. Assumes nothing.
use mathlib.Core.Path.{refl}
use Rattle.rules.proofs.Computed.{computed}
use Rattle.paxos.specs.Put.{put}
use Rattle.engine.specs.Home.{joining, adding, after}
use Rattle.home.specs.Hub.{call_for, text_for, command_for, is_restart}
use Rattle.reaches.specs.Run.{number_of, peer_of, input_of, deed_of, turned}
use Rattle.reaches.specs.Phases.{phases}
use Rattle.seven.specs.Steps.{SevenSteps}

-- Everything is opened, and both sides compute to the same.
pub seven_steps : SevenSteps
unfolding computed put joining adding after number_of peer_of input_of deed_of turned phases call_for text_for command_for is_restart
seven_steps = refl
