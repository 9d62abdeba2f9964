-- Laws of the sender of a received message: it is another hub of the group, and may be answered. Assumes nothing.
use Prim.Native.Nat.{ℕ, ◌≤◌}
use native.Mathlib.Omega.{arith}
use mathlib.Core.Path.{◌≡◌}
use mathlib.Core.Bool.{false}
use mathlib.Core.List.{List}
use Rattle.kinds.specs.Sizes.{Who}
use Rattle.state.specs.Image.{state_in}
use Rattle.rules.specs.Receive.{is_misaddressed}
use Rattle.rules.proofs.LegalLaws.{IsMessage, legal_message_is}
use Rattle.rules.proofs.Fair.{IsPeer}
use Rattle.rules.proofs.ReceiveLaws.{sender}
use Rattle.promise.proofs.PromiseLaws.{ready_legal, ready_who}
use Rattle.say.specs.Said.{Answering}
use Rattle.refuse.specs.Received.{message_heard}
use Rattle.obey.specs.declared.heard.Heard.{Heard}
use Rattle.obey.specs.Obeyed.{Receives}

-- A received message is legal, part by part.
pub message_legal : (m : Heard) → IsMessage (message_heard m.fields m.lines.now)
message_legal m = legal_message_is (message_heard m.fields m.lines.now) m.legal

module _ (w : Who) (l : List ℕ) (m : Heard) (out : List ℕ) (g : Receives w l out) where
  module _ (a : is_misaddressed w (message_heard m.fields m.lines.now) ≡ false) where
    -- One that is for this hub comes from another hub of the group.
    pub peer : IsPeer w m.fields.from.0
    peer = sender w (ready_who w l g.ready) (state_in l) (ready_legal w l g.ready) (message_heard m.fields m.lines.now) (message_legal m) a

    -- Its sender may be answered, at a term that is not 0.
    pub may_answer : 1 ≤ (state_in l).kept.term → Answering (state_in l) m.fields.from.0 out
    may_answer risen =
        record {
          risen = risen;
          to_first = peer.first;
          to_last = omega (arith, peer.last, (ready_who w l g.ready).most);
          room = g.room;
        }
