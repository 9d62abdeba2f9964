-- Laws of the reply to a stale message: what is said, and what is written then. Assumes nothing.
use Prim.Native.Nat.{ℕ}
use mathlib.Core.Path.{◌≡◌, refl}
use mathlib.Core.List.{List}
use mathlib.Core.Logic.{◌⊎◌, inl, inr}
use mathlib.Core.Option.{Option, none, some}
use Rattle.kinds.specs.declared.Place.{Place}
use Rattle.kinds.specs.declared.Term.{Term}
use Rattle.kinds.specs.Sizes.{Who}
use Rattle.message.specs.Message.{Message, vote_no, append_no}
use Rattle.message.specs.declared.Body.{Body}
use Rattle.message.specs.declared.Body.TheVariants.{VoteRequest, VoteYes, VoteNo, Append, AppendYes, AppendNo}
use Rattle.state.specs.State.{State}
use Rattle.rules.specs.Events.{len, says}
use Rattle.rules.specs.Receive.{stale_reply}
use Rattle.rules.specs.Step.{over, written}
use Rattle.say.specs.Said.{Said}
use Rattle.refuse.specs.Received.{body_in}
use Rattle.receive.specs.Heard.{Replied}

-- One message, for certain.
pub said_replied : {m : Option Message} (x : Message) {out out' : List ℕ} {r : ℕ} → m ≡ some x → Said x out r out' → Replied m out r out'
unfolding written
said_replied x e said = rw e (record { returned = said.returned; output_left = said.output_left })

-- None.
pub none_replied : {m : Option Message} (out : List ℕ) → m ≡ none → Replied m out 0 out
unfolding written over
none_replied out e = rw e (record { returned = refl; output_left = refl })

-- The reply to a stale vote-request.
pub stale_request :
    (w : Who) (s : State) (from : ℕ) {b : Body} {last : Place} {ballot : Term} (t : List ℕ) → b ≡ VoteRequest last ballot
    → stale_reply w s from (body_in b t) ≡ some (says w s from vote_no)
unfolding stale_reply
stale_request w s from t e = rw e

-- The reply to a stale append.
pub stale_append :
    (w : Who) (s : State) (from : ℕ) {b : Body} {prev : Place} {prevterm : Term} {chosen : Place} {count : ℕ} (t : List ℕ)
    → b ≡ Append prev prevterm chosen count → stale_reply w s from (body_in b t) ≡ some (says w s from (append_no (len s)))
unfolding stale_reply
stale_append w s from t e = rw e

-- There is none to any other message.
pub no_reply :
    (w : Who) (s : State) (from : ℕ) {b : Body} (t : List ℕ)
    → ((last : Place) × (ballot : Term) × (count : ℕ) × (b ≡ VoteYes last ballot count)) ⊎ (b ≡ VoteNo) ⊎ ((end : Place) × (b ≡ AppendYes end)) ⊎ ((n : Place) × (b ≡ AppendNo n))
    → stale_reply w s from (body_in b t) ≡ none
unfolding stale_reply
no_reply w s from t (inl e) = rw e.3
no_reply w s from t (inr (inl e)) = rw e
no_reply w s from t (inr (inr (inl e))) = rw e.1
no_reply w s from t (inr (inr (inr e))) = rw e.1
