-- Laws of what a rule returns and leaves: one that writes a message, one that writes none, one that does nothing. Assumes nothing.
use Prim.Native.Nat.{ℕ}
use mathlib.Core.Path.{◌≡◌, refl, sym, ◌∙◌, ap}
use mathlib.Core.Bool.{Bool, true≢false}
use mathlib.Core.List.{List}
use mathlib.Core.Option.{some, Option as Perhaps}
use Rattle.std.specs.Prelude.{Option, Some, None}
use Rattle.std.specs.Bool.{then_some}
use lib.ListN.{length}
use Rattle.message.specs.Message.{Message}
use Rattle.state.specs.State.{State}
use Rattle.state.specs.Image.{image}
use Rattle.rules.specs.Receive.{Effect, idle, effect}
use Rattle.rules.specs.Step.{over, written}
use Rattle.promise.specs.Promise.{is_effect, ruled_by, said_by, Ruled}
use Rattle.say.specs.Said.{Said}
use Rattle.acknowledge.specs.Answered.{Answered}
use Rattle.obey.specs.Obeyed.{did_by, Obeyed}

-- A rule that writes a message.
pub said_obeyed :
    {e : Effect} (next : State) (m : Message) {l l' out out' : List ℕ} {r : ℕ} → e ≡ effect next (some m) → l' ≡ image next → Said m out r out'
    → Obeyed e l out (Some r) l' out'
unfolding did_by ruled_by said_by written
said_obeyed next m e left said =
    rw e (record { returned = ap Some said.returned; state_left = left; output_left = said.output_left })

-- A rule that writes none.
pub ruled_obeyed :
    (e : Effect) {l l' : List ℕ} (out : List ℕ) {b : Bool} {d : Option ℕ} → Ruled e l b l' → d ≡ then_some b 0 → Obeyed e l out d l' out
unfolding is_effect ruled_by said_by did_by written over
ruled_obeyed idle out r d= =
    record { returned = d= ∙ ap (λ (x : Bool). then_some x 0) r.returned; state_left = r.state_left; output_left = refl }
ruled_obeyed (effect next message) out r d= =
    let quiet : length (written message) ≡ 0 = ap (λ (x : Perhaps Message). length (written x)) r.silent in
    record {
      returned = d= ∙ ap (λ (x : Bool). then_some x 0) r.returned ∙ ap Some (sym quiet);
      state_left = r.state_left;
      output_left = ap (λ (x : Perhaps Message). over (written x) out) (sym r.silent);
    }

-- A rule that always answers.
pub answered_obeyed : (e : Effect) {l l' out out' : List ℕ} {r : ℕ} → Answered e l out r l' out' → Obeyed e l out (Some r) l' out'
unfolding is_effect said_by did_by
answered_obeyed idle a = absurd (true≢false (sym a.acts))
answered_obeyed (effect next message) a =
    record { returned = ap Some a.returned; state_left = a.state_left; output_left = a.output_left }

-- A rule that does nothing.
pub idle_obeyed : {e : Effect} (l out : List ℕ) → e ≡ idle → Obeyed e l out None l out
unfolding ruled_by said_by did_by written over
idle_obeyed l out e = rw e (record { returned = refl; state_left = refl; output_left = refl })
