-- Laws of the step's answer: what each event gives is what the step has to answer, and put in one number it is what C is promised. Assumes nothing.
use Prim.Native.Nat.{ℕ}
use native.Mathlib.Omega.{arith}
use mathlib.Core.Path.{◌≡◌, refl, ap}
use mathlib.Core.List.{List}
use mathlib.Core.Option.{Option, none, some}
use Rattle.std.specs.Prelude.{Result, Ok, Err}
use Rattle.std.specs.Result.{IsErrAnd}
use Rattle.kinds.specs.declared.Hub.{Hub}
use Rattle.kinds.specs.declared.Place.{Place}
use Rattle.kinds.specs.Of.{hub, place}
use Rattle.kinds.specs.Packed.{placed, packed}
use Rattle.kinds.specs.declared.Event.{Event}
use Rattle.kinds.specs.declared.Event.TheVariants.{Start, Propose, Send, Restart, Receive}
use Rattle.kinds.specs.declared.Refusal.{Refusal}
use Rattle.command.specs.Proposal.{read_proposal}
use Rattle.message.specs.Message.{Message}
use Rattle.message.specs.Text.{read}
use Rattle.message.proofs.PlaceLaws.{no_place}
use Rattle.state.specs.State.{State}
use Rattle.state.specs.Image.{image, state_in, kept_in}
use Rattle.rules.proofs.OutcomeLaws.{start_told, propose_told, send_told, restart_told}
use Rattle.rules.specs.Outcome.{Next, bad_message}
use Rattle.rules.specs.Events.{start, propose, send, restart}
use Rattle.rules.specs.Step.{Call, Answer, answer, refusal, receiving, acting, seen_by, step_of, written, over}
use Rattle.promise.specs.Promise.{Answers, Ready, Gives, Quiet, left_by}
use Rattle.promise.specs.Gate.{is_fit, gate}
use Rattle.promise.proofs.PromiseLaws.{done_quiet}
use Rattle.receive.specs.declared.Refused.{Refused}
use Rattle.receive.specs.declared.Refused.TheVariants.{Not}
use Rattle.receive.specs.Heard.{outcome_told, place_told, bytes_told, heard, ToldOf}
use Rattle.step.specs.Acts.{Acts}
use Rattle.step.proofs.StepLaws.{Refuses, step_refuses, step_passes, step_acts, step_ready, restart_sees}

-- ---- answers of the events as answers of the step

abbrev pub lifted : Result ℕ Refusal → Result ℕ Refused
lifted (Ok n) = Ok n
lifted (Err r) = Err (Not r)

abbrev pub lifted_quiet : Result (Unit {0}) Refusal → Result ℕ Refused
lifted_quiet (Ok _) = Ok 0
lifted_quiet (Err r) = Err (Not r)

-- An error that `?` made of a refusal.
pub converted : {r : Refusal} (x : Result ℕ Refused) → IsErrAnd x (λ e. e ≡ Not r) → x ≡ Err (Not r)
converted (Ok n) h = absurd h
converted (Err e) h = ap Err h

module _ (c : Call) (n : Next) (other : n.outcome ≡ bad_message → ⊥) (is : step_of c ≡ answer c n) where
  gives_acts : (r : Result ℕ Refusal) {l out : List ℕ} → Gives n c.state c.output r l out → Acts (step_of c) c.input (lifted r) l out
  unfolding answer left_by
  gives_acts (Ok k) g =
      rw is
      (record {
        outcome = g.outcome;
        place_is = no_place other;
        bytes = g.bytes;
        place_fits = omega arith;
        bytes_fit = g.bytes_fit;
        state_left = g.state_left;
        output_left = g.output_left;
      })
  gives_acts (Err e) g =
      rw is
      (record {
        outcome = g.outcome;
        place_is = no_place other;
        bytes = g.bytes;
        place_fits = omega arith;
        bytes_fit = omega arith;
        state_left = g.state_left;
        output_left = g.output_left;
      })

  quiet_acts : (r : Result (Unit {0}) Refusal) {l : List ℕ} → Quiet n c.state r l → Acts (step_of c) c.input (lifted_quiet r) l c.output
  unfolding answer left_by written over
  quiet_acts (Ok u) q =
      rw (is, q.silent)
      (record {
        outcome = q.outcome;
        place_is = no_place other;
        bytes = refl;
        place_fits = omega arith;
        bytes_fit = omega arith;
        state_left = q.state_left;
        output_left = refl;
      })
  quiet_acts (Err e) q =
      rw (is, q.silent)
      (record {
        outcome = q.outcome;
        place_is = no_place other;
        bytes = refl;
        place_fits = omega arith;
        bytes_fit = omega arith;
        state_left = q.state_left;
        output_left = refl;
      })

-- What a received text tells.
heard_acts :
    (c : Call) (s : State) (m : Option Message) → step_of c ≡ receiving c s m → {r : Result ℕ Refused} {l out : List ℕ}
    → ToldOf (heard c.who s m) c.input c.state c.output r l out → Acts (step_of c) c.input r l out
unfolding heard receiving refusal answer left_by written over
heard_acts c s none is t =
    rw is
    (record {
      outcome = t.told.outcome;
      place_is = rw t.told.place_is t.place_with;
      bytes = t.told.bytes;
      place_fits = t.place_fits;
      bytes_fit = t.bytes_fit;
      state_left = t.told.state_left;
      output_left = t.told.output_left;
    })
heard_acts c s (some m) is t =
    rw is
    (record {
      outcome = t.told.outcome;
      place_is = rw t.told.place_is t.place_with;
      bytes = t.told.bytes;
      place_fits = t.place_fits;
      bytes_fit = t.bytes_fit;
      state_left = t.told.state_left;
      output_left = t.told.output_left;
    })

-- ---- each event, where the gate is open or not

module _ (c : Call) where
  abbrev gate_of : Result Event Refusal
  gate_of = gate c.who c.event c.state c.output

  -- A call that is refused before every event leaves every byte.
  pub refused_acts : (r : Refusal) → gate_of ≡ Err r → Acts (step_of c) c.input (Err (Not r)) c.state c.output
  unfolding refusal
  refused_acts r g =
      let refuses : Refuses c r = step_refuses c r g in
      rw refuses.step
      (record {
        outcome = refl;
        place_is = no_place refuses.other;
        bytes = refl;
        place_fits = omega arith;
        bytes_fit = omega arith;
        state_left = refl;
        output_left = refl;
      })

  -- The state is ready for any event but a restart.
  pub start_ready : gate_of ≡ Ok Start → Ready c.who c.state
  unfolding is_fit
  start_ready g = step_ready c Start refl (step_passes c Start g)

  pub propose_ready : gate_of ≡ Ok Propose → Ready c.who c.state
  unfolding is_fit
  propose_ready g = step_ready c Propose refl (step_passes c Propose g)

  pub send_ready : gate_of ≡ Ok Send → Ready c.who c.state
  unfolding is_fit
  send_ready g = step_ready c Send refl (step_passes c Send g)

  pub receive_ready : gate_of ≡ Ok Receive → Ready c.who c.state
  unfolding is_fit
  receive_ready g = step_ready c Receive refl (step_passes c Receive g)

  -- Start.
  pub start_acts : gate_of ≡ Ok Start → {r : Result ℕ Refusal} {l out : List ℕ} → Gives (start c.who (state_in c.state)) c.state c.output r l out
      → Acts (step_of c) c.input (lifted r) l out
  unfolding acting seen_by
  start_acts g {r} gives =
      gives_acts c (start c.who (state_in c.state)) (start_told c.who (state_in c.state)).other
      (step_acts c Start (step_passes c Start g) (state_in c.state) (start_ready g).held) r gives

  -- Propose.
  pub propose_acts : gate_of ≡ Ok Propose → {r : Result (Unit {0}) Refusal} {l : List ℕ}
      → Quiet (propose c.who (state_in c.state) (read_proposal c.input)) c.state r l → Acts (step_of c) c.input (lifted_quiet r) l c.output
  unfolding acting seen_by
  propose_acts g {r} quiet =
      quiet_acts c (propose c.who (state_in c.state) (read_proposal c.input))
      (propose_told c.who (state_in c.state).kept (state_in c.state).lost (read_proposal c.input)).other
      (step_acts c Propose (step_passes c Propose g) (state_in c.state) (propose_ready g).held) r quiet

  -- Send: peer a, from prev b.
  pub send_acts : gate_of ≡ Ok Send → {peer : Hub} {prev : Place} → peer ≡ hub c.a → prev ≡ place c.b → {r : Result ℕ Refusal} {l out : List ℕ}
      → Gives (send c.who (state_in c.state) peer.0 prev.0) c.state c.output r l out → Acts (step_of c) c.input (lifted r) l out
  unfolding acting seen_by
  send_acts g peer= prev= {r} gives =
      gives_acts c (send c.who (state_in c.state) c.a c.b) (send_told c.who (state_in c.state) c.a c.b).other
      (step_acts c Send (step_passes c Send g) (state_in c.state) (send_ready g).held) r (rw (peer=, prev=) at gives)

  -- Restart.
  pub restart_acts : gate_of ≡ Ok Restart → {l : List ℕ} → l ≡ image (restart (kept_in c.state)).state → Acts (step_of c) c.input (Ok 0) l c.output
  unfolding acting restart
  restart_acts g left =
      let k = kept_in c.state in
      let passes = step_passes c Restart g in
      let s = (restart k).state in
      quiet_acts c (restart k) (restart_told k).other (step_acts c Restart passes s (restart_sees c passes)) (Ok tt) (done_quiet s c.state _ refl left)

  -- Receive.
  pub receive_acts : gate_of ≡ Ok Receive → {r : Result ℕ Refused} {l out : List ℕ}
      → ToldOf (heard c.who (state_in c.state) (read c.input)) c.input c.state c.output r l out → Acts (step_of c) c.input r l out
  unfolding acting seen_by
  receive_acts g told =
      heard_acts c (state_in c.state) (read c.input) (step_acts c Receive (step_passes c Receive g) (state_in c.state) (receive_ready g).held) told

-- ---- in one number

-- What is answered, put in one number, is what C is promised.
pub acts_answers :
    {a : Answer} {input : List ℕ} {r : Result ℕ Refused} {l out : List ℕ} → Acts a input r l out → {x : ℕ}
    → x ≡ packed (placed (outcome_told r) (place_told r)) (bytes_told r) → Answers a input x l out
acts_answers {r = r} acts e =
    record {
      place = place_told r;
      place_is = acts.place_is;
      returned = rw (acts.outcome, acts.bytes) at e;
      state_left = acts.state_left;
      output_left = acts.output_left;
    }
