-- Laws of the whole call: what the step is behind each answer of the gate. Assumes nothing.
use Prim.Native.Nat.{ℕ, ◌≤◌}
use native.Mathlib.Omega.{arith}
use mathlib.Core.Path.{◌≡◌, refl, sym, ◌∙◌, ap, subst}
use mathlib.Core.Bool.{Bool, true, false, cond, ◌&&◌}
use mathlib.Core.List.{List}
use mathlib.Core.Option.{Option, none, some}
use borrow.Author.Tests.{ltb-false}
use lib.Dec.{ltb}
use lib.ListN.{length}
use Rattle.std.specs.Prelude.{Result, Ok, Err}
use Rattle.kinds.specs.Sizes.{Who, is_size, is_hub, text_room}
use Rattle.kinds.specs.Event.{event_with}
use Rattle.kinds.specs.Refusal.{number_of}
use Rattle.kinds.specs.declared.Event.{Event as Named}
use Rattle.kinds.specs.declared.Event.TheVariants.{Start, Propose, Send, Restart, Receive}
use Rattle.kinds.specs.declared.Refusal.{Refusal}
use Rattle.kinds.specs.declared.Refusal.TheVariants.{NotKnown, BadState, ShortOutput}
use Rattle.kinds.proofs.BoolLaws.{and_first, and_second}
use Rattle.state.specs.State.{Kept, State}
use Rattle.state.specs.Image.{kept_in, read_state, read_kept}
use Rattle.state.specs.Check.{is_some}
use Rattle.rules.specs.Outcome.{bad_message}
use Rattle.rules.specs.Events.{restart}
use Rattle.rules.specs.Step.{Call, Event, start_event, propose_event, send_event, restart_event, receive_event, event_of, refusal, acting, kept_alone, seen_by, at_state, at_event, step_of}
use Rattle.promise.specs.Promise.{Ready}
use Rattle.promise.specs.Gate.{is_in, is_fit, let_in, gate}
use Rattle.promise.proofs.GateLaws.{none_when, read_state_some, read_kept_some}

-- ---- events

-- The event, as the rules have it.
abbrev pub ruled : Named → Event
ruled Start = start_event
ruled Propose = propose_event
ruled Send = send_event
ruled Restart = restart_event
ruled Receive = receive_event

-- A number's event, and none.
named_is :
    (a b c d f : Bool) (e : Named)
    → ◌≡◌ {A = Result Named Refusal} (cond a (Ok Start) (cond b (Ok Propose) (cond c (Ok Send) (cond d (Ok Restart) (cond f (Ok Receive) (Err NotKnown))))))
    (Ok e)
    → cond a (some start_event) (cond b (some propose_event) (cond c (some send_event) (cond d (some restart_event) (cond f (some receive_event) none))))
    ≡ some (ruled e)
named_is true b c d f e h = let same : Start ≡ e = cc in ap (λ (x : Named). some (ruled x)) same
named_is false true c d f e h = let same : Propose ≡ e = cc in ap (λ (x : Named). some (ruled x)) same
named_is false false true d f e h = let same : Send ≡ e = cc in ap (λ (x : Named). some (ruled x)) same
named_is false false false true f e h = let same : Restart ≡ e = cc in ap (λ (x : Named). some (ruled x)) same
named_is false false false false true e h = let same : Receive ≡ e = cc in ap (λ (x : Named). some (ruled x)) same
named_is false false false false false e h = absurd cc

nameless_is :
    (a b c d f : Bool) (r : Refusal)
    → ◌≡◌ {A = Result Named Refusal} (cond a (Ok Start) (cond b (Ok Propose) (cond c (Ok Send) (cond d (Ok Restart) (cond f (Ok Receive) (Err NotKnown))))))
    (Err r)
    → (r ≡ NotKnown)
    × (◌≡◌ {A = Option Event}
    (cond a (some start_event) (cond b (some propose_event) (cond c (some send_event) (cond d (some restart_event) (cond f (some receive_event) none))))) none)
nameless_is true b c d f r h = absurd cc
nameless_is false true c d f r h = absurd cc
nameless_is false false true d f r h = absurd cc
nameless_is false false false true f r h = absurd cc
nameless_is false false false false true r h = absurd cc
nameless_is false false false false false r h = (cc, refl)

event_named : (n : ℕ) (e : Named) → event_with n ≡ Ok e → event_of n ≡ some (ruled e)
unfolding event_with event_of
event_named n e h = named_is _ _ _ _ _ e h

event_nameless : (n : ℕ) (r : Refusal) → event_with n ≡ Err r → (r ≡ NotKnown) × (event_of n ≡ none)
unfolding event_with event_of
event_nameless n r h = nameless_is _ _ _ _ _ r h

-- The gate checks what the event needs to see.
alone : (o : Option Kept) → is_some o ≡ is_some (kept_alone o)
unfolding is_some kept_alone
alone none = refl
alone (some k) = refl

fit_seen : (w : Who) (e : Named) (l : List ℕ) → is_fit w e l ≡ is_some (seen_by w (ruled e) l)
unfolding is_fit seen_by
fit_seen w Start l = refl
fit_seen w Propose l = refl
fit_seen w Send l = refl
fit_seen w Restart l = alone (read_kept l)
fit_seen w Receive l = refl

-- ---- the gate

-- What is refused with this.
pub record Refuses (c : Call) (r : Refusal) : Type 0 where
  pub other : number_of r ≡ bad_message → ⊥
  pub step : step_of c ≡ refusal c (number_of r)

-- What holds where an event passes.
pub record Passes (c : Call) (e : Named) : Type 0 where
  pub size : is_size c.who.size ≡ true
  pub own : is_hub c.who.size c.who.own ≡ true
  pub event : event_of c.event ≡ some (ruled e)
  pub fit : is_fit c.who e c.state ≡ true
  pub room : ltb (length c.output) text_room ≡ false

module _ (c : Call) where
  abbrev here : Bool
  here = is_size c.who.size && is_hub c.who.size c.who.own

  -- Who is not in a group is refused whatever the event.
  outside : here ≡ false → (o : Option Event) → at_event c o ≡ refusal c (number_of NotKnown)
  unfolding at_event
  outside h none = refl
  outside h (some e) = rw h

  -- One that is, by what is read of the state.
  unfit : here ≡ true → (e : Event) → seen_by c.who e c.state ≡ none → at_event c (some e) ≡ refusal c (number_of BadState)
  unfolding at_event at_state
  unfit h e sees = rw (h, sees)

  short : here ≡ true → (e : Event) (o : Option State) → is_some o ≡ true → seen_by c.who e c.state ≡ o → ltb (length c.output) text_room ≡ true
      → at_event c (some e) ≡ refusal c (number_of ShortOutput)
  unfolding at_event at_state is_some
  short h e none some-is sees b = absurd cc
  short h e (some s) some-is sees b = rw (h, sees, b)

  fit_refused :
      here ≡ true → (e : Named) → event_of c.event ≡ some (ruled e) → (f s : Bool) → is_fit c.who e c.state ≡ f → ltb (length c.output) text_room ≡ s
      → (r : Refusal) → ◌≡◌ {A = Result Named Refusal} (cond f (cond s (Err ShortOutput) (Ok e)) (Err BadState)) (Err r) → Refuses c r
  unfolding step_of
  fit_refused h e is false s a b r g =
      let same : BadState ≡ r = cc in
      subst (Refuses c) same
      (record { other = λ z. omega arith; step = rw is (unfit h (ruled e) (none_when (seen_by c.who (ruled e) c.state) (sym (fit_seen c.who e c.state) ∙ a))) })
  fit_refused h e is true true a b r g =
      let same : ShortOutput ≡ r = cc in
      subst (Refuses c) same
      (record { other = λ z. omega arith; step = rw is (short h (ruled e) (seen_by c.who (ruled e) c.state) (sym (fit_seen c.who e c.state) ∙ a) refl b) })
  fit_refused h e is true false a b r g = absurd cc

  not_known_refused : (r : Refusal) → NotKnown ≡ r → at_event c (event_of c.event) ≡ refusal c (number_of NotKnown) → Refuses c r
  unfolding step_of
  not_known_refused r same is = subst (Refuses c) same (record { other = λ z. omega arith; step = is })

  let_in_refused :
      here ≡ true → (n : Result Named Refusal) → event_with c.event ≡ n → (r : Refusal) → let_in c.who c.state c.output n ≡ Err r → Refuses c r
  unfolding let_in at_event
  let_in_refused h (Ok e) is r g = fit_refused h e (event_named c.event e is) (is_fit c.who e c.state) (ltb (length c.output) text_room) refl refl r g
  let_in_refused h (Err k) is r g =
      let nameless = event_nameless c.event k is in
      let same : NotKnown ≡ r = sym nameless.0 ∙ cc in
      not_known_refused r same (rw nameless.1)

  gate_refused : (b : Bool) → here ≡ b → (r : Refusal)
      → ◌≡◌ {A = Result Named Refusal} (cond b (let_in c.who c.state c.output (event_with c.event)) (Err NotKnown)) (Err r) → Refuses c r
  gate_refused true h r g = let_in_refused h (event_with c.event) refl r g
  gate_refused false h r g = not_known_refused r (cc) (outside h (event_of c.event))

  -- The gate refuses.
  pub step_refuses : (r : Refusal) → gate c.who c.event c.state c.output ≡ Err r → Refuses c r
  unfolding gate is_in
  step_refuses r g = gate_refused here refl r g

  fit_passes :
      here ≡ true → (x : Named) → event_of c.event ≡ some (ruled x) → (f s : Bool) → is_fit c.who x c.state ≡ f → ltb (length c.output) text_room ≡ s
      → (e : Named) → ◌≡◌ {A = Result Named Refusal} (cond f (cond s (Err ShortOutput) (Ok x)) (Err BadState)) (Ok e) → Passes c e
  fit_passes h x is false s a b e g = absurd cc
  fit_passes h x is true true a b e g = absurd cc
  fit_passes h x is true false a b e g =
      let same : x ≡ e = cc in
      subst (Passes c) same
      (record {
        size = and_first (is_size c.who.size) (is_hub c.who.size c.who.own) h;
        own = and_second (is_size c.who.size) (is_hub c.who.size c.who.own) h;
        event = is;
        fit = a;
        room = b;
      })

  let_in_passes : here ≡ true → (n : Result Named Refusal) → event_with c.event ≡ n → (e : Named) → let_in c.who c.state c.output n ≡ Ok e → Passes c e
  unfolding let_in
  let_in_passes h (Ok x) is e g = fit_passes h x (event_named c.event x is) (is_fit c.who x c.state) (ltb (length c.output) text_room) refl refl e g
  let_in_passes h (Err k) is e g = absurd cc

  gate_passes : (b : Bool) → here ≡ b → (e : Named)
      → ◌≡◌ {A = Result Named Refusal} (cond b (let_in c.who c.state c.output (event_with c.event)) (Err NotKnown)) (Ok e) → Passes c e
  gate_passes true h e g = let_in_passes h (event_with c.event) refl e g
  gate_passes false h e g = absurd cc

  -- The gate lets the event in.
  pub step_passes : (e : Named) → gate c.who c.event c.state c.output ≡ Ok e → Passes c e
  unfolding gate is_in
  step_passes e g = gate_passes here refl e g

-- ---- behind the gate

module _ (c : Call) (e : Named) (p : Passes c e) where
  -- The output has its room.
  pub step_room : text_room ≤ length c.output
  step_room = ltb-false (length c.output) text_room p.room

  -- The step is the event's, at what it sees.
  pub step_acts : (s : State) → seen_by c.who (ruled e) c.state ≡ some s → step_of c ≡ acting c (ruled e) s
  unfolding step_of at_event at_state
  step_acts s sees = rw (p.event, p.size, p.own, sees, p.room)

-- The state is ready for any event but a restart.
pub step_ready : (c : Call) (e : Named) → is_fit c.who e c.state ≡ is_some (read_state c.who c.state) → Passes c e → Ready c.who c.state
step_ready c e whole p = record { size = p.size; own = p.own; held = read_state_some c.who c.state (sym whole ∙ p.fit) }

-- The kept parts are legal for a restart.
pub step_kept : (c : Call) → Passes c Restart → is_some (read_kept c.state) ≡ true
unfolding is_fit
step_kept c p = p.fit

-- Restart sees the kept parts alone.
pub restart_sees : (c : Call) → Passes c Restart → seen_by c.who restart_event c.state ≡ some (restart (kept_in c.state)).state
unfolding seen_by kept_alone
restart_sees c p = rw (read_kept_some c.state (step_kept c p))
