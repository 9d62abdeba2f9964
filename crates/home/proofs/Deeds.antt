-- A home is a household written out: after each deed it is as it was, or a hub has met an event; and for each event there
-- is a deed. Assumes nothing.
use Prim.Native.Nat.{ℕ, ◌≤◌}
use native.Mathlib.Omega.{arith}
use mathlib.Core.Path.{◌≡◌, refl, sym, ◌∙◌, ap, subst}
use mathlib.Core.Logic.{inl, ⊎_elim}
use mathlib.Core.Bool.{Bool, true, false, cond}
use mathlib.Core.List.{List, [], ◌∷◌}
use mathlib.Core.Option.{Option, none, some}
use borrow.Author.Tests.{eqb-false}
use lib.Dec.{eqb}
use lib.ListN.{length, take, drop, replicate, length-replicate}
use lib.Seq.{take-append_seam}
use Rattle.kinds.specs.Sizes.{Group, is_group, is_hub, hub_of, text_room}
use Rattle.command.specs.Command.{Command}
use Rattle.message.specs.Message.{Message}
use Rattle.message.specs.Legal.{legal_message}
use Rattle.message.specs.Text.{text, read}
use Rattle.message.proofs.ReadLaws.{read_text}
use Rattle.state.specs.Image.{image}
use Rattle.rules.specs.Outcome.{Next, done}
use Rattle.rules.specs.Step.{Answer, start_event, propose_event, send_event, restart_event, receive_event, event_of, refusal, over, written, answer, receiving, acting, step_of}
use Rattle.rules.specs.Events.{restart}
use Rattle.rules.specs.Happens.{Occasion, to_start, to_propose, to_send, to_restart, to_receive, happens}
use Rattle.rules.proofs.Theorems.{refusal_leaves, message_is_legal}
use Rattle.paxos.specs.Put.{put}
use Rattle.paxos.specs.Paxos.{◌∈◌, here, there}
use Rattle.paxos.proofs.Member.{clash, new}
use Rattle.paxos.proofs.PutLaws.{put_cases, put_same, put_other}
use Rattle.views.specs.Hall.{Hall}
use Rattle.engine.specs.Home.{joining, adding, after, Fair}
use Rattle.engine.specs.Rules.{Household, met, Heard}
use Rattle.engine.specs.Written as writing
use Rattle.engine.specs.Written.{Becomes, stays, meets}
use Rattle.home.specs.Hub.{Deed, call_for, is_restart, text_for, command_for, proposal_of, hub_engine, HomeOfHubs, hub_rules, hub_writing}
use Rattle.home.proofs.Bytes.{Brings, brings_start, brings_propose, brings_send, brings_restart, brings_receive, Sees, refused_not, seen_image, seen_kept, step_acts, step_either}
use Rattle.home.proofs.Events as events
use Rattle.home.proofs.Events.{Stands}

-- The home is the household, written out.
abbrev pub IsWritten : HomeOfHubs → Household hub_rules → Type 0
IsWritten H W = writing.IsWritten hub_engine hub_rules hub_writing H W

-- ---- what a deed leaves

-- The home after the deed, if this is the answer.
abbrev left : HomeOfHubs → Deed → Answer → HomeOfHubs
left H d a =
    record {
      stored = put H.stored d.hub (cond (eqb a.outcome done) a.state (H.stored d.hub));
      sent = joining (take a.wrote a.output) H.sent;
      orders = cond (eqb a.outcome done) (adding (command_for (event_of d.event) d.input) H.orders) H.orders;
    }

-- After a refusal nothing has happened.
refused_written :
    (G : Group) (H : HomeOfHubs) (W : Household hub_rules) (d : Deed) → IsWritten H W → (k : ℕ) → eqb k done ≡ false
    → IsWritten (left H d (refusal (call_for G d) k)) W
unfolding refusal joining
refused_written G H W d is k ne =
    record {
      states =
          put_cases (λ g y. y ≡ image (W.states g)) H.stored d.hub _ (rw ne (is.states d.hub)) (λ g other. is.states g);
      texts = is.texts;
      messages = is.messages;
      orders = rw ne is.orders;
    }

-- What was written is read as the message that it is the text of.
module _ (H : HomeOfHubs) (W : Household hub_rules) (is : IsWritten H W) where
  -- A text is not empty, so it joins the others.
  joined : (w : Message) → joining (text w) H.sent ≡ text w ∷ H.sent
  unfolding joining text
  joined w = refl

  texts_more :
      (x : Option Message) → ((w : Message) → x ≡ some w → legal_message w ≡ true)
      → (t : List ℕ) → t ∈ joining (written x) H.sent → (m : Message) × (read t ≡ some m) × (m ∈ adding x W.sent)
  unfolding written joining adding
  texts_more none legal t i = is.texts t i
  texts_more (some w) legal t i =
      new (subst (λ (l : List (List ℕ)). t ∈ l) (joined w) i)
      (λ e. (w, ap read e ∙ read_text w (legal w refl), here))
      (λ old. let (m, r, among) = is.texts t old in (m, r, there among))

  messages_more :
      (x : Option Message) → ((w : Message) → x ≡ some w → legal_message w ≡ true)
      → (m : Message) → m ∈ adding x W.sent → (t : List ℕ) × (t ∈ joining (written x) H.sent) × (read t ≡ some m)
  unfolding written joining adding
  messages_more none legal m i = is.messages m i
  messages_more (some w) legal m i =
      new i
      (λ e. (text w, subst (λ (l : List (List ℕ)). text w ∈ l) (sym (joined w)) here, read_text w (legal w refl) ∙ ap some (sym e)))
      (λ old. let (t, among, r) = is.messages m old in (t, subst (λ (l : List (List ℕ)). t ∈ l) (sym (joined w)) (there among), r))

module _ (G : Group) (group : is_group G ≡ true) (H : HomeOfHubs) (W : Household hub_rules) (J : Hall Command) (d : Deed) (is : IsWritten H W)
    (ok : Stands G W J) (own : is_hub G.size d.hub ≡ true) (o : Occasion) (b : Brings (call_for G d) o) (heard : Heard hub_rules W.sent o) where
  abbrev n : Next
  n = happens (hub_of G d.hub) (W.states d.hub) o

  -- What is stored is the next state's image.
  stored_image :
      cond (eqb n.outcome done) (answer (call_for G d) n).state (H.stored d.hub) ≡ image n.state
  unfolding call_for answer
  stored_image =
      by (eqb n.outcome done) refl
    where
      by : (x : Bool) → eqb n.outcome done ≡ x → cond x (cond x (image n.state) d.state) (H.stored d.hub) ≡ image n.state
      by true e = refl
      by false e =
          is.states d.hub
          ∙ ap image
          (sym (refusal_leaves (hub_of G d.hub) (W.states d.hub) o (events.meets G group W J ok d.hub own o heard) (eqb-false n.outcome done e)))

  legal : (w : Message) → n.message ≡ some w → legal_message w ≡ true
  legal w e = (message_is_legal (hub_of G d.hub) (W.states d.hub) o (events.meets G group W J ok d.hub own o heard) w e).legal

  -- A message that is written is what the output begins with.
  took : (t out : List ℕ) → take (length t) (over t out) ≡ t
  unfolding over
  took t out = take-append_seam t (drop (length t) out)

  -- After an event the household has met it.
  happened_written : IsWritten (left H d (answer (call_for G d) n)) (met hub_rules G W d.hub o)
  unfolding answer call_for met
  happened_written =
      let sent = ap (λ (l : List ℕ). joining l H.sent) (took (written n.message) d.output) in
      record {
        states =
            put_cases (λ g y. y ≡ image (put W.states d.hub n.state g)) H.stored d.hub _
            (stored_image ∙ ap image (sym (put_same W.states d.hub n.state)))
            (λ g ne. is.states g ∙ ap image (sym (put_other W.states d.hub n.state g ne)));
        texts = λ t i. texts_more H W is n.message legal t (subst (λ (l : List (List ℕ)). t ∈ l) sent i);
        messages =
            λ m i.
            let (t, among, r) = messages_more H W is n.message legal m i in
            (t, subst (λ (l : List (List ℕ)). t ∈ l) (sym sent) among, r);
        orders =
            ap (λ (c : Option Command). cond (eqb n.outcome done) (adding c H.orders) H.orders) b.asks
            ∙ ap (λ (l : List Command). cond (eqb n.outcome done) (adding (proposal_of o) l) l) is.orders;
      }

-- ---- a deed that may happen

module _ (G : Group) (group : is_group G ≡ true) (H : HomeOfHubs) (W : Household hub_rules) (J : Hall Command) (d : Deed) (is : IsWritten H W)
    (ok : Stands G W J) (fair : Fair hub_engine H d) where
  -- What is received is a message that was written.
  heard : (o : Occasion) → Brings (call_for G d) o → Heard hub_rules W.sent o
  unfolding call_for
  heard o b m q =
      let (t, r) = b.reads m q in
      let (w, back, among) = is.texts d.input (fair.honest d.input t) in
      let same : w ≡ m = cc in
      rw (sym same) among

  -- What the call sees is what the hub stored.
  pub sight : Sees (call_for G d) (W.states d.hub)
  unfolding call_for
  sight =
      ⊎_elim
      (λ same. seen_image (call_for G d) (W.states d.hub) (ok.among.legal d.hub) (same ∙ is.states d.hub))
      (λ (lost, kept).
      seen_kept (call_for G d) (W.states d.hub) (ok.among.legal d.hub) lost
      (subst (λ (l : List ℕ). hub_engine.SameKept d.state l) (is.states d.hub) kept))
      fair.stored

  -- After it the household is as it was, or has met an event.
  pub becomes : Becomes hub_engine hub_rules hub_writing G W (after hub_engine G H d)
  unfolding after call_for
  becomes =
      step_either (call_for G d) (W.states d.hub) sight (λ a. Becomes hub_engine hub_rules hub_writing G W (left H d a))
      (λ k r. stays (refused_written G H W d is k (refused_not r)))
      (λ size own o b. meets d.hub o own (heard o b) (happened_written G group H W J d is ok own o b (heard o b)))

-- ---- a deed for each event

-- Hub h is called for the event with this number, with its stored bytes and room for a message.
abbrev called : HomeOfHubs → ℕ → ℕ → ℕ → ℕ → List ℕ → Deed
called H h event a b input = record { hub = h; event = event; a = a; b = b; state = H.stored h; input = input; output = replicate text_room 0 }

-- The room is enough.
room : text_room ≤ length (replicate {A = ℕ} text_room 0)
room = omega (arith, length-replicate {A = ℕ} text_room 0)

module _ (G : Group) (group : is_group G ≡ true) (H : HomeOfHubs) (W : Household hub_rules) (J : Hall Command) (is : IsWritten H W) (ok : Stands G W J)
    (h : ℕ) (own : is_hub G.size h ≡ true) where
  -- A deed with the stored bytes sees the state.
  sees_stored : (d : Deed) → d.state ≡ H.stored d.hub → Sees (call_for G d) (W.states d.hub)
  unfolding call_for
  sees_stored d same = seen_image (call_for G d) (W.states d.hub) (ok.among.legal d.hub) (same ∙ is.states d.hub)

  -- It comes to what happens, so the household has met the event.
  enacts :
      (o : Occasion) (d : Deed) → d.hub ≡ h → Brings (call_for G d) o → Heard hub_rules W.sent o
      → step_of (call_for G d) ≡ answer (call_for G d) (happens (hub_of G d.hub) (W.states d.hub) o)
      → IsWritten (after hub_engine G H d) (met hub_rules G W h o)
  unfolding after
  enacts o d same b i e =
      rw (sym same)
      (subst (λ (a : Answer). IsWritten (left H d a) (met hub_rules G W d.hub o)) (sym e)
      (happened_written G group H W J d is ok (rw same own) o b i))

  -- The deed of an event.
  pub enacted : (o : Occasion) → Heard hub_rules W.sent o → (d : Deed) × Fair hub_engine H d × IsWritten (after hub_engine G H d) (met hub_rules G W h o)
  unfolding call_for event_of text_for is_restart acting happens restart receiving
  enacted to_start i =
      let d = called H h 1 0 0 [] in (
        d,
        record { honest = λ t q. clash (cc); stored = inl refl },
        enacts to_start d refl (brings_start (call_for G d) refl) i (step_acts (call_for G d) (W.states h) (sees_stored d refl) start_event refl group own room),
      )
  enacted (to_propose bytes) i =
      let d = called H h 2 0 0 bytes in (
        d,
        record { honest = λ t q. clash (cc); stored = inl refl },
        enacts (to_propose bytes) d refl (brings_propose (call_for G d) refl) i
            (step_acts (call_for G d) (W.states h) (sees_stored d refl) propose_event refl group own room),
      )
  enacted (to_send peer prev) i =
      let d = called H h 3 peer prev [] in (
        d,
        record { honest = λ t q. clash (cc); stored = inl refl },
        enacts (to_send peer prev) d refl (brings_send (call_for G d) refl) i
            (step_acts (call_for G d) (W.states h) (sees_stored d refl) send_event refl group own room),
      )
  enacted to_restart i =
      let d = called H h 4 0 0 [] in (
        d,
        record { honest = λ t q. clash (cc); stored = inl refl },
        enacts to_restart d refl (brings_restart (call_for G d) refl) i
            (step_acts (call_for G d) (W.states h) (sees_stored d refl) restart_event refl group own room),
      )
  enacted (to_receive m) i =
      let (t, among, r) = is.messages m (i m refl) in
      let d = called H h 5 0 0 t in
      let heard : text_for (some receive_event) t ≡ some t = rw (r, text_for) refl in (
        d,
        record { honest = λ u q. (let same : t ≡ u = cc in rw (sym same) among); stored = inl refl },
        enacts (to_receive m) d refl (brings_receive (call_for G d) m refl r) i
            (step_acts (call_for G d) (W.states h) (sees_stored d refl) receive_event refl group own room ∙ ap (receiving (call_for G d) (W.states h)) r),
      )
