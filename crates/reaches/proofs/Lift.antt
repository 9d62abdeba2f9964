-- From values to bytes: a run of values, each of whose turns takes effect, is one of a home's bytes and texts. Assumes nothing.
use Prim.Native.Nat.{ℕ, zero, suc, ◌≤◌, ◌<◌}
use native.Mathlib.Omega.{arith}
use mathlib.Core.Path.{◌≡◌, refl, sym, ◌∙◌, ap, subst}
use mathlib.Core.Logic.{inl}
use mathlib.Core.Bool.{true}
use mathlib.Core.List.{List, [], ◌∷◌}
use mathlib.Core.Option.{Option, none, some}
use lib.ListN.{length, take, drop}
use lib.Seq.{take-append_seam}
use Rattle.kinds.specs.Sizes.{Group, Who, is_group, is_hub, hub_of, text_room}
use Rattle.kinds.proofs.BoolLaws.{and_both, none_some}
use Rattle.message.specs.Message.{Message}
use Rattle.message.specs.Legal.{legal_message}
use Rattle.message.specs.Text.{text, read}
use Rattle.message.proofs.ReadLaws.{read_text, read_sound}
use Rattle.state.specs.State.{State}
use Rattle.state.specs.Legal.{legal_state}
use Rattle.state.specs.Image.{image, read_state}
use Rattle.state.proofs.ImageLaws.{read_state_image}
use Rattle.rules.specs.Outcome.{Next, done, goes}
use Rattle.rules.specs.Step.{Call, Event, start_event, propose_event, send_event, receive_event, event_of, over, written, answer, seen_by, step_of}
use Rattle.rules.specs.Happens.{Occasion, to_start, to_propose, to_send, to_receive, legal_at, received, occasion_of, Meets}
use Rattle.rules.proofs.Theorems.{next_is_legal, message_is_legal}
use Rattle.rules.proofs.StepLaws.{step_is_what_happens}
use Rattle.rules.proofs.Computed.{computed}
use Rattle.paxos.specs.Paxos.{◌∈◌, here, there}
use Rattle.paxos.proofs.Member.{new, nothing}
use Rattle.paxos.proofs.PutLaws.{put_cases, put_both}
use Rattle.engine.specs.Home.{joining, after, Fair, after_all, AllFair}
use Rattle.home.specs.Hub.{Deed, call_for, text_for, hub_engine, HomeOfHubs}
use Rattle.reaches.specs.Run.{Act, starts, proposes, sends_to, hears, Turn, Scene, number_of, peer_of, input_of, deed_of, turned, deeds_of}
use Rattle.reaches.proofs.Stage.{Stage, meant, changed, Takes, Goes, ends, next}

-- Of no bytes nothing is read.
pub read_nothing : read [] ≡ none
unfolding computed
read_nothing = refl

-- What a hub writes is read back.
read_written : (x : Option Message) → ((m : Message) → x ≡ some m → legal_message m ≡ true) → read (written x) ≡ x
unfolding written
read_written none legal = read_nothing
read_written (some m) legal = read_text m (legal m refl)

-- What was sent stays sent, and what a hub writes is sent.
sent_before : (t u : List ℕ) (sent : List (List ℕ)) → u ∈ sent → u ∈ joining t sent
unfolding joining
sent_before [] u sent i = i
sent_before (b ∷ bs) u sent i = there i

sent_now : (x : Option Message) (m : Message) (sent : List (List ℕ)) → x ≡ some m → written x ∈ joining (written x) sent
unfolding written joining text
sent_now none m sent e = none_some e
sent_now (some w) m sent e = here

-- The stored bytes are those of the states of these hubs, all legal; what waits is read as the messages, and was sent.
pub record Shows (G : Group) (hubs : List ℕ) (X : Scene) (W : Stage) : Type 0 where
  pub legal : (h : ℕ) → h ∈ hubs → legal_state (hub_of G h) (W.states h) ≡ true
  pub stored : (h : ℕ) → h ∈ hubs → X.home.stored h ≡ image (W.states h)
  pub reads : (l : ℕ) → read (X.lines l) ≡ W.lines l
  pub sent : (l : ℕ) (m : Message) → W.lines l ≡ some m → X.lines l ∈ X.home.sent

-- ---- one turn

module _ {G : Group} (group : is_group G ≡ true) {hubs : List ℕ} (member : (h : ℕ) → h ∈ hubs → is_hub G.size h ≡ true)
    {X : Scene} {W : Stage} (f : Shows G hubs X W) (t : Turn) (mine : t.hub ∈ hubs) where
  abbrev w : Who
  w = hub_of G t.hub

  -- An event that is legal at its state.
  abbrev Legal : Occasion → Type 0
  Legal o = legal_at w (W.states t.hub) o ≡ true

  -- What the hub stored is read.
  seen : read_state w (X.home.stored t.hub) ≡ some (W.states t.hub)
  seen = ap (read_state w) (f.stored t.hub mine) ∙ read_state_image w (W.states t.hub) (f.legal t.hub mine)

  -- What is meant is legal: a message that waits was read.
  meant_legal : (a : Act) (o : Occasion) → meant W a ≡ some o → legal_at w (W.states t.hub) o ≡ true
  unfolding meant received legal_at
  meant_legal starts o q = subst Legal (let same : to_start ≡ o = cc in same) (f.legal t.hub mine)
  meant_legal (proposes bytes) o q = subst Legal (let same : to_propose bytes ≡ o = cc in same) (f.legal t.hub mine)
  meant_legal (sends_to peer) o q = subst Legal (let same : to_send peer 0 ≡ o = cc in same) (f.legal t.hub mine)
  meant_legal (hears line) o q = by (W.lines line) (f.reads line) q
    where
      by : (x : Option Message) → read (X.lines line) ≡ x → received x ≡ some o → Legal o
      by none e q = none_some q
      by (some m) e q =
          subst Legal (let same : to_receive m ≡ o = cc in same) (and_both (f.legal t.hub mine) (read_sound (X.lines line) m e).legal)

  module _ (output : List ℕ) (room : text_room ≤ length output) where
    abbrev d : Deed
    d = deed_of X t output

    abbrev c : Call
    c = call_for G d

    -- The event of the call: it sees the state and brings what is meant, and a text that it hears was sent.
    record Brings (a : Act) : Type 0 where
      pub event : Event
      pub numbered : event_of (number_of a) ≡ some event
      pub sees : seen_by w event (X.home.stored t.hub) ≡ some (W.states t.hub)
      pub brings : occasion_of c event ≡ meant W a
      pub honest : (u : List ℕ) → text_for (some event) (input_of X a) ≡ some u → u ∈ X.home.sent

    -- What waits on a line, if it is heard.
    waiting :
        (l : ℕ) (x : Option Message) → W.lines l ≡ x → (u : List ℕ)
        → elim x [ none ↦ none | some m ↦ some (X.lines l) ] ≡ some u → u ∈ X.home.sent
    waiting l none e u q = none_some q
    waiting l (some m) e u q = subst (λ z. z ∈ X.home.sent) (let same : X.lines l ≡ u = cc in same) (f.sent l m e)

    -- Each of the four.
    brings : (a : Act) → t.act ≡ a → Brings a
    unfolding event_of number_of peer_of input_of occasion_of call_for deed_of meant seen_by text_for
    brings starts e = record { event = start_event; numbered = refl; sees = seen; brings = refl; honest = λ u q. none_some q }
    brings (proposes bytes) e = record { event = propose_event; numbered = refl; sees = seen; brings = rw e refl; honest = λ u q. none_some q }
    brings (sends_to peer) e = record { event = send_event; numbered = refl; sees = seen; brings = rw e refl; honest = λ u q. none_some q }
    brings (hears line) e =
        record {
          event = receive_event;
          numbered = refl;
          sees = seen;
          brings = rw (e, f.reads line) refl;
          honest =
              λ u q.
              waiting line (W.lines line) refl u
              (ap (λ (x : Option Message). elim x [ none ↦ none | some m ↦ some (X.lines line) ]) (sym (f.reads line)) ∙ q);
        }

    -- The deed may happen.
    fair : Fair hub_engine X.home d
    unfolding deed_of
    fair = let x = brings t.act refl in record { honest = λ u q. x.honest u (rw x.numbered at q); stored = inl refl }

    module _ {s : State} {m : Option Message} (y : Takes G W t s m) where
      meets : Meets w (W.states t.hub) y.occasion
      meets = record { size = group; own = member t.hub mine; legal = meant_legal t.act y.occasion y.means }

      -- The step on bytes comes to what happens to values.
      stepped : step_of c ≡ answer c (goes s m)
      unfolding call_for deed_of
      stepped =
          let x = brings t.act refl in
          step_is_what_happens c x.event (W.states t.hub) y.occasion x.numbered group (member t.hub mine) x.sees room
          (x.brings ∙ y.means)
          ∙ ap (answer c) y.comes

      -- So it has outcome 0.
      effect_left : (step_of c).outcome ≡ done
      unfolding answer
      effect_left = rw stepped refl

      -- The message is legal, and its text is what is written.
      written_legal : (n : Message) → m ≡ some n → legal_message n ≡ true
      written_legal n e =
          (message_is_legal w (W.states t.hub) y.occasion meets n (ap (λ (x : Next). x.message) y.comes ∙ e)).legal

      text_left : (hub_engine.step G d).text ≡ written m
      unfolding answer over
      text_left = rw stepped (take-append_seam (written m) (drop (length (written m)) c.output))

      -- The home after the turn shows the stage after it.
      shows_left : Shows G hubs (turned G X t output) (changed W t.hub t.onto s m)
      unfolding turned changed after answer deed_of call_for
      shows_left =
          record {
            legal =
                put_cases (λ h z. h ∈ hubs → legal_state (hub_of G h) z ≡ true) W.states t.hub s
                (λ i. rw (ap (λ (x : Next). x.state) y.comes) at (next_is_legal w (W.states t.hub) y.occasion meets))
                (λ h ne i. f.legal h i);
            stored =
                put_both (λ h u z. h ∈ hubs → u ≡ image z) X.home.stored W.states t.hub _ s (λ i. rw stepped refl)
                (λ h ne i. f.stored h i);
            reads =
                put_both (λ l u z. read u ≡ z) X.lines W.lines t.onto _ m (ap read text_left ∙ read_written m written_legal)
                (λ l ne. f.reads l);
            sent =
                put_both (λ l u z. (n : Message) → z ≡ some n → u ∈ (turned G X t output).home.sent) X.lines W.lines t.onto _ m
                (λ n e. rw text_left (sent_now m n X.home.sent e))
                (λ l ne n e. sent_before (hub_engine.step G d).text (X.lines l) X.home.sent (f.sent l n e));
          }

-- ---- a run

-- Deeds of a home that may happen, each with outcome 0; `Before` holds before each of them, `After` after the last.
pub record Done (G : Group) (Before After : HomeOfHubs → Type 0) (H : HomeOfHubs) (ds : List Deed) : Type 0 where
  pub fair : AllFair hub_engine G H ds
  pub effect : (d : Deed) → d ∈ ds → (step_of (call_for G d)).outcome ≡ done
  pub before : (n : ℕ) → n < length ds → Before (after_all hub_engine G H (take n ds))
  pub at_last : After (after_all hub_engine G H ds)

module _ {G : Group} (group : is_group G ≡ true) {hubs : List ℕ} (member : (h : ℕ) → h ∈ hubs → is_hub G.size h ≡ true)
    (lent : ℕ → List ℕ) (room : (n : ℕ) → text_room ≤ length (lent n)) {Before After : Stage → Type 0} {Before' After' : HomeOfHubs → Type 0}
    (before : (X : Scene) (W : Stage) → Shows G hubs X W → Before W → Before' X.home)
    (at_last : (X : Scene) (W : Stage) → Shows G hubs X W → After W → After' X.home) where
  pub lifts :
      (ts : List Turn) → ((t : Turn) → t ∈ ts → t.hub ∈ hubs) → (X : Scene) (W : Stage) → Shows G hubs X W → Goes G Before After W ts
      → Done G Before' After' X.home (deeds_of G lent X ts)
  unfolding turned
  lifts [] mine X W f (ends e) =
      record { fair = tt; effect = λ d i. nothing i; before = λ n lt. absurd (omega arith); at_last = at_last X W f e }
  lifts (t ∷ ts) mine X W f (next b y g) =
      let output = lent (length ts) in
      let h = mine t here in
      let rest = lifts ts (λ u i. mine u (there i)) (turned G X t output) _ (shows_left group member f t h output (room (length ts)) y) g in
      record {
        fair = (fair group member f t h output (room (length ts)), rest.fair);
        effect = λ d i. new i (λ e. rw e (effect_left group member f t h output (room (length ts)) y)) (rest.effect d);
        before = by_number b f rest;
        at_last = rest.at_last;
      }
    where
      by_number :
          Before W → Shows G hubs X W
          → Done G Before' After' (after hub_engine G X.home (deed_of X t (lent (length ts)))) (deeds_of G lent (turned G X t (lent (length ts))) ts)
          → (n : ℕ) → n < length (deeds_of G lent X (t ∷ ts)) → Before' (after_all hub_engine G X.home (take n (deeds_of G lent X (t ∷ ts))))
      by_number b f rest zero lt = before X W f b
      by_number b f rest (suc n) lt = rest.before n (omega arith)
