-- Laws of the rules: what holds where each is called, and what each call makes of the rule for its type of message. Assumes nothing.
use Prim.Native.Nat.{ℕ}
use native.Mathlib.Omega.{arith}
use mathlib.Core.Path.{◌≡◌, refl, sym, subst}
use mathlib.Core.Bool.{Bool, true, false}
use mathlib.Core.List.{List}
use mathlib.Core.Logic.{◌⊎◌, inl, inr}
use Rattle.std.specs.Prelude.{Option, Some, None}
use Rattle.std.specs.Bool.{then_some}
use Rattle.kinds.specs.declared.Place.{Place}
use Rattle.kinds.specs.declared.Term.{Term}
use Rattle.kinds.specs.Sizes.{Who}
use Rattle.command.specs.Entry.{Entry}
use Rattle.message.specs.Message.{vote_request}
use Rattle.message.specs.Legal.{legal_body}
use Rattle.message.specs.Walk.{entries_from, Lie}
use Rattle.message.specs.Answer.{many_in}
use Rattle.message.specs.declared.Body.{Body}
use Rattle.message.specs.declared.Body.TheVariants.{VoteRequest, VoteYes, VoteNo, Append, AppendYes, AppendNo}
use Rattle.message.specs.declared.Fields.{Fields}
use Rattle.state.specs.Image.{state_in}
use Rattle.rules.specs.Events.{says}
use Rattle.rules.specs.Receive.{vote, heard_yes, heard_append, heard_end, rule, contradicts}
use Rattle.rules.proofs.Fair.{IsPeer}
use Rattle.promise.specs.Promise.{Ready, HearsEnd, HearsAppend, Ruled}
use Rattle.promise.proofs.PromiseLaws.{ready_image}
use Rattle.gather.specs.Yes.{Hears}
use Rattle.say.specs.Said.{Said, Answering}
use Rattle.acknowledge.specs.Answered.{Answered}
use Rattle.refuse.specs.Received.{body_in}
use Rattle.obey.specs.declared.heard.Heard.{Heard}
use Rattle.obey.specs.Obeyed.{Obeyed, Obeys}
use Rattle.obey.proofs.SenderLaws.{message_legal, peer, may_answer}
use Rattle.obey.proofs.ObeyedLaws.{said_obeyed, ruled_obeyed, answered_obeyed, idle_obeyed}

module _ (w : Who) (l : List ℕ) (m : Heard) (out : List ℕ) (o : Obeys w l m out) where
  abbrev f : Fields
  f = m.fields

  abbrev s : List ℕ
  s = m.lines.now

  pub ready : Ready w l
  ready = o.receives.ready

  -- It comes from another hub of the group.
  from_peer : IsPeer w f.from.0
  from_peer = peer w l m out o.receives o.addressed

  -- Its body is legal at the hub's term, and does not contradict; as many entry lines follow as it says.
  body_legal : {b : Body} → f.body ≡ b → legal_body (state_in l).kept.term (body_in b s) ≡ true
  body_legal e =
      subst (λ (b : Body). legal_body (state_in l).kept.term (body_in b s) ≡ true) e
      (subst (λ (t : ℕ). legal_body t (body_in f.body s) ≡ true) o.own_term (message_legal m).body)

  body_agrees : {b : Body} → f.body ≡ b → contradicts (state_in l) (body_in b s) ≡ false
  body_agrees e = subst (λ (b : Body). contradicts (state_in l) (body_in b s) ≡ false) e o.agrees

  pub body_lies : {b : Body} → f.body ≡ b → Lie (many_in b) s
  body_lies e = subst (λ (b : Body). Lie (many_in b) s) e m.lie

  -- The rule for this body does what it has to.
  abbrev Obeys_as : Body → Option ℕ → List ℕ → List ℕ → Type 0
  Obeys_as b d l' out' = Obeyed (rule w (state_in l) f.from.0 (body_in b s)) l out d l' out'

  -- What holds of a type's body holds of the fields'.
  by_type : {b : Body} {d : Option ℕ} {l' out' : List ℕ} → f.body ≡ b → Obeys_as b d l' out' → Obeys_as f.body d l' out'
  by_type {b} {d} {l'} {out'} e x = subst (λ (y : Body). Obeys_as y d l' out') (sym e) x

  -- The sender may be answered.
  pub may_say : Answering (state_in l) f.from.0 out
  may_say =
      may_answer w l m out o.receives o.addressed (omega (arith, (message_legal m).term, o.own_term))

  -- ---- vote-request

  module _ {last : Place} {ballot : Term} (e : f.body ≡ VoteRequest last ballot) where
    -- It is legal at the hub's term.
    pub may_vote : legal_body (state_in l).kept.term (vote_request last.0 ballot.0) ≡ true
    may_vote = body_legal e

    -- The vote is written; the state stays.
    pub request_obeyed :
        {r : ℕ} {out' : List ℕ} → Said (says w (state_in l) f.from.0 (vote (state_in l).kept last.0 ballot.0)) out r out'
        → Obeys_as f.body (Some r) l out'
    unfolding rule
    request_obeyed said = by_type e (said_obeyed (state_in l) _ refl (sym (ready_image w l ready)) said)

  -- ---- vote-yes

  module _ {last : Place} {ballot : Term} {count : ℕ} (e : f.body ≡ VoteYes last ballot count) where
    -- It may be heard.
    pub may_hear_yes : Hears w l f.from.0 ballot.0 (entries_from count s)
    may_hear_yes =
        record {
          last = last.0;
          yes = record {
            ready = ready;
            first = from_peer.first;
            within = from_peer.last;
            other = from_peer.other;
            legal = body_legal e;
            agrees = body_agrees e;
          };
        }

    -- It was heard.
    pub yes_obeyed :
        {es : List Entry} → es ≡ entries_from count s → {b : Bool} {d : Option ℕ} {l' : List ℕ}
        → Ruled (heard_yes w (state_in l) f.from.0 ballot.0 es) l b l'
        → d ≡ then_some b 0 → Obeys_as f.body d l' out
    unfolding rule
    yes_obeyed are ruled d= = by_type e (ruled_obeyed _ out (rw are at ruled) d=)

  -- ---- append

  module _ {prev : Place} {prevterm : Term} {chosen : Place} {count : ℕ} (e : f.body ≡ Append prev prevterm chosen count) where
    -- It may be taken.
    pub may_hear_append : HearsAppend w l prev.0 prevterm.0 chosen.0 (entries_from count s)
    may_hear_append = record { ready = ready; legal = body_legal e; agrees = body_agrees e }

    -- It was taken or not, and answered.
    pub append_obeyed :
        {es : List Entry} → es ≡ entries_from count s → {r : ℕ} {l' out' : List ℕ}
        → Answered (heard_append w (state_in l) f.from.0 prev.0 prevterm.0 chosen.0 es) l out r l' out'
        → Obeys_as f.body (Some r) l' out'
    unfolding rule
    append_obeyed are answered = by_type e (answered_obeyed _ (rw are at answered))

  -- ---- append-yes

  module _ {end : Place} (e : f.body ≡ AppendYes end) where
    -- It may be heard.
    pub may_hear_end : HearsEnd w l f.from.0 end.0
    may_hear_end = record { ready = ready; first = from_peer.first; last = from_peer.last; other = from_peer.other; agrees = body_agrees e }

    -- It was heard.
    pub end_obeyed :
        {b : Bool} {d : Option ℕ} {l' : List ℕ} → Ruled (heard_end w (state_in l) f.from.0 end.0) l b l' → d ≡ then_some b 0
        → Obeys_as f.body d l' out
    unfolding rule
    end_obeyed ruled d= = by_type e (ruled_obeyed _ out ruled d=)

  -- ---- vote-no and append-no

  -- Neither does anything.
  pub nothing_obeyed : (f.body ≡ VoteNo) ⊎ ((n : Place) × (f.body ≡ AppendNo n)) → Obeys_as f.body None l out
  unfolding rule
  nothing_obeyed (inl e) = by_type e (idle_obeyed l out refl)
  nothing_obeyed (inr e) = by_type e.1 (idle_obeyed l out refl)
