-- Laws of the event start: each of its outcomes by what the code tests, and the request that is written. Assumes nothing.
use Prim.Native.Nat.{ℕ, ◌≤◌}
use native.Mathlib.Omega.{arith}
use mathlib.Core.Path.{◌≡◌, refl, sym, ◌∙◌}
use mathlib.Core.List.{List}
use mathlib.Core.Option.{some}
use borrow.Author.Tests.{eq-eqb}
use lib.ListN.{length}
use Rattle.kinds.specs.declared.Hub.{Hub}
use Rattle.kinds.specs.Of.{hub}
use Rattle.kinds.specs.Sizes.{Who, term_most, text_room}
use Rattle.kinds.specs.Role.{as_leader}
use Rattle.kinds.specs.Caller.{who_in}
use Rattle.kinds.specs.declared.Caller.{Caller}
use Rattle.kinds.specs.declared.Refusal.TheVariants.{WrongRole, NoTermLeft}
use Rattle.std.specs.Prelude.{Ok, Err}
use Rattle.message.specs.Message.{entries_of, vote_request}
use Rattle.message.specs.declared.Body.TheVariants.{VoteRequest}
use Rattle.state.specs.declared.Head.{Head}
use Rattle.state.specs.Image.{image, state_in}
use Rattle.rules.specs.Outcome.{goes}
use Rattle.rules.specs.Events.{says, started, asks, start}
use Rattle.rules.proofs.Fair.{Sound}
use Rattle.rules.proofs.EventsLaws.{start_fair}
use Rattle.promise.specs.Promise.{Ready, Starts, Gives}
use Rattle.promise.specs.Append.{Tested}
use Rattle.promise.proofs.PromiseLaws.{ready_legal, ready_next, ready_who}
use Rattle.promise.proofs.LostLaws.{start_goes}
use Rattle.promise.proofs.AppendLaws.{tested_length, tested_ballot, tested_term}
use Rattle.say.specs.Said.{Said}
use Rattle.say.specs.Spoken.{Speaks}
use Rattle.start.specs.Asking.{Asking}
use Rattle.say.proofs.SpokenLaws.{tested_kept, tested_within}
use Rattle.say.proofs.GivesLaws.{refused_gives, said_gives, tested_leader, tested_other}

-- ---- a request to all, with the log's length and the ballot

module _ (w : Who) (h : Head) (l : List ℕ) (t : Tested w h l) (out : List ℕ) (a : Asking w l out) {to : Hub} (all : to ≡ hub 0) where
  asked : says w (state_in l) to.0 (vote_request h.length.0 h.ballot.0) ≡ asks w (state_in l)
  unfolding asks
  asked = rw (all, tested_length w h l t, tested_ballot w h l t)

  -- It may be written.
  pub may_ask : Speaks w l to.0 (VoteRequest h.length h.ballot) h.length.0 out
  unfolding entries_of
  may_ask =
      record {
        place = tested_within w h l t;
        counted = refl;
        legal = rw asked a.legal;
        room = a.room;
      }

  -- It is what the hub asks.
  pub said_asks :
      {r : ℕ} {out' : List ℕ} → Said (says w (state_in l) to.0 (vote_request h.length.0 h.ballot.0)) out r out'
      → Said (asks w (state_in l)) out r out'
  said_asks said = rw asked at said

-- ---- outcomes

module _ (w : Who) (h : Head) (l : List ℕ) (t : Tested w h l) where
  -- A leader.
  pub start_leader : {out : List ℕ} → h.role ≡ as_leader → Gives (start w (state_in l)) l out (Err WrongRole) l out
  unfolding start
  start_leader role = refused_gives (state_in l) l WrongRole refl (rw (tested_leader w h l t role))

  module _ (role : h.role ≡ as_leader → ⊥) where
    -- The last term.
    pub start_last : {out : List ℕ} → h.term.0 ≡ term_most → Gives (start w (state_in l)) l out (Err NoTermLeft) l out
    unfolding start
    start_last last =
        let s = state_in l in
        refused_gives s l NoTermLeft refl (rw (tested_other w h l t role, eq-eqb s.kept.term term_most (sym (tested_term w h l t) ∙ last)))

    -- A term that is not the last.
    pub may_start : (h.term.0 ≡ term_most → ⊥) → Starts w h l
    may_start low =
        record { ready = t.ready; head = t.head; role = role; low = omega (arith, low, tested_term w h l t, (tested_kept w h l t).term) }

-- ---- a start that takes effect

module _ (w : Who) (h : Head) (l : List ℕ) (k : Starts w h l) where
  start_is : start w (state_in l) ≡ goes (started w (state_in l)) (some (asks w (started w (state_in l))))
  start_is =
      let t : Tested w h l = record { ready = k.ready; head = k.head } in
      start_goes w (state_in l) (tested_other w h l t k.role) (λ z. omega (arith, k.low, tested_term w h l t))

  start_sound : Sound w (state_in l) (started w (state_in l)) (some (asks w (started w (state_in l))))
  start_sound = (rw start_is at (start_fair w (ready_who w l k.ready) (state_in l) (ready_legal w l k.ready))).sound

  module _ {l' : List ℕ} (left : l' ≡ image (started w (state_in l))) where
    risen : Ready w l' × (state_in l' ≡ started w (state_in l))
    risen = ready_next w l k.ready (started w (state_in l)) start_sound.legal left

    -- The bytes are ready again.
    pub start_ready : Ready w l'
    start_ready = risen.0

    -- The request may be written, by who is called at these bytes.
    pub start_asking : {g : Caller} {now : List ℕ} → who_in g ≡ w → now ≡ l' → {out : List ℕ} → text_room ≤ length out → Asking (who_in g) now out
    start_asking same here room =
        rw (same, here)
        (record { legal = rw risen.1 (start_sound.writes (asks w (started w (state_in l))) refl).legal; room = room })

    -- It is written.
    pub start_done :
        {g : Caller} {now : List ℕ} → who_in g ≡ w → now ≡ l' → {n : ℕ} {out out' : List ℕ} → Said (asks (who_in g) (state_in now)) out n out'
        → Gives (start w (state_in l)) l out (Ok n) l' out'
    start_done same here said =
        let request = asks w (started w (state_in l)) in
        said_gives (started w (state_in l)) request start_is left (start_sound.writes request refl).legal (rw (same, here, risen.1) at said)
