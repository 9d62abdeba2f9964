-- Laws of the event send: each of its outcomes by what the code tests, and the append that is written. Assumes nothing.
use Prim.Native.Nat.{ℕ, ◌-◌, ◌≤◌}
use native.Mathlib.Omega.{arith}
use mathlib.Core.Path.{◌≡◌, refl, sym, ◌∙◌, ap}
use mathlib.Core.Bool.{Bool, true, false, not, ◌||◌}
use mathlib.Core.List.{List}
use mathlib.Core.Option.{some}
use borrow.Author.Tests.{ltb-false}
use lib.Dec.{eqb, ltb}
use lib.ListN.{length, drop, length-drop}
use Rattle.kinds.specs.declared.Term.{Term}
use Rattle.kinds.specs.Of.{place, term}
use Rattle.kinds.specs.Sizes.{Who, is_hub, text_room}
use Rattle.kinds.specs.Role.{as_leader}
use Rattle.kinds.specs.declared.Refusal.TheVariants.{WrongRole, OutOfRange}
use Rattle.std.specs.Prelude.{Ok, Err}
use Rattle.message.specs.Message.{entries_of, append}
use Rattle.message.specs.Legal.{legal_message}
use Rattle.message.specs.declared.Body.TheVariants.{Append}
use Rattle.state.specs.declared.Head.{Head}
use Rattle.state.specs.Image.{state_in}
use Rattle.rules.specs.Outcome.{goes}
use Rattle.rules.specs.Events.{term_at, says, sends, send}
use Rattle.kinds.proofs.BoolLaws.{or_second}
use Rattle.rules.proofs.Fair.{Fair}
use Rattle.rules.proofs.EventsLaws.{send_fair}
use Rattle.promise.specs.Promise.{Gives}
use Rattle.promise.specs.Append.{Tested}
use Rattle.promise.proofs.PromiseLaws.{ready_image, ready_legal, ready_chosen, ready_who}
use Rattle.promise.proofs.AppendLaws.{tested_length}
use Rattle.say.specs.Said.{Said}
use Rattle.say.specs.Spoken.{Speaks}
use Rattle.send.specs.Sending.{Sending}
use Rattle.say.proofs.SpokenLaws.{tested_kept}
use Rattle.say.proofs.GivesLaws.{refused_gives, said_gives, tested_leader, tested_other}

-- ---- an append with the term at prev, the chosen count and the entries after prev

module _ (w : Who) (h : Head) (l : List ℕ) (k : Tested w h l) (peer prev : ℕ) (out : List ℕ) (a : Sending w l peer prev out) {t : Term}
    (known : t ≡ term (term_at (state_in l).kept.log prev)) where
  sent : says w (state_in l) peer (append prev t.0 h.chosen.0 (drop prev (state_in l).kept.log)) ≡ sends w (state_in l) peer prev
  unfolding sends
  sent = rw (known, ap (λ (x : Head). x.chosen.0) k.head ∙ ready_chosen w l k.ready)

  -- It may be written.
  pub may_send : {count : ℕ} → count ≡ h.length.0 - prev → Speaks w l peer (Append (place prev) t h.chosen count) prev out
  unfolding entries_of
  may_send n =
      record {
        place = omega (arith, a.place, (tested_kept w h l k).within);
        counted = omega (arith, n, tested_length w h l k, length-drop prev (state_in l).kept.log);
        legal = rw sent a.legal;
        room = a.room;
      }

  -- It is what the hub sends.
  pub said_sends :
      {r : ℕ} {out' : List ℕ} → Said (says w (state_in l) peer (append prev t.0 h.chosen.0 (drop prev (state_in l).kept.log))) out r out'
      → Said (sends w (state_in l) peer prev) out r out'
  said_sends said = rw sent at said

-- ---- outcomes

module _ (w : Who) (h : Head) (l : List ℕ) (t : Tested w h l) (peer prev : ℕ) where
  -- Another role.
  pub send_other : {out : List ℕ} → (h.role ≡ as_leader → ⊥) → Gives (send w (state_in l) peer prev) l out (Err WrongRole) l out
  unfolding send
  send_other role = refused_gives (state_in l) l WrongRole refl (rw (tested_other w h l t role))

  -- No such peer, or no such place in a log of this length.
  abbrev bad : ℕ → Bool
  bad n = not (is_hub w.size peer) || (eqb peer w.own || ltb n prev)

  module _ (role : h.role ≡ as_leader) {refused : Bool} (is : refused ≡ bad h.length.0) where
    -- So it is refused.
    pub send_bad : {out : List ℕ} → refused ≡ true → Gives (send w (state_in l) peer prev) l out (Err OutOfRange) l out
    unfolding send
    send_bad b = refused_gives (state_in l) l OutOfRange refl (rw (tested_leader w h l t role, rw (tested_length w h l t) at (sym is ∙ b)))

    -- A peer, and a place of the log.
    module _ (good : refused ≡ false) where
      send_is : send w (state_in l) peer prev ≡ goes (state_in l) (some (sends w (state_in l) peer prev))
      unfolding send
      send_is = rw (tested_leader w h l t role, rw (tested_length w h l t) at (sym is ∙ good))

      sends_legal : legal_message (sends w (state_in l) peer prev) ≡ true
      sends_legal =
          let s = state_in l in
          let fair : Fair w s (goes s (some (sends w s peer prev))) = rw send_is at
          (send_fair w (ready_who w l t.ready) s.kept s.lost peer prev (ready_legal w l t.ready)) in
          (fair.sound.writes (sends w s peer prev) refl).legal

      -- The append may be written.
      pub send_sending : {out : List ℕ} → text_room ≤ length out → Sending w l peer prev out
      send_sending room =
          let beyond = ltb h.length.0 prev in
          let in_log = or_second (eqb peer w.own) beyond (or_second (not (is_hub w.size peer)) (eqb peer w.own || beyond) (sym is ∙ good)) in
          record { place = omega (arith, ltb-false h.length.0 prev in_log, tested_length w h l t); legal = sends_legal; room = room }

      -- It is written.
      pub send_done :
          {n : ℕ} {out out' : List ℕ} → Said (sends w (state_in l) peer prev) out n out' → Gives (send w (state_in l) peer prev) l out (Ok n) l out'
      send_done said = said_gives (state_in l) (sends w (state_in l) peer prev) send_is (sym (ready_image w l t.ready)) sends_legal said
