-- Laws of the outcomes of the whole event: which one a text comes to by what the code tests, and what is told and left. Assumes nothing.
use Prim.Native.Nat.{ℕ, ◌≤◌}
use native.Mathlib.Omega.{arith}
use mathlib.Core.Path.{◌≡◌, refl}
use mathlib.Core.Bool.{true, false}
use mathlib.Core.List.{List}
use mathlib.Core.Option.{Option, none, some}
use lib.ListN.{length}
use Rattle.std.specs.Prelude.{Result, Err}
use Rattle.kinds.specs.Sizes.{Who, text_room}
use Rattle.kinds.specs.declared.Refusal.TheVariants.{NotAddressed}
use Rattle.kinds.proofs.SizesLaws.{room_small}
use Rattle.message.specs.Message.{Message}
use Rattle.message.specs.Text.{read}
use Rattle.message.specs.declared.Fields.{Fields}
use Rattle.message.proofs.PlaceLaws.{no_place, with_place}
use Rattle.message.proofs.ReadLaws.{text_most}
use Rattle.state.specs.State.{State}
use Rattle.state.specs.Image.{state_in}
use Rattle.rules.specs.Receive.{is_misaddressed, is_stale, stale_reply, receive}
use Rattle.rules.specs.Step.{over, written}
use Rattle.rules.proofs.ReceiveLaws.{stale_term, receive_fair}
use Rattle.rules.proofs.OutcomeLaws.{receive_told}
use Rattle.rules.specs.Theorems.{SaysLegal}
use Rattle.promise.specs.Promise.{left_by}
use Rattle.promise.proofs.PromiseLaws.{ready_legal, ready_who}
use Rattle.reader.specs.Answer.{Reads}
use Rattle.reader.specs.declared.Read.{Read}
use Rattle.seek.specs.declared.Wrong.{Wrong}
use Rattle.reader.proofs.AnswerLaws.{unread_at, place_small}
use Rattle.say.specs.Said.{Answering}
use Rattle.refuse.specs.Received.{body_in, message_heard}
use Rattle.obey.specs.declared.heard.Heard.{Heard}
use Rattle.obey.specs.Obeyed.{Receives}
use Rattle.obey.proofs.SenderLaws.{message_legal, may_answer}
use Rattle.receive.specs.declared.Refused.{Refused}
use Rattle.receive.specs.declared.Refused.TheVariants.{Unread, Stale, Not}
use Rattle.receive.specs.Heard.{heard, Told, ToldOf, Replied}

-- ---- a legal message

module _ (w : Who) (l : List ℕ) (m : Heard) (out : List ℕ) (g : Receives w l out) where
  abbrev f : Fields
  f = m.fields

  abbrev s : List ℕ
  s = m.lines.now

  -- Outcome 5.
  pub misaddressed_told : is_misaddressed w (message_heard f s) ≡ true
      → Told (receive w (state_in l) (message_heard f s)) 0 l out (Err (Not NotAddressed)) l out
  unfolding receive left_by written over
  misaddressed_told a = rw a (record { outcome = refl; place_is = refl; bytes = refl; state_left = refl; output_left = refl })

  module _ (a : is_misaddressed w (message_heard f s) ≡ false) (b : is_stale (state_in l) (message_heard f s) ≡ true) where
    -- The sender of a stale message may be answered.
    pub may_reply : Answering (state_in l) f.from.0 out
    may_reply =
        let legal = message_legal m in
        may_answer w l m out g a
        (omega (arith, legal.term, stale_term w (ready_who w l g.ready) (state_in l) (ready_legal w l g.ready) (message_heard f s) legal b))

    -- Outcome 6, with its reply.
    pub stale_told :
        {r : ℕ} {out' : List ℕ} → Replied (stale_reply w (state_in l) f.from.0 (body_in f.body s)) out r out'
        → Told (receive w (state_in l) (message_heard f s)) 0 l out (Err (Stale r)) l out'
    unfolding receive left_by
    stale_told reply =
        rw (a, b) (record { outcome = refl; place_is = refl; bytes = reply.returned; state_left = refl; output_left = reply.output_left })

-- ---- the whole event

-- A text that is no message, with the place of its first wrong byte.
pub unread_told :
    (w : Who) (l input out : List ℕ) {a : Result Read Wrong} {p : Wrong} {r : Result ℕ Refused} → Reads input a → a ≡ Err p → r ≡ Err (Unread p.place)
    → ToldOf (heard w (state_in l) (read input)) input l out r l out
unfolding heard left_by written over
unread_told w l input out {p = p} told is as_unread =
    let u = unread_at input told is in
    rw (u.none_read, as_unread)
    (record {
      place = p.place;
      place_with = with_place u.at;
      told = record { outcome = refl; place_is = refl; bytes = refl; state_left = refl; output_left = refl };
      place_fits = place_small input told is;
      bytes_fit = omega arith;
    })

-- A message that a hub writes fits an output.
written_small : (w : Who) (next : State) (m : Option Message) → ((x : Message) → m ≡ some x → SaysLegal w next x) → length (written m) ≤ text_room
unfolding written
written_small w next none says = omega arith
written_small w next (some x) says = text_most x (says x refl).legal

-- A text that is a message comes to what the message does.
pub read_told :
    (w : Who) (l : List ℕ) (m : Heard) (out : List ℕ) → Receives w l out → {r : Result ℕ Refused} {l' out' : List ℕ}
    → Told (receive w (state_in l) (message_heard m.fields m.lines.now)) 0 l out r l' out' → (input : List ℕ)
    → read input ≡ some (message_heard m.fields m.lines.now) → ToldOf (heard w (state_in l) (read input)) input l out r l' out'
unfolding heard
read_told w l m out g {r} c input is =
    let said = message_heard m.fields m.lines.now in
    let fair = receive_fair w (ready_who w l g.ready) (state_in l) (ready_legal w l g.ready) said (message_legal m) in
    let small = written_small w (receive w (state_in l) said).state (receive w (state_in l) said).message fair.sound.writes in
    rw is
    (record {
      place = 0;
      place_with = no_place (receive_told w (state_in l) said).other;
      told = c;
      place_fits = omega (arith, c.place_is);
      bytes_fit = omega (arith, c.bytes, room_small, small);
    })
