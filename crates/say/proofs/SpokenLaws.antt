-- Laws of any message of a hub: its entries where they lie in the state's bytes, what is handed over to be written, and what is written then.
-- Assumes nothing.
use Prim.Native.Nat.{ℕ, ◌+◌, ◌-◌, ◌*◌, ◌≤◌, ◌<◌}
use native.Mathlib.Omega.{arith}
use native.Mathlib.Nat.{zero-add}
use mathlib.Core.Path.{◌≡◌, refl, sym, ◌∙◌, ap}
use mathlib.Core.Bool.{true}
use mathlib.Core.List.{List}
use lib.ListN.{length, take, drop, length-drop}
use lib.Seq.{sets-eq, drop-drop}
use borrow.Author.Rules.{part_to_end}
use Rattle.kinds.specs.declared.Hub.{Hub}
use Rattle.kinds.specs.declared.Term.{Term}
use Rattle.kinds.specs.Sizes.{Who, limit, text_room, row_size}
use Rattle.kinds.specs.Packed.{half}
use Rattle.kinds.proofs.SizesLaws.{room_small}
use Rattle.command.specs.Words.{word_at}
use Rattle.command.specs.Entry.{Entry}
use Rattle.message.specs.Message.{Message, entries_of, vote_yes, append}
use Rattle.message.specs.Legal.{legal_message}
use Rattle.message.specs.Text.{text}
use Rattle.message.specs.Rows.{row_entries}
use Rattle.message.specs.Answer.{said_with, many_in}
use Rattle.message.specs.Write.{Puts, message_with}
use Rattle.message.specs.declared.Body.{Body}
use Rattle.message.specs.declared.Body.TheVariants.{VoteRequest, VoteYes, VoteNo, Append, AppendYes, AppendNo}
use Rattle.message.specs.declared.Fields.{Fields}
use Rattle.message.proofs.ReadLaws.{text_most}
use Rattle.text.specs.Wrote.{Wrote}
use Rattle.state.specs.declared.Head.{Head}
use Rattle.rows.specs.Rows.{entry_of, rows_in}
use Rattle.state.specs.Image.{head_size, state_size, kept_in, state_in}
use Rattle.rows.proofs.RowLaws.{rows_in_length, rows_in_drop}
use Rattle.rules.specs.Events.{says}
use Rattle.rules.specs.Step.{over}
use Rattle.state.proofs.LegalLaws.{IsKept, legal_state_kept}
use Rattle.promise.specs.Append.{Tested}
use Rattle.promise.proofs.PromiseLaws.{ready_legal, ready_size}
use Rattle.promise.proofs.AppendLaws.{tested_length, tested_term}
use Rattle.say.specs.Said.{Said}
use Rattle.say.specs.Spoken.{spoken, Speaks}

-- ---- bytes that are tested

module _ (w : Who) (h : Head) (l : List ℕ) (t : Tested w h l) where
  -- Their kept parts are legal.
  pub tested_kept : IsKept (state_in l).kept
  tested_kept = legal_state_kept w (state_in l) (ready_legal w l t.ready)

  -- Their length is one of a log.
  pub tested_within : h.length.0 ≤ limit
  tested_within = omega (arith, tested_length w h l t, tested_kept.within)

-- ---- the entries of a log, where they lie

-- The entries of a log after a place stand from the place's row on.
log_after :
    (l : List ℕ) (p : ℕ)
    → (let es = drop p (state_in l).kept.log in row_entries (length es) (drop (head_size + p * row_size) l) ≡ es)
unfolding state_in kept_in
log_after l p =
    let n = word_at 12 4 l in
    let table = drop head_size l in
    let long : length (drop p (rows_in entry_of n table)) ≡ n - p = length-drop p (rows_in entry_of n table)
    ∙ ap (λ (m : ℕ). m - p) (rows_in_length entry_of n table) in
    rw long
    (ap (rows_in entry_of (n - p)) (sym (drop-drop (p * row_size) head_size l)) ∙ sym (rows_in_drop entry_of p n table))

-- ---- a body with its entries

-- It has no more than there are.
body_most : (body : Body) (es : List Entry) → length (entries_of (said_with body es)) ≤ length es
unfolding entries_of
body_most (VoteRequest last ballot) es = omega arith
body_most (VoteYes last ballot count) es = omega arith
body_most VoteNo es = omega arith
body_most (Append prev prevterm chosen count) es = omega arith
body_most (AppendYes end) es = omega arith
body_most (AppendNo n) es = omega arith

-- The rows from a place on hold those that it counts.
body_rows :
    (l : List ℕ) (p : ℕ) (body : Body)
    → (let es = drop p (state_in l).kept.log in
    many_in body ≡ length (entries_of (said_with body es))
    → said_with body (row_entries (many_in body) (drop (head_size + p * row_size) l)) ≡ said_with body es)
unfolding entries_of
body_rows l p (VoteRequest last ballot) e = refl
body_rows l p (VoteYes last ballot count) e = ap (vote_yes last.0 ballot.0) (rw e (log_after l p))
body_rows l p VoteNo e = refl
body_rows l p (Append prev prevterm chosen count) e = ap (append prev.0 prevterm.0 chosen.0) (rw e (log_after l p))
body_rows l p (AppendYes end) e = refl
body_rows l p (AppendNo n) e = refl

-- ---- the fields that are written

-- Those of a hub's message.
abbrev pub fields_for : Term → Hub → Hub → Body → Fields
fields_for t from to body = record { term = t; from = from; to = to; body = body }

-- ---- what is written

-- A legal message that is written from the start of an output.
wrote_said :
    {m : Message} {out out' : List ℕ} {r : ℕ} → legal_message m ≡ true → text_room ≤ length out → Wrote out 0 (text m) r out' → Said m out r out'
unfolding over
wrote_said {m} {out} legal room wrote =
    record {
      returned = omega (arith, wrote.to);
      output_left = wrote.text ∙ simp zero-add at (sets-eq (text m) out 0 (omega (arith, text_most m legal)));
    }

-- The bytes of a legal message are counted in half of what is returned.
pub said_small : {m : Message} {out out' : List ℕ} {r : ℕ} → legal_message m ≡ true → Said m out r out' → r < half
said_small {m} legal said = omega (arith, said.returned, text_most m legal, room_small)

module _ (w : Who) (h : Head) (l : List ℕ) (t : Tested w h l) (to : Hub) (body : Body) (after : ℕ) (out : List ℕ) (k : Speaks w l to.0 body after out) where
  -- The row of the place lies within the bytes.
  pub spoken_inside : head_size + after * row_size ≤ length l
  unfolding state_size
  spoken_inside = omega (arith, k.place, ready_size w l t.ready)

  -- The rows from there on are lent.
  module _ (from : Hub) (own : from.0 ≡ w.own) {row : ℕ} (at : row ≡ head_size + after * row_size) where
    abbrev lent : List ℕ
    lent = take (length l - row) (drop row l)

    lent_is : lent ≡ drop (head_size + after * row_size) l
    lent_is = part_to_end l row ∙ ap (λ (n : ℕ). drop n l) at

    whole : message_with (fields_for h.term from to body) lent ≡ spoken w (state_in l) to.0 body after
    unfolding message_with says
    whole =
        let same = ap (λ (rows : List ℕ). said_with body (row_entries (many_in body) rows)) lent_is ∙ body_rows l after body k.counted in
        λ i. record { term = tested_term w h l t i; from = own i; to = to.0; body = same i }

    -- What is handed over may be written.
    pub spoken_puts : Puts (fields_for h.term from to body) lent out
    unfolding state_size
    spoken_puts =
        let log = (state_in l).kept.log in
        record {
          legal = rw whole k.legal;
          held =
              omega (
                arith,
                k.counted,
                body_most body (drop after log),
                length-drop after log,
                (tested_kept w h l t).within,
                k.place,
                ap length lent_is,
                length-drop (head_size + after * row_size) l,
                ready_size w l t.ready,
              );
          room = k.room;
        }

    -- It is what the hub says.
    pub spoken_said :
        {r : ℕ} {out' : List ℕ} → Wrote out 0 (text (message_with (fields_for h.term from to body) lent)) r out'
        → Said (spoken w (state_in l) to.0 body after) out r out'
    spoken_said wrote = wrote_said k.legal k.room (rw whole at wrote)
