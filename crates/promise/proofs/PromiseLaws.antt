-- Laws of the promises: bytes that are ready are their state's image, what writes make of them, and that no second answer satisfies a promise.
-- Assumes nothing.
use Prim.Native.Nat.{ℕ, ◌+◌, ◌*◌, ◌≤◌}
use native.Mathlib.Omega.{arith}
use mathlib.Core.Path.{◌≡◌, refl, sym, ◌∙◌, ap}
use mathlib.Core.Bool.{true, false}
use mathlib.Core.List.{List, ◌++◌}
use mathlib.Core.Option.{none, some, Option}
use lib.ListN.{length, take, drop, replicate}
use lib.Seq.{sets}
use Rattle.kinds.specs.Packed.{placed, packed}
use Rattle.kinds.specs.Sizes.{Who, limit, row_size}
use Rattle.kinds.proofs.PackedLaws.{Parts, parts_back}
use Rattle.kinds.proofs.SizesLaws.{room_placed}
use Rattle.state.specs.declared.Head.{Head}
use Rattle.state.specs.State.{State}
use Rattle.state.specs.Legal.{legal_state}
use Rattle.rows.specs.Rows.{bytes_of, Row, row_bytes}
use Rattle.state.specs.Image.{head_size, state_size, role_of, gathered_of, image, state_in}
use Rattle.state.specs.Head.{head_in, bytes_of_head, head_of}
use Rattle.state.specs.Table.{rows_of}
use Rattle.state.proofs.LegalLaws.{Held, legal_held}
use Rattle.state.proofs.ImageLaws.{image_head, legal_length, read_state_image, read_state_sound, state_in_image}
use Rattle.state.proofs.ImageWrites.{image_headed, image_put, image_clear}
use Rattle.kinds.specs.declared.Refusal.{Refusal}
use Rattle.kinds.specs.Refusal.{number_of}
use Rattle.std.specs.Prelude.{Ok, Err}
use lib.Dec.{eqb}
use Rattle.rules.specs.Outcome.{Next, done, goes, refuses}
use Rattle.rules.specs.Step.{Call, Answer, step_of}
use Rattle.rules.proofs.Theorems.{call_comes_to_outcome}
use Rattle.rules.proofs.LegalLaws.{IsWho, is_who}
use Rattle.promise.specs.Promise.{Answers, Ready, left_by, Quiet, is_effect, ruled_by, said_by, Ruled}
use Rattle.rules.specs.Receive.{Effect, idle, effect}
use Rattle.message.specs.Message.{Message}
use Rattle.message.proofs.PlaceLaws.{place_with_one, place_with_most}
use Rattle.rules.proofs.Fair.{Fine, idles, does}

-- ---- no second answer

-- Two answers that both satisfy the promise of a call are equal: what is returned, the state's bytes, the output's.
pub answers_unique :
    {a : Answer} {input : List ℕ} {r r' : ℕ} {state state' output output' : List ℕ} → Answers a input r state output → Answers a input r' state' output'
    → (r ≡ r') × (state ≡ state') × (output ≡ output')
answers_unique {a} {input} p q =
    let same = place_with_one a.outcome input p.place_is q.place_is in (
      p.returned ∙ ap (λ (x : ℕ). packed (placed a.outcome x) a.wrote) same ∙ sym q.returned,
      p.state_left ∙ sym q.state_left,
      p.output_left ∙ sym q.output_left,
    )

-- What a call returns comes apart into its outcome, the place and the bytes written, each as it was put in.
pub answer_parts :
    (c : Call) {r : ℕ} {state output : List ℕ} (p : Answers (step_of c) c.input r state output) → Parts r (step_of c).outcome p.place (step_of c).wrote
answer_parts c p =
    let a = step_of c in
    rw p.returned
    (parts_back a.outcome p.place a.wrote (omega (arith, call_comes_to_outcome c)) (omega (arith, place_with_most a.outcome c.input p.place_is, room_placed)))

-- ---- bytes that are ready

module _ (w : Who) (l : List ℕ) (r : Ready w l) where
  -- They are their state's image.
  pub ready_image : image (state_in l) ≡ l
  ready_image = (read_state_sound w l (state_in l) r.held).0

  -- Their state is legal.
  pub ready_legal : legal_state w (state_in l) ≡ true
  ready_legal = (read_state_sound w l (state_in l) r.held).1

  -- Their state fits its bytes.
  pub ready_held : Held (state_in l)
  ready_held = legal_held w (state_in l) ready_legal

  -- Their length.
  pub ready_size : length l ≡ state_size
  ready_size = ap length (sym ready_image) ∙ legal_length w (state_in l) ready_legal

  -- There is a head.
  pub ready_long : head_size ≤ length l
  unfolding state_size
  ready_long = omega (arith, ready_size)

  -- Their head is the state's.
  pub ready_head : head_in l ≡ head_of (state_in l).kept (state_in l).lost
  ready_head = ap head_in (sym ready_image) ∙ image_head (state_in l) ready_held

  -- What the head says of the state: the role, the term, the ballot, the chosen count, the log's length, how many entries are gathered, the confirmed lengths.
  pub ready_role : (head_in l).role ≡ role_of (state_in l).lost
  unfolding head_of
  ready_role = ap (λ (h : Head). h.role) ready_head

  pub ready_term : (head_in l).term.0 ≡ (state_in l).kept.term
  unfolding head_of
  ready_term = ap (λ (h : Head). h.term.0) ready_head

  pub ready_ballot : (head_in l).ballot.0 ≡ (state_in l).kept.ballot
  unfolding head_of
  ready_ballot = ap (λ (h : Head). h.ballot.0) ready_head

  pub ready_chosen : (head_in l).chosen.0 ≡ (state_in l).kept.chosen
  unfolding head_of
  ready_chosen = ap (λ (h : Head). h.chosen.0) ready_head

  pub ready_length : (head_in l).length.0 ≡ length (state_in l).kept.log
  unfolding head_of
  ready_length = ap (λ (h : Head). h.length.0) ready_head

  pub ready_gathered : (head_in l).gathered.0 ≡ length (gathered_of (state_in l).lost)
  unfolding head_of
  ready_gathered = ap (λ (h : Head). h.gathered.0) ready_head

  -- The hub is one of the group.
  pub ready_who : IsWho w
  ready_who = is_who w r.size r.own

  -- ---- writes

  module _ (t : State) (g : legal_state w t ≡ true) where
    -- The image of another legal state is ready, and says that state.
    pub ready_next : {l' : List ℕ} → l' ≡ image t → Ready w l' × (state_in l' ≡ t)
    ready_next e =
        let same = state_in_image w t g in
        rw e (record { size = r.size; own = r.own; held = read_state_image w t g ∙ ap some (sym same) }, same)

    -- Only the head is written.
    pub ready_headed : rows_of t ≡ rows_of (state_in l) → sets l 0 (bytes_of_head (head_of t.kept t.lost)) ≡ image t
    ready_headed e = rw ready_image at (image_headed (state_in l) t ready_held (legal_held w t g) e)

    -- Rows are written from row i on, then the head.
    pub ready_put :
        (i : ℕ) (new : List Row) → i ≤ length (rows_of (state_in l)) → i + length new ≤ limit
        → rows_of t ≡ take i (rows_of (state_in l)) ++ (new ++ drop (i + length new) (rows_of (state_in l)))
        → sets (sets l (head_size + i * row_size) (bytes_of row_bytes new)) 0 (bytes_of_head (head_of t.kept t.lost)) ≡ image t
    ready_put i new inside fits e = rw ready_image at (image_put (state_in l) t ready_held (legal_held w t g) i new inside fits e)

    -- The rows from row i on are cleared, then the head is written.
    pub ready_clear :
        (i k : ℕ) → i ≤ length (rows_of (state_in l)) → length (rows_of (state_in l)) ≤ i + k → i + k ≤ limit → rows_of t ≡ take i (rows_of (state_in l))
        → sets (sets l (head_size + i * row_size) (replicate (k * row_size) 0)) 0 (bytes_of_head (head_of t.kept t.lost)) ≡ image t
    ready_clear i k inside behind fits e = rw ready_image at (image_clear (state_in l) t ready_held (legal_held w t g) i k inside behind fits e)

-- ---- what an event returns and leaves

-- An event that takes effect and writes nothing.
pub done_quiet : {n : Next} (t : State) (l l' : List ℕ) → n ≡ goes t none → l' ≡ image t → Quiet n l (Ok tt) l'
unfolding left_by
done_quiet t l l' e h = rw e (record { outcome = refl; silent = refl; state_left = h })

-- One that is refused leaves every byte.
pub refused_quiet : {n : Next} (s : State) (l : List ℕ) (e : Refusal) → eqb (number_of e) done ≡ false → n ≡ refuses s (number_of e) → Quiet n l (Err e) l
unfolding left_by
refused_quiet s l e other is = rw is (record { outcome = refl; silent = refl; state_left = rw other })

-- ---- effects

-- Nothing.
pub idle_ruled : {e : Effect} (l : List ℕ) → e ≡ idle → Ruled e l false l
unfolding is_effect ruled_by said_by
idle_ruled l h = rw h (record { returned = refl; silent = refl; state_left = refl })

-- Another state, and no message.
pub effect_ruled : {e : Effect} (next : State) (l l' : List ℕ) → e ≡ effect next none → l' ≡ image next → Ruled e l true l'
unfolding is_effect ruled_by said_by
effect_ruled next l l' h left = rw h (record { returned = refl; silent = refl; state_left = left })

-- The next state of a fine effect is legal, whatever is said.
pub fine_legal : {w : Who} {s next : State} {message : Option Message} {e : Effect} → Fine w s e → e ≡ effect next message → legal_state w next ≡ true
fine_legal idles h = cc
fine_legal {next = next} (does {next = n} sound new) h =
    let same : n ≡ next = cc in
    rw same at sound.legal
