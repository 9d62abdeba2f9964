-- Laws of clearing the lost parts: a restart, a start, a higher term, from the bytes of one state to those of the next, write by write. Assumes nothing.
use Prim.Native.Nat.{ℕ, ◌+◌, ◌-◌, ◌*◌, ◌≤◌, ◌<◌}
use native.Mathlib.Omega.{arith}
use mathlib.Core.Path.{◌≡◌, refl, sym, ◌∙◌, ap}
use mathlib.Core.Bool.{true}
use mathlib.Core.List.{List, [], map, append-nil}
use lib.ListN.{length, take, drop, replicate, length-map}
use lib.Seq.{sets, take_at}
use Rattle.kinds.specs.Of.{term}
use Rattle.kinds.specs.Role.{as_leader}
use Rattle.kinds.specs.Sizes.{Who, term_most, limit, row_size}
use Rattle.command.specs.Words.{word_at}
use Rattle.command.proofs.WordsLaws.{Bytes}
use Rattle.rows.specs.Rows.{entry_of, Row, entry_row}
use Rattle.rows.proofs.RowLaws.{rows_in_length}
use Rattle.state.specs.declared.Head.{Head}
use Rattle.state.specs.State.{follower, State}
use Rattle.state.specs.Legal.{legal_state}
use Rattle.state.specs.Image.{head_size, state_size, gathered_of, voters_of, confirmed_of, role_of, image, kept_in, state_in, read_kept}
use Rattle.state.specs.Head.{head_in, bytes_of_head, head_of}
use Rattle.state.specs.Table.{pair_row, rows_of}
use Rattle.state.specs.Check.{is_some}
use Rattle.state.proofs.LegalLaws.{rows_of_length}
use Rattle.state.proofs.ImageWrites.{kept_cleared}
use Rattle.rules.specs.Outcome.{Next}
use Rattle.rules.specs.Events.{started, with_term, restart}
use Rattle.rules.specs.Receive.{follower_at}
use Rattle.rules.specs.Happens.{to_start, happens, legal_at}
use Rattle.rules.proofs.Theorems.{next_is_legal}
use Rattle.promise.specs.Promise.{Ready}
use Rattle.promise.specs.Heads.{following, standing}
use Rattle.promise.proofs.PromiseLaws.{ready_legal, ready_held, ready_head, ready_term, ready_length, ready_gathered, ready_clear}
use Rattle.promise.proofs.GateLaws.{read_kept_some}
use Rattle.promise.proofs.HeadsLaws.{following_head, standing_head}
use Rattle.promise.proofs.LostLaws.{kept_length, kept_size, kept_within, start_goes, not_leading, raised_legal}

-- ---- restart

module _ (l : List ℕ) (o : Bytes l) (h : is_some (read_kept l) ≡ true) where
  -- The log's rows lie within the bytes.
  pub kept_inside : head_size + (head_in l).length.0 * row_size ≤ length l
  unfolding state_size
  kept_inside = omega (arith, kept_size l o h, kept_within l o h)

  head_is : following (head_in l) (head_in l).term ≡ head_of (kept_in l) follower
  unfolding following head_in head_of kept_in voters_of confirmed_of gathered_of role_of
  head_is = rw (rows_in_length entry_of (word_at 12 4 l) (drop head_size l))

  -- Zeros behind the log, and a follower's head.
  restart_written :
      sets (sets l (head_size + (head_in l).length.0 * row_size) (replicate (length l - (head_size + (head_in l).length.0 * row_size)) 0)) 0
      (bytes_of_head (following (head_in l) (head_in l).term))
      ≡ image (restart (kept_in l)).state
  unfolding restart state_size
  restart_written =
      let n = (head_in l).length.0 in
      let rest : length l - (head_size + n * row_size) ≡ (limit - n) * row_size = omega (arith, kept_size l o h, kept_within l o h) in
      rw (head_is, rest, kept_length l o h) (kept_cleared l o (kept_in l) (read_kept_some l h))

  -- The same, write by write.
  pub restart_steps :
      {h f : Head} {from : ℕ} {l1 l2 : List ℕ} → h ≡ head_in l → from ≡ head_size + h.length.0 * row_size
      → l1 ≡ sets l from (replicate (length l - from) 0) → f ≡ following h h.term → l2 ≡ sets l1 0 (bytes_of_head f)
      → l2 ≡ image (restart (kept_in l)).state
  restart_steps eh efrom e1 ef e2 = rw (e2, e1, ef, efrom, eh) restart_written

-- ---- the lost parts of a ready state

module _ (w : Who) (l : List ℕ) (r : Ready w l) where
  -- The gathered rows are cleared, then the head is written: any state with the same log and nothing gathered.
  lost_cleared :
      (t : State) → legal_state w t ≡ true → t.kept.log ≡ (state_in l).kept.log → gathered_of t.lost ≡ []
      → sets (sets l (head_size + (head_in l).length.0 * row_size) (replicate ((head_in l).gathered.0 * row_size) 0)) 0 (bytes_of_head (head_of t.kept t.lost))
      ≡ image t
  unfolding rows_of
  lost_cleared t g log none_left =
      let s = state_in l in
      let entries : List Row = map entry_row s.kept.log in
      let pairs : List Row = map pair_row (gathered_of s.lost) in
      let long = rows_of_length s in
      let same : rows_of t ≡ take (length s.kept.log) (rows_of s) =
      rw (log, none_left, append-nil entries) (sym (take_at entries pairs (length s.kept.log) (length-map s.kept.log entry_row))) in
      rw (ready_length w l r, ready_gathered w l r)
      (ready_clear w l r t g (length s.kept.log) (length (gathered_of s.lost)) (omega arith) (omega arith) (omega (arith, (ready_held w l r).room)) same)

  module _ (role : (head_in l).role ≡ as_leader → ⊥) (low : (head_in l).term.0 < term_most) where
    started_legal : legal_state w (started w (state_in l)) ≡ true
    unfolding happens legal_at
    started_legal =
        let s = state_in l in
        ap (λ (n : Next). legal_state w n.state) (sym (start_goes w s (not_leading w l r role) (λ e. omega (arith, ready_term w l r))))
        ∙ next_is_legal w s to_start (record { size = r.size; own = r.own; legal = ready_legal w l r })

    -- A start, write by write.
    pub start_steps :
        {h f : Head} {l1 l2 : List ℕ} → h ≡ head_in l
        → l1 ≡ sets l (head_size + h.length.0 * row_size) (replicate (h.gathered.0 * row_size) 0) → f ≡ standing h w.own → l2 ≡ sets l1 0 (bytes_of_head f)
        → l2 ≡ image (started w (state_in l))
    unfolding started with_term gathered_of
    start_steps eh e1 ef e2 =
        let s = state_in l in
        let head = ap (λ (x : Head). standing x w.own) (eh ∙ ready_head w l r) ∙ standing_head w s.kept s.lost in
        rw (e2, e1, ef ∙ head, eh) (lost_cleared (started w s) started_legal refl refl)

  module _ (t : ℕ) (up : (head_in l).term.0 ≤ t) (last : t ≤ term_most) where
    -- A higher term, write by write.
    pub raise_steps :
        {h f : Head} {l1 l2 : List ℕ} → h ≡ head_in l
        → l1 ≡ sets l (head_size + h.length.0 * row_size) (replicate (h.gathered.0 * row_size) 0) → f ≡ following h (term t) → l2 ≡ sets l1 0 (bytes_of_head f)
        → l2 ≡ image (follower_at (state_in l) t)
    unfolding follower_at with_term gathered_of
    raise_steps eh e1 ef e2 =
        let s = state_in l in
        let head = ap (λ (x : Head). following x (term t)) (eh ∙ ready_head w l r) ∙ following_head s.kept s.lost t in
        rw (e2, e1, ef ∙ head, eh) (lost_cleared (follower_at s t) (raised_legal w l r t up last) refl refl)
