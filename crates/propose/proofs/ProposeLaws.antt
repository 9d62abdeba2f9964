-- Laws of the event propose: each of its outcomes by what the code tests, and what an added entry makes of the bytes. Assumes nothing.
use Prim.Native.Nat.{ℕ, ◌+◌, ◌-◌, ◌*◌, ◌≤◌, ◌<◌}
use native.Mathlib.Omega.{arith}
use mathlib.Core.Path.{◌≡◌, refl, sym, ◌∙◌, ap}
use mathlib.Core.Bool.{true, false}
use mathlib.Core.List.{List, [], ◌∷◌, ◌++◌, map, map-append, append-nil}
use mathlib.Core.Option.{Option, none, some}
use borrow.Author.Tests.{le-leb, lt-leb}
use lib.ListN.{length, take, drop, length-append, length-map, drop_of_length-le}
use lib.Seq.{sets, take_all}
use Rattle.kinds.specs.Role.{as_leader}
use Rattle.kinds.specs.Sizes.{Who, limit, row_size}
use Rattle.command.specs.Command.{Command, command_of}
use Rattle.command.specs.Proposal.{is_proposal, read_proposal}
use Rattle.command.proofs.WordsLaws.{Bytes, part_last, word_at_below}
use Rattle.command.proofs.ProposalLaws.{is_proposal_length, read_proposal_some, read_proposal_none}
use Rattle.state.specs.declared.Head.{Head}
use Rattle.state.specs.State.{Kept, Lost, follower, candidate, leader, State}
use Rattle.state.specs.Legal.{legal_state}
use Rattle.rows.specs.Rows.{bytes_of, Row, row_bytes, entry_row}
use Rattle.state.specs.Image.{head_size, role_of, voters_of, gathered_of, confirmed_of, image, state_in}
use Rattle.state.specs.Head.{head_in, bytes_of_head, head_of}
use Rattle.state.specs.Table.{rows_of}
use Rattle.std.specs.Prelude.{Ok, Err}
use Rattle.kinds.specs.declared.Refusal.TheVariants.{WrongRole, BadCommand, LogFull}
use Rattle.rules.specs.Outcome.{Next, goes, refuses, wrong_role, bad_command, log_full}
use Rattle.rules.specs.Events.{leads, with_entry, propose_leading, propose}
use Rattle.rules.specs.Happens.{to_propose, happens, legal_at}
use Rattle.rules.proofs.Theorems.{next_is_legal}
use Rattle.rows.specs.declared.Words.{Words}
use Rattle.promise.specs.Promise.{Ready, Quiet}
use Rattle.promise.specs.Heads.{grown}
use Rattle.rows.specs.Words.{command_in, words_at, row_words}
use Rattle.promise.proofs.PromiseLaws.{ready_legal, ready_head, ready_role, ready_term, ready_length, ready_put, done_quiet, refused_quiet}
use Rattle.rows.proofs.WordsLaws.{command_in_at, row_words_lem}
use Rattle.promise.proofs.HeadsLaws.{places_set}

-- ---- outcomes

-- No leader.
propose_role : (w : Who) (k : Kept) (l : Lost) (p : Option Command)
    → (let s : State = record { kept = k; lost = l } in (role_of l ≡ as_leader → ⊥) → propose w s p ≡ refuses s wrong_role)
unfolding propose role_of
propose_role w k follower p h = refl
propose_role w k (candidate voters gathered) p h = refl
propose_role w k (leader confirmed) p h = absurd (h refl)

-- A leader.
propose_leads : (w : Who) (k : Kept) (l : Lost) (p : Option Command)
    → (let s : State = record { kept = k; lost = l } in role_of l ≡ as_leader → propose w s p ≡ propose_leading w s (confirmed_of l) p)
unfolding propose role_of confirmed_of
propose_leads w k follower p h = absurd (omega arith)
propose_leads w k (candidate voters gathered) p h = absurd (omega arith)
propose_leads w k (leader confirmed) p h = refl

module _ (w : Who) (s : State) (confirmed : List ℕ) where
  -- No command that may be proposed.
  leading_bad : propose_leading w s confirmed none ≡ refuses s bad_command
  unfolding propose_leading
  leading_bad = refl

  -- A full log.
  leading_full : (c : Command) → limit ≤ length s.kept.log → propose_leading w s confirmed (some c) ≡ refuses s log_full
  unfolding propose_leading
  leading_full c h = rw (le-leb limit (length s.kept.log) h)

  -- Room for one more.
  leading_done : (c : Command) → length s.kept.log < limit → propose_leading w s confirmed (some c) ≡ goes (leads w (with_entry s.kept c) confirmed) none
  unfolding propose_leading
  leading_done c h = rw (lt-leb limit (length s.kept.log) h)

-- ---- the bytes

-- A leader's head with one entry more.
grown_head :
    (w : Who) (k : Kept) (c : Command) (confirmed : List ℕ)
    → (let t = leads w (with_entry k c) confirmed in grown (head_of k (leader confirmed)) w.own ≡ head_of t.kept t.lost)
unfolding grown head_of leads with_entry role_of voters_of gathered_of confirmed_of
grown_head w k c confirmed =
    let n = length k.log in
    rw (length-append k.log (record { term = k.term; command = c } ∷ []), places_set confirmed (w.own - 1) (n + 1))

-- A leader's rows with one entry more, as they are written: behind the others.
grown_rows :
    (w : Who) (k : Kept) (c : Command) (l : Lost) → role_of l ≡ 2
    → (let s : State = record { kept = k; lost = l } in
    let new : List Row = entry_row (record { term = k.term; command = c }) ∷ [] in
    (length (rows_of s) ≡ length k.log)
    × (rows_of (leads w (with_entry k c) (confirmed_of l)) ≡ take (length k.log) (rows_of s) ++ (new ++ drop (length k.log + 1) (rows_of s))))
unfolding role_of rows_of gathered_of leads with_entry
grown_rows w k c follower h = absurd (omega arith)
grown_rows w k c (candidate voters gathered) h = absurd (omega arith)
grown_rows w k c (leader confirmed) h =
    let rows : List Row = map entry_row k.log in
    let n = length-map k.log entry_row in
    rw (append-nil rows, append-nil (map entry_row (k.log ++ (record { term = k.term; command = c } ∷ [])))) (
      n,
      rw (take_all (length k.log) rows (omega arith), drop_of_length-le rows {i = length k.log + 1} (omega arith))
          (map-append entry_row k.log (record { term = k.term; command = c } ∷ [])),
    )

grown_is : (w : Who) (k : Kept) (c : Command) (l : Lost) → role_of l ≡ as_leader
    → (let t = leads w (with_entry k c) (confirmed_of l) in grown (head_of k l) w.own ≡ head_of t.kept t.lost)
unfolding role_of confirmed_of
grown_is w k c follower h = absurd (omega arith)
grown_is w k c (candidate voters gathered) h = absurd (omega arith)
grown_is w k c (leader confirmed) h = grown_head w k c confirmed

module _ (w : Who) (l : List ℕ) (r : Ready w l) where
  -- ---- the event, by what the code tests

  module _ (bytes : List ℕ) {h : Head} (e : h ≡ head_in l) where
    here : h.role ≡ role_of (state_in l).lost
    here = ap (λ (x : Head). x.role) e ∙ ready_role w l r

    long : h.length.0 ≡ length (state_in l).kept.log
    long = ap (λ (x : Head). x.length.0) e ∙ ready_length w l r

    leading : h.role ≡ as_leader
        → propose w (state_in l) (read_proposal bytes) ≡ propose_leading w (state_in l) (confirmed_of (state_in l).lost) (read_proposal bytes)
    leading role = propose_leads w (state_in l).kept (state_in l).lost (read_proposal bytes) (sym here ∙ role)

    -- Outcome 8.
    pub proposed_wrong_role : (h.role ≡ as_leader → ⊥) → Quiet (propose w (state_in l) (read_proposal bytes)) l (Err WrongRole) l
    proposed_wrong_role role =
        refused_quiet (state_in l) l WrongRole refl (propose_role w (state_in l).kept (state_in l).lost (read_proposal bytes) (λ f. role (here ∙ f)))

    -- Outcome 10.
    pub proposed_bad : h.role ≡ as_leader → is_proposal bytes ≡ false → Quiet (propose w (state_in l) (read_proposal bytes)) l (Err BadCommand) l
    proposed_bad role bad =
        refused_quiet (state_in l) l BadCommand refl
        (leading role ∙ rw (read_proposal_none bytes bad) (leading_bad w (state_in l) (confirmed_of (state_in l).lost)))

    -- Outcome 11.
    pub proposed_full : h.role ≡ as_leader → is_proposal bytes ≡ true → limit ≤ h.length.0 → Quiet (propose w (state_in l) (read_proposal bytes)) l (Err LogFull) l
    proposed_full role proposal full =
        refused_quiet (state_in l) l LogFull refl
        (leading role ∙ rw (read_proposal_some bytes proposal)
        (leading_full w (state_in l) (confirmed_of (state_in l).lost) (command_of bytes) (omega (arith, long))))

    -- Outcome 0.
    pub proposed_done :
        h.role ≡ as_leader → is_proposal bytes ≡ true → h.length.0 < limit → {l' : List ℕ} → l' ≡ image (propose w (state_in l) (read_proposal bytes)).state
        → Quiet (propose w (state_in l) (read_proposal bytes)) l (Ok tt) l'
    proposed_done role proposal room left =
        let s = state_in l in
        let t = leads w (with_entry s.kept (command_of bytes)) (confirmed_of s.lost) in
        let p : propose w s (read_proposal bytes) ≡ goes t none =
        leading role ∙ rw (read_proposal_some bytes proposal) (leading_done w s (confirmed_of s.lost) (command_of bytes) (omega (arith, long))) in
        done_quiet t l _ p (left ∙ ap (λ (n : Next). image n.state) p)

  module _ (bytes : List ℕ) (o : Bytes bytes) (proposal : is_proposal bytes ≡ true) (role : (head_in l).role ≡ as_leader)
      (room : (head_in l).length.0 < limit) where
    -- What is proposed there.
    proposed_is : propose w (state_in l) (read_proposal bytes)
        ≡ goes (leads w (with_entry (state_in l).kept (command_of bytes)) (confirmed_of (state_in l).lost)) none
    proposed_is =
        let s = state_in l in
        ap (propose w s) (read_proposal_some bytes proposal)
        ∙ propose_leads w s.kept s.lost (some (command_of bytes)) (sym (ready_role w l r) ∙ role)
        ∙ leading_done w s (confirmed_of s.lost) (command_of bytes) (omega (arith, ready_length w l r))

    -- The words written are the entry's row.
    row_is : row_words (head_in l).term.0 (words_at 0 bytes) ≡ bytes_of row_bytes
        (entry_row (record { term = (state_in l).kept.term; command = command_of bytes }) ∷ [])
    unfolding bytes_of words_at
    row_is =
        let sixteen = is_proposal_length bytes proposal in
        let small = word_at_below 4 4 bytes (omega arith) o in
        let c : command_in (words_at 0 bytes) ≡ command_of bytes = command_in_at 0 bytes o (omega arith) ∙ ap command_of (part_last 0 16 bytes (omega arith)) in
        sym (row_words_lem (head_in l).term.0 (words_at 0 bytes) (omega arith)) ∙ rw (c, ready_term w l r) (sym (append-nil _))

    -- A row behind the log, and the head of a leader with one entry more.
    propose_written :
        sets (sets l (head_size + (head_in l).length.0 * row_size) (row_words (head_in l).term.0 (words_at 0 bytes))) 0
        (bytes_of_head (grown (head_in l) w.own))
        ≡ image (propose w (state_in l) (read_proposal bytes)).state
    unfolding happens legal_at
    propose_written =
        let s = state_in l in
        let c = command_of bytes in
        let t = leads w (with_entry s.kept c) (confirmed_of s.lost) in
        let new : List Row = entry_row (record { term = s.kept.term; command = c }) ∷ [] in
        let role = sym (ready_role w l r) ∙ role in
        let next : legal_state w t ≡ true =
        ap (λ (n : Next). legal_state w n.state) (sym proposed_is)
        ∙ next_is_legal w s (to_propose bytes) (record { size = r.size; own = r.own; legal = ready_legal w l r }) in
        let rows = grown_rows w s.kept c s.lost role in
        rw (
          ap (λ (h : Head). grown h w.own) (ready_head w l r),
          grown_is w s.kept c s.lost role,
          row_is,
          ready_length w l r,
          ap (λ (n : Next). n.state) proposed_is,
        )
        (ready_put w l r t next (length s.kept.log) new (omega (arith, rows.0)) (omega (arith, ready_length w l r)) rows.1)

    -- The same, write by write.
    pub propose_steps :
        {h f : Head} {from : ℕ} {c : Words} {l1 l2 : List ℕ} → h ≡ head_in l → from ≡ head_size + h.length.0 * row_size
        → c ≡ words_at 0 bytes → l1 ≡ sets l from (row_words h.term.0 c) → f ≡ grown h w.own → l2 ≡ sets l1 0 (bytes_of_head f)
        → l2 ≡ image (propose w (state_in l) (read_proposal bytes)).state
    propose_steps eh efrom ec e1 ef e2 = rw (e2, e1, ef, efrom, ec, eh) propose_written
