-- A hub takes what its term's leader has proposed. By log matching the new log is a part of the leader's; it is never shorter than the old
-- one, so no vote is taken back; and what the append reports is settled. Assumes nothing.
use Prim.Native.Nat.{ℕ, zero, suc, ◌+◌, ◌≤◌, ◌<◌, max}
use native.Mathlib.Omega.{arith}
use native.Mathlib.Decide.{dec_lt}
use mathlib.Core.Path.{◌≡◌, refl, sym, ◌∙◌, ap, subst}
use mathlib.Core.Logic.{◌⊎◌, inl, inr}
use mathlib.Core.Bool.{true}
use mathlib.Core.List.{List, ◌++◌}
use mathlib.Core.Option.{some}
use lib.ListN.{length, take, get_elem?, length-append}
use lib.Seq.{length-take-le}
use Rattle.kinds.specs.Sizes.{between, Group}
use Rattle.command.specs.Command.{Command}
use Rattle.command.specs.Entry.{Entry}
use Rattle.state.specs.State.{Kept}
use Rattle.paxos.specs.Quorum.{IsHub}
use Rattle.paxos.specs.Paxos.{at, proposed, ◌∈◌}
use Rattle.views.specs.Hall.{Hall}
use Rattle.views.specs.Faithful.{Known}
use Rattle.views.specs.Moves.{Move}
use Rattle.views.proofs.KeepsLaws.{settled_on}
use Rattle.views.proofs.Theorems.{acts_faithful, acts_keep}
use Rattle.views.proofs.Moves.{then, follow, say_more, known_settled}
use Rattle.home.specs.View.{machine, holds_of, view_of}
use Rattle.home.specs.Stands.{◌⊑◌, Logs, Matching, Ground, Backs, Follows, Carries}
use Rattle.kinds.proofs.AtLaws.{at_in, at_lt, at_either, at_take}
use Rattle.home.proofs.ViewLaws.{holds_entry, holds_none, said_lt, lt_said}
use Rattle.home.proofs.Grow.{held_voted}

-- ---- what an append has to be

-- The entry at prev has the term prevterm; and the log is of this term already, or the append reaches its end.
pub record Fitting (k : Kept) (prev prevterm end : ℕ) : Type 0 where
  pub near : prev ≤ length k.log
  pub after : Follows k.log prev prevterm
  pub reach : (k.ballot ≡ k.term) ⊎ (length k.log ≤ end)

-- ---- the new log

-- Two logs with an entry of one term at a place are the same up to it.
matched :
    {made : Logs} → Matching made → (t b j : ℕ) (e f : Entry) → get_elem? (made t) j ≡ some e → get_elem? (made b) j ≡ some f → e.term ≡ f.term
    → (i : ℕ) (d : Entry) → i ≤ j → get_elem? (made b) i ≡ some d → get_elem? (made t) i ≡ some d
matched {made} m t b j e f p q same i d le r =
    let (c, s) = at_in (made t) i (omega (arith, at_lt (made t) j e p)) in
    let mine : get_elem? (made e.term) i ≡ some c = (m t j e p).same i c le s in
    let his : get_elem? (made f.term) i ≡ some d = (m b j f q).same i d le r in
    let one : get_elem? (made e.term) i ≡ some d = subst (λ (n : ℕ). get_elem? (made n) i ≡ some d) (sym same) his in
    let equal : c ≡ d = cc in
    s ∙ ap some equal

-- What a hub's log is after the append: a part of the leader's, at least to the append's end, and no shorter.
pub record Longer (made : Logs) (k : Kept) (end : ℕ) (log : List Entry) : Type 0 where
  pub part : log ⊑ made k.term
  pub over : end ≤ length log
  pub keeps : length k.log ≤ length log

module _ {G : Group} {H : Hall Command} {made : Logs} (ok : Ground G H made) (k : Kept) (prefix : k.log ⊑ made k.ballot)
    (from prev prevterm chosen : ℕ) (entries : List Entry) (c : Carries G H made k.term from prev prevterm chosen entries)
    (f : Fitting k prev prevterm (prev + length entries)) where
  -- The hub's entries up to prev are the leader's.
  before : (p : ℕ) → prev ≡ p → (i : ℕ) (e : Entry) → i < p → get_elem? k.log i ≡ some e → get_elem? (made k.term) i ≡ some e
  before zero is i e lt q = absurd (omega arith)
  before (suc j) is i e lt q =
      let mine : Follows k.log (suc j) prevterm = subst (λ (p : ℕ). Follows k.log p prevterm) is f.after in
      let (x, at-prev, term) = mine in
      let after : Follows (made k.term) (suc j) prevterm = subst (λ (p : ℕ). Follows (made k.term) p prevterm) is c.after in
      let (y, his, same) = after in
      matched ok.matching k.term k.ballot j y x his (prefix j x at-prev) (same ∙ sym term)
      i e (omega arith) (prefix i e q)

  -- So the joined log is a part of the leader's.
  pub joined_part : (take prev k.log ++ entries) ⊑ made k.term
  joined_part i e q =
      at_either (take prev k.log) entries i e q
      (λ old. let (lt, r) = at_take prev k.log i e old in before prev refl i e lt r)
      (λ j is r.
      let place : prev + j ≡ i = omega (arith, length-take-le prev k.log f.near) in
      subst (λ (n : ℕ). get_elem? (made k.term) n ≡ some e) place (c.part j e r))

  pub joined_length : length (take prev k.log ++ entries) ≡ prev + length entries
  joined_length = length-append (take prev k.log) entries ∙ ap (λ n. n + length entries) (length-take-le prev k.log f.near)

-- ---- the step

module _ {G : Group} {H : Hall Command} {made : Logs} (ok : Ground G H made) {h : ℕ} (is : IsHub G.size h) (k : Kept) (view : H.view h ≡ view_of k)
    (from prev prevterm chosen : ℕ) (entries : List Entry) (known : chosen ≤ prev + length entries)
    (c : Carries G H made k.term from prev prevterm chosen entries) (log : List Entry) (l : Longer made k (prev + length entries) log) where
  -- With the new log, and with the new count of chosen places.
  abbrev held : Kept
  held = record { term = k.term; ballot = k.term; chosen = k.chosen; log = log }

  abbrev told : Kept
  told = record { term = k.term; ballot = k.term; chosen = max k.chosen chosen; log = log }

  takes :
      (p : ℕ) → p < suc (length log)
      → (holds_of k.term log p ≡ holds_of k.ballot k.log p)
      ⊎ ((d : Command) × (holds_of k.term log p ≡ at k.term d) × (proposed k.term p d ∈ H.past))
  unfolding holds_of
  takes zero lt = inl refl
  takes (suc i) lt =
      let (e, q) = at_in log i (omega arith) in
      inr (e.command, holds_entry k.term log i e q, ok.proposals k.term i e (l.part i e q))

  -- The hub votes for what the append brings.
  votes : Move (machine G) H h (view_of held)
  votes =
      follow ok.faithful is view (suc (length log)) (holds_of k.term log) takes
      (λ p le. holds_none k.term log p (omega arith) ∙ sym (holds_none k.ballot k.log p (omega (arith, l.keeps))))

  -- The places that the append reports are settled, and the hub holds the same there.
  settled :
      (p : ℕ) → between 1 (max k.chosen chosen) p ≡ true
      → (between 1 k.chosen p ≡ true) ⊎ Known (machine G) votes.hall.past k.term p (holds_of k.term log p)
  settled p s = let (i, at_place, lt) = said_lt (max k.chosen chosen) p s in rw at_place (by i (dec_lt i k.chosen) lt)
    where
      by :
          (i : ℕ) → Dec (i < k.chosen) → i < max k.chosen chosen
          → (between 1 k.chosen (suc i) ≡ true) ⊎ Known (machine G) votes.hall.past k.term (suc i) (holds_of k.term log (suc i))
      by i (yes old) lt = inl (lt_said k.chosen i old)
      by i (no ge) lt =
          let on = acts_keep ok.faithful votes.acts in
          let (e, q, s) = c.settled i (omega arith) in
          let (d, r) = at_in log i (omega (arith, l.over)) in
          let his = l.part i d r in
          let same : e ≡ d = cc in
          let mine : get_elem? log i ≡ some e = r ∙ ap some (sym same) in
          inr
          (known_settled (acts_faithful ok.faithful votes.acts) (settled_on on (omega arith) s) (on _ (ok.proposals k.term i e q))
          (holds_entry k.term log i e mine))

  -- And reports them.
  pub tells : Move (machine G) H h (view_of told)
  tells =
      then votes
      (say_more is votes.mine (between 1 (max k.chosen chosen))
      (λ p s. let (i, at_place, lt) = said_lt k.chosen p s in rw at_place (lt_said (max k.chosen chosen) i (omega arith)))
      settled)

  -- It has voted up to the append's end.
  pub backs : Backs tells.hall made h k.term (prev + length entries)
  backs i lt =
      let (e, q) = at_in log i (omega (arith, l.over)) in
      (e, l.part i e q, held_voted (acts_faithful ok.faithful tells.acts) h told tells.mine i e q)
