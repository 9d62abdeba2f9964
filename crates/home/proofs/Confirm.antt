-- A leader hears how far a hub has stored its log: who confirmed a length has voted so far, so a place that a majority has confirmed is
-- chosen. Assumes nothing.
use Prim.Native.Nat.{ℕ, suc, ◌≤◌, ◌<◌, max}
use native.Mathlib.Omega.{arith}
use native.Mathlib.Decide.{dec_lt}
use mathlib.Core.Path.{◌≡◌, sym, subst}
use mathlib.Core.Logic.{◌⊎◌, inl, inr}
use mathlib.Core.Bool.{Bool, true}
use mathlib.Core.List.{List}
use mathlib.Core.Option.{none, some}
use borrow.Author.Tests.{leb-true}
use lib.Dec.{leb}
use lib.ListN.{length, get_elem?}
use Rattle.kinds.specs.Sizes.{between, Group}
use Rattle.command.specs.Command.{Command}
use Rattle.command.specs.Entry.{Entry}
use Rattle.state.specs.State.{Kept, leader}
use Rattle.paxos.specs.Paxos.{voted, ◌∈◌}
use Rattle.paxos.specs.Quorum.{IsHub, Majority}
use Rattle.paxos.proofs.QuorumLaws.{share}
use Rattle.views.specs.Hall.{Hall}
use Rattle.views.specs.Faithful.{Known}
use Rattle.views.specs.Moves.{Move}
use Rattle.views.proofs.FaithfulLaws.{leads_on}
use Rattle.views.proofs.Theorems.{acts_gifts}
use Rattle.views.proofs.Moves.{say_more, known_votes}
use Rattle.home.specs.View.{machine, holds_of, view_of}
use Rattle.kinds.specs.Hubs.{set_hub, of_hub}
use Rattle.home.specs.Stands.{Logs, Ground, Backs, Rooted}
use Rattle.engine.proofs.HubsLaws.{set_hub_cases}
use Rattle.home.proofs.ViewLaws.{holds_entry, said_lt, lt_said}
use Rattle.home.proofs.Frame.{backs_on, Goes, later, goes}

module _ {G : Group} {H : Hall Command} {made : Logs} (ok : Ground G H made) {h : ℕ} (is : IsHub G.size h) (k : Kept) (confirmed : List ℕ)
    (f : Rooted G H made h (record { kept = k; lost = leader confirmed })) (g end : ℕ) (first : 1 ≤ g) (within : g ≤ length confirmed)
    (b : Backs H made g k.term end) (place : ℕ) (most : 1 ≤ place → Majority G.size (λ v. leb place (of_hub (set_hub confirmed g end) 0 v))) where
  abbrev now : List ℕ
  now = set_hub confirmed g end

  -- Who confirmed a length has voted so far.
  backed : (v : ℕ) → Backs H made v k.term (of_hub now 0 v)
  backed = set_hub_cases (λ v n. Backs H made v k.term n) confirmed 0 end g first within b (λ v ne. f.role.backed v)

  -- The hubs that have confirmed that place.
  abbrev Confirming : ℕ → Bool
  Confirming v = leb place (of_hub now 0 v)

  -- Each of them has voted for the entry at a place so far.
  votes :
      (i : ℕ) → i < place → (v : ℕ) → Confirming v ≡ true
      → (e : Entry) × (get_elem? k.log i ≡ some e) × (voted v k.term (suc i) e.command ∈ H.past)
  votes i lt v q =
      let (e, there, z) = backed v i (omega (arith, leb-true place (of_hub now 0 v) q)) in
      (e, subst (λ (m : List Entry). get_elem? m i ≡ some e) (sym f.role.whole) there, z)

  same_vote :
      (i : ℕ) (lt : i < place) (e : Entry) → get_elem? k.log i ≡ some e → (v : ℕ) → Confirming v ≡ true
      → voted v k.term (suc i) e.command ∈ H.past
  same_vote i lt e q v c =
      let (d, r, z) = votes i lt v c in
      let same : d ≡ e = cc in
      subst (λ (x : Entry). voted v k.term (suc i) x.command ∈ H.past) same z

  -- A place up to the one that a majority has confirmed.
  chosen_known : (i : ℕ) → i < place → Known (machine G) H.past k.term (suc i) (holds_of k.ballot k.log (suc i))
  chosen_known i lt =
      let m = most (omega arith) in
      let one = share G.size Confirming Confirming m m in
      let (e, q, z) = votes i lt one.hub one.first in
      known_votes ok.faithful Confirming (holds_entry k.ballot k.log i e q) (omega arith) m (same_vote i lt e q)

  known :
      (p : ℕ) → between 1 (max k.chosen place) p ≡ true
      → (between 1 k.chosen p ≡ true) ⊎ Known (machine G) H.past k.term p (holds_of k.ballot k.log p)
  known p s = let (i, at_place, lt) = said_lt (max k.chosen place) p s in rw at_place (by i (dec_lt i k.chosen) lt)
    where
      by :
          (i : ℕ) → Dec (i < k.chosen) → i < max k.chosen place
          → (between 1 k.chosen (suc i) ≡ true) ⊎ Known (machine G) H.past k.term (suc i) (holds_of k.ballot k.log (suc i))
      by i (yes old) lt = inl (lt_said k.chosen i old)
      by i (no ge) lt = inr (chosen_known i (omega arith))

  -- The hub reports what a majority has confirmed.
  tells : Move (machine G) H h (view_of (record { term = k.term; ballot = k.ballot; chosen = max k.chosen place; log = k.log }))
  tells =
      say_more is f.view (between 1 (max k.chosen place))
      (λ p s. let (i, at_place, lt) = said_lt k.chosen p s in rw at_place (lt_said (max k.chosen place) i (omega arith)))
      known

  -- And goes on leading.
  pub confirmed_goes :
      Goes G H made h
      (record { kept = record { term = k.term; ballot = k.ballot; chosen = max k.chosen place; log = k.log }; lost = leader now })
      none
  confirmed_goes =
      let r = f.role in
      goes ok tells f.prefix
      (record {
        backers = r.backers;
        seen = r.seen;
        leads = leads_on (acts_gifts tells.acts) r.leads;
        free = r.free;
        whole = r.whole;
        backed = λ v. backs_on (later ok tells.acts) v k.term _ (backed v);
      })
      tt
