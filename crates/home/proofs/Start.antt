-- Start: the hub raises its term and gives its report to itself. Assumes nothing.
use Prim.Native.Nat.{ℕ, zero, suc, ◌+◌, ◌≤◌}
use native.Mathlib.Omega.{arith}
use mathlib.Core.Path.{◌≡◌, refl, sym, ◌∙◌, ap, subst, fun_ext}
use mathlib.Core.Bool.{Bool, true, false}
use mathlib.Core.List.{List, [], ◌∷◌, ◌++◌, map}
use mathlib.Core.Option.{some}
use lib.Dec.{eqb}
use lib.ListN.{get_elem?, replicate}
use Rattle.kinds.specs.Sizes.{hubs_most, term_most, Group, hub_of}
use Rattle.command.specs.Command.{Command}
use Rattle.command.specs.Entry.{Entry}
use Rattle.state.specs.State.{Kept, State}
use Rattle.rules.specs.Outcome.{Next}
use Rattle.rules.specs.Events.{is_leader, set_hub, with_term, started, asks, says, start}
use Rattle.kinds.proofs.BoolLaws.{cond_either}
use Rattle.rules.proofs.LegalLaws.{IsWho}
use Rattle.paxos.specs.Quorum.{IsHub}
use Rattle.paxos.specs.Put.{put}
use Rattle.paxos.specs.Paxos.{◌∈◌}
use Rattle.paxos.proofs.Member.{clash}
use Rattle.views.specs.Hall.{gave, Hall}
use Rattle.views.specs.Best.{Top}
use Rattle.views.proofs.Moves.{answer}
use Rattle.views.proofs.BestLaws.{top_one}
use Rattle.home.specs.View.{entry_counts, holds_of, pair_counts, tally}
use Rattle.kinds.specs.Hubs.{of_hub}
use Rattle.home.specs.Stands.{Logs, Ground, Standing, Rooted}
use Rattle.engine.proofs.HubsLaws.{set_hub_cases, set_hub_put, of_hub_replicate}
use Rattle.home.proofs.Frame.{Goes, goes, stays}

-- The hub that is called is one of the machine's.
pub is_hub_lem : {G : Group} {h : ℕ} → IsWho (hub_of G h) → IsHub G.size h
is_hub_lem w = record { low = w.first; high = w.last }

-- What a candidate would propose before it has gathered anything: what it holds.
tally_alone :
    (b : ℕ) (log : List Entry) (i : ℕ)
    → entry_counts b (get_elem? log i) ≡ pair_counts (get_elem? (map (λ e. record { ballot = b; command = e.command }) log ++ []) i)
tally_alone b [] i = refl
tally_alone b (e ∷ log) zero = refl
tally_alone b (e ∷ log) (suc i) = tally_alone b log i

-- Alone among its voters: its own report is the highest.
alone :
    {H : Hall Command} (h : ℕ) (k : Kept) → 1 ≤ h → h ≤ hubs_most → gave h k.term h (holds_of k.ballot k.log) ∈ H.gifts
    → Standing H h k (set_hub (replicate hubs_most false) h true) []
unfolding holds_of tally
alone {H} h k low le given =
    let nobody = replicate hubs_most false in
    let none_else : of_hub nobody false ≡ (λ g. false) = fun_ext (of_hub_replicate hubs_most false) in
    record {
      seen = λ g. holds_of k.ballot k.log;
      given =
          set_hub_cases (λ g v. v ≡ true → gave g k.term h (holds_of k.ballot k.log) ∈ H.gifts) nobody false true h low le
          (λ e. given)
          (λ g ne e. let z = of_hub_replicate hubs_most false g in clash (cc));
      best =
          λ i.
          subst (λ (Q : ℕ → Bool). Top Q (λ g. holds_of k.ballot k.log (suc i)) (pair_counts (get_elem? (tally k []) i)))
          (ap (λ (Q : ℕ → Bool). put Q h true) (sym none_else) ∙ set_hub_put nobody false true h low le)
          (top_one h (λ g. holds_of k.ballot k.log (suc i)) _ (tally_alone k.ballot k.log i));
    }

module _ {G : Group} {H : Hall Command} {made : Logs} (ok : Ground G H made) {h : ℕ} (w : IsWho (hub_of G h)) {s : State} (f : Rooted G H made h s) where
  started_goes : Goes G H made h (started (hub_of G h) s) (some (asks (hub_of G h) (started (hub_of G h) s)))
  unfolding started with_term asks says
  started_goes =
      let (x, given) = answer ok.faithful (is_hub_lem w) f.view (s.kept.term + 1) h (omega arith) in
      goes ok x f.prefix (alone h (with_term s.kept (s.kept.term + 1)) w.first (omega (arith, w.last, w.most)) given) tt

  -- Any start, at any hub.
  pub start_goes : Goes G H made h (start (hub_of G h) s).state (start (hub_of G h) s).message
  unfolding start
  start_goes =
      let P : Next → Type 0 = λ n. Goes G H made h n.state n.message in
      cond_either P (is_leader s) (λ e. stays ok f tt)
      (λ e. cond_either P (eqb s.kept.term term_most) (λ e. stays ok f tt) (λ e. started_goes))
