-- A candidate with a majority leads: within its log its own vote is the highest that its voters tell of, beyond it what it gathered; so it
-- may propose its new log, place by place, and votes for it. Nothing was proposed at its term before. Assumes nothing.
use Prim.Native.Nat.{ℕ, zero, suc, ◌+◌, ◌-◌, ◌≤◌, ◌<◌}
use native.Mathlib.Omega.{arith}
use mathlib.Core.Path.{◌≡◌, refl, sym, ◌∙◌, ap, subst}
use mathlib.Core.Logic.{◌⊎◌, inl, inr}
use mathlib.Core.Bool.{Bool, true, false}
use mathlib.Core.List.{List, ◌++◌, map}
use mathlib.Core.Option.{none, some}
use lib.ListN.{length, get_elem?, replicate, length-append, length-map}
use Rattle.kinds.specs.Sizes.{hubs_most, Group}
use Rattle.command.specs.Command.{Command}
use Rattle.command.specs.Entry.{Entry}
use Rattle.state.specs.State.{Kept, Pair, leader}
use Rattle.paxos.specs.Quorum.{IsHub, Majority}
use Rattle.paxos.specs.Paxos.{never, at, Pick}
use Rattle.views.specs.Hall.{Hall, Leads}
use Rattle.views.specs.Moves.{Move}
use Rattle.views.specs.Best.{Top}
use Rattle.views.proofs.FaithfulLaws.{leader_holds}
use Rattle.views.proofs.Moves.{lead}
use Rattle.views.proofs.BestLaws.{top_pick}
use Rattle.home.specs.View.{machine, holds_of, view_of, tally}
use Rattle.kinds.specs.Hubs.{of_hub, set_hub}
use Rattle.home.specs.Stands.{◌⊑◌, Logs, Ground, Backs, Standing}
use Rattle.kinds.proofs.AtLaws.{at_in, at_out, at_either, at_map}
use Rattle.engine.proofs.HubsLaws.{of_hub_replicate}
use Rattle.home.proofs.ViewLaws.{holds_is, holds_entry, holds_none}
use Rattle.home.proofs.Frame.{Goes}
use Rattle.home.proofs.Tally.{paired, tally_log, tally_beyond}
use Rattle.home.proofs.Grow.{Growth, grown_goes}

-- What a gathered pair becomes.
abbrev entry_of : ℕ → Pair → Entry
entry_of t x = record { term = t; command = x.command }

module _ {G : Group} {H : Hall Command} {made : Logs} (ok : Ground G H made) {h : ℕ} (is : IsHub G.size h) (seven : G.size ≤ hubs_most) (k : Kept) (voters : List Bool)
    (gathered : List Pair) (view : H.view h ≡ view_of k) (prefix : k.log ⊑ made k.ballot) (low : k.ballot < k.term)
    (x : Standing H h k voters gathered) (most : Majority G.size (of_hub voters false)) where
  -- The new log, and its length.
  abbrev more : List Entry
  more = map (entry_of k.term) gathered

  abbrev log : List Entry
  log = k.log ++ more

  longer : length log ≡ length k.log + length gathered
  longer = length-append k.log more ∙ ap (λ n. length k.log + n) (length-map gathered (entry_of k.term))

  led : Leads (machine G) H.gifts k.term h (of_hub voters false) x.seen
  led = record { most = most; all = x.given }

  -- The hub holds nothing of its term.
  unmade : (p : ℕ) (c : Command) → holds_of k.ballot k.log p ≡ at k.term c → ⊥
  unmade p c e = let y = holds_is k.ballot k.log p k.term c e in omega (arith, y.ballot)

  -- What the voters' reports allow at each place of the new log.
  picks : (i : ℕ) (e : Entry) → get_elem? log i ≡ some e → Pick (machine G) H.past (of_hub voters false) (λ g. x.seen g (suc i)) e.command
  picks i e q =
      at_either k.log more i e q
      (λ old. picked i (paired k.ballot e) (tally_log k gathered i e old))
      (λ j is mine.
      let (y, held, same) = at_map (entry_of k.term) gathered j e mine in
      rw (ap (λ (z : Entry). z.command) same)
      (picked i y (ap (get_elem? (tally k gathered)) is ∙ tally_beyond k gathered j ∙ held)))
    where
      picked : (i : ℕ) (y : Pair) → get_elem? (tally k gathered) i ≡ some y → Pick (machine G) H.past (of_hub voters false) (λ g. x.seen g (suc i)) y.command
      picked i y q = top_pick (of_hub voters false) (λ g. x.seen g (suc i)) y.ballot y.command (rw q at (x.best i))

  choices :
      (p : ℕ) → p < suc (length log)
      → (holds_of k.term log p ≡ holds_of k.ballot k.log p)
      ⊎ ((c : Command) × (holds_of k.term log p ≡ at k.term c) × Pick (machine G) H.past (of_hub voters false) (λ g. x.seen g p) c)
  unfolding holds_of
  choices zero lt = inl refl
  choices (suc i) lt = let (e, q) = at_in log i (omega arith) in inr (e.command, holds_entry k.term log i e q, picks i e q)

  -- The hub proposes its new log and votes for it.
  leading : Move (machine G) H h (view_of (record { term = k.term; ballot = k.term; chosen = k.chosen; log = log }))
  leading =
      lead ok.faithful is view (of_hub voters false) x.seen (suc (length log)) (holds_of k.term log) led unmade choices
      (λ p le. holds_none k.term log p (omega arith) ∙ sym (holds_none k.ballot k.log p (omega (arith, longer))))

  -- Nothing was proposed at this term before.
  first : made k.term ⊑ log
  first i e q =
      let held = leader_holds ok.faithful led (sym (ap (λ v. v.term) view)) (ok.proposals k.term i e q) in
      absurd (unmade (suc i) e.command (sym (ap (λ v. v.holds (suc i)) view) ∙ held))

  -- No report tells of anything beyond the new log.
  beyond : (g p : ℕ) → of_hub voters false g ≡ true → length log < p → x.seen g p ≡ never
  beyond g p v lt =
      let i = p - suc (length k.log) in
      let place : suc (length k.log + i) ≡ p = omega (arith, longer) in
      let empty : get_elem? (tally k gathered) (length k.log + i) ≡ none = tally_beyond k gathered i ∙ at_out gathered i (omega (arith, longer)) in
      let none_told : Top (of_hub voters false) (λ g. x.seen g (suc (length k.log + i))) never = rw empty at (x.best (length k.log + i)) in
      subst (λ (q : ℕ). x.seen g q ≡ never) place (none_told g v)

  own : (i : ℕ) (e : Entry) → get_elem? more i ≡ some e → e.term ≡ k.term
  own i e q = let (y, held, same) = at_map (entry_of k.term) gathered i e q in ap (λ (z : Entry). z.term) same

  none_yet : (g : ℕ) → Backs H made g k.term (of_hub (replicate hubs_most 0) 0 g)
  none_yet g i lt = absurd (omega (arith, of_hub_replicate {A = ℕ} hubs_most 0 g))

  -- What it comes to.
  abbrev growth : Growth G H made h
  growth =
      record {
        term = k.term;
        chosen = k.chosen;
        log = k.log;
        more = more;
        move = leading;
        ballot = k.ballot;
        low = omega arith;
        part = prefix;
        own = own;
        keeps = first;
        backers = of_hub voters false;
        seen = x.seen;
        leads = led;
        free = beyond;
        confirmed = replicate hubs_most 0;
        first = is.low;
        within = omega (arith, is.high);
        backed = none_yet;
      }

  -- The candidate goes to be the leader.
  pub lead_goes :
      Goes G H made h
      (record {
        kept = record { term = k.term; ballot = k.term; chosen = k.chosen; log = log };
        lost = leader (set_hub (replicate hubs_most 0) h (length log));
      })
      none
  lead_goes = grown_goes ok growth
