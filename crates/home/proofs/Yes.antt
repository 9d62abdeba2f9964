-- A vote-yes at a candidate: one voter more, and with a majority it leads. Assumes nothing.
use Prim.Native.Nat.{ℕ, ◌-◌, ◌≤◌}
use native.Mathlib.Omega.{arith}
use mathlib.Core.Path.{◌≡◌, sym, ◌∙◌}
use mathlib.Core.Bool.{Bool, true, false, not}
use mathlib.Core.List.{List}
use mathlib.Core.Option.{none}
use lib.Dec.{leb}
use lib.ListN.{length, drop, length-set}
use lib.Seq.{drop-set-lt}
use Rattle.kinds.specs.Sizes.{hubs_most, majority, Group, hub_of}
use Rattle.command.specs.Command.{Command}
use Rattle.command.specs.Entry.{Entry}
use Rattle.state.specs.State.{Kept, Pair, candidate, State}
use Rattle.state.specs.Legal.{all, count}
use Rattle.rules.specs.Events.{for_hub, set_hub, leads}
use Rattle.rules.specs.Receive.{Effect, gather, joined, counted, heard_yes}
use Rattle.kinds.proofs.BoolLaws.{cond_either}
use Rattle.state.proofs.LegalLaws.{IsCandidate}
use Rattle.rules.proofs.LegalLaws.{IsWho}
use Rattle.views.specs.Hall.{Hall}
use Rattle.views.proofs.Moves.{stay}
use Rattle.home.specs.Stands.{Logs, Ground, Yields, Rooted}
use Rattle.engine.proofs.HubsLaws.{for_hub_is}
use Rattle.home.proofs.CountLaws.{voters_most}
use Rattle.home.proofs.Frame.{Goes, goes, stays}
use Rattle.home.proofs.By.{GoesBy}
use Rattle.home.proofs.Tally.{heard}
use Rattle.home.proofs.Gather.{gather_at}
use Rattle.home.proofs.Lead.{lead_goes}
use Rattle.home.proofs.Start.{is_hub_lem}

module _ {G : Group} {H : Hall Command} {made : Logs} (ok : Ground G H made) {h : ℕ} (w : IsWho (hub_of G h)) (k : Kept) (voters : List Bool)
    (gathered : List Pair) (f : Rooted G H made h (record { kept = k; lost = candidate voters gathered })) (legal : IsCandidate (hub_of G h) k voters gathered)
    (g b : ℕ) (entries : List Entry) (first : 1 ≤ g) (last : g ≤ G.size)
    (y : Yields H g k.term h (length k.log) b entries) (below : b ≤ k.ballot) where
  within : g ≤ length voters
  within = omega (arith, legal.seven, w.most)

  -- No voter is above N.
  inside : all not (drop G.size (set_hub voters g true)) ≡ true
  inside = rw (drop-set-lt G.size voters (g - 1) true (omega arith)) legal.inside

  counted_goes : for_hub voters g false ≡ false → Goes G H made h (counted (hub_of G h) k (set_hub voters g true) (gather gathered b entries)) none
  unfolding counted joined leads
  counted_goes unheard =
      let x = heard f.role g b entries first within (sym (for_hub_is voters false g first) ∙ unheard) y below (gather gathered b entries)
      (gather_at gathered b entries) in
      let all_seven : length (set_hub voters g true) ≡ hubs_most = length-set voters (g - 1) true ∙ legal.seven in
      cond_either (λ (s : State). Goes G H made h s none) (leb (majority G.size) (count (λ v. v) (set_hub voters g true)))
      (λ m.
      lead_goes ok (is_hub_lem w) w.most k (set_hub voters g true) (gather gathered b entries) f.view f.prefix legal.ballot x
      (voters_most G.size (set_hub voters g true) (omega (arith, w.most)) inside m))
      (λ m. goes ok (stay f.view) f.prefix x tt)

  -- From a voter that it has, or from a new one.
  pub yes_goes :
      GoesBy G H made h (record { kept = k; lost = candidate voters gathered })
      (heard_yes (hub_of G h) (record { kept = k; lost = candidate voters gathered }) g b entries)
  unfolding heard_yes
  yes_goes =
      cond_either (λ (e : Effect). GoesBy G H made h (record { kept = k; lost = candidate voters gathered }) e) (for_hub voters g false)
      (λ e. stays ok f tt)
      counted_goes
