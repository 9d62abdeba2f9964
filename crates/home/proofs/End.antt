-- An append-yes at a leader, as the rules have it. Assumes nothing.
use Prim.Native.Nat.{ℕ, ◌-◌, ◌≤◌}
use native.Mathlib.Omega.{arith}
use mathlib.Core.Path.{◌≡◌, ◌∙◌}
use mathlib.Core.List.{List}
use mathlib.Core.Option.{none}
use lib.Dec.{leb, ltb}
use lib.ListN.{length, length-set}
use Rattle.kinds.specs.Sizes.{hubs_most, Group, hub_of}
use Rattle.command.specs.Command.{Command}
use Rattle.state.specs.State.{Kept, leader}
use Rattle.rules.specs.Majority.{majority_place}
use Rattle.rules.specs.Events.{for_hub, set_hub}
use Rattle.rules.specs.Receive.{Effect, recorded, heard_end}
use Rattle.kinds.proofs.BoolLaws.{cond_either}
use Rattle.state.proofs.LegalLaws.{IsLeader}
use Rattle.rules.proofs.LegalLaws.{IsWho}
use Rattle.rules.proofs.MajorityLaws.{majority_place_is_largest}
use Rattle.paxos.specs.Quorum.{Majority}
use Rattle.views.specs.Hall.{Hall}
use Rattle.kinds.specs.Hubs.{of_hub}
use Rattle.home.specs.Stands.{Logs, Ground, Backs, Rooted}
use Rattle.home.proofs.CountLaws.{confirmed_most}
use Rattle.home.proofs.Frame.{Goes, stays}
use Rattle.home.proofs.By.{GoesBy}
use Rattle.home.proofs.Start.{is_hub_lem}
use Rattle.home.proofs.Confirm.{confirmed_goes}

module _ {G : Group} {H : Hall Command} {made : Logs} (ok : Ground G H made) {h : ℕ} (w : IsWho (hub_of G h)) (k : Kept) (confirmed : List ℕ)
    (f : Rooted G H made h (record { kept = k; lost = leader confirmed })) (legal : IsLeader (hub_of G h) k confirmed)
    (g end : ℕ) (first : 1 ≤ g) (last : g ≤ G.size) (b : Backs H made g k.term end) where
  abbrev now : List ℕ
  now = set_hub confirmed g end

  abbrev place : ℕ
  place = majority_place G.size now

  -- A majority has confirmed the place that the rules find.
  most : 1 ≤ place → Majority G.size (λ v. leb place (of_hub now 0 v))
  most some-place =
      let seven : length now ≡ hubs_most = length-set confirmed (g - 1) end ∙ legal.seven in
      confirmed_most G.size now place (omega (arith, w.most)) ((majority_place_is_largest G.size now).has some-place)

  recorded_goes : Goes G H made h (recorded (hub_of G h) k now) none
  unfolding recorded
  recorded_goes = confirmed_goes ok (is_hub_lem w) k confirmed f g end first (omega (arith, legal.seven, w.most)) b place most

  -- A true append-yes, whether it says more than is recorded or not.
  pub end_goes :
      GoesBy G H made h (record { kept = k; lost = leader confirmed }) (heard_end (hub_of G h) (record { kept = k; lost = leader confirmed }) g end)
  unfolding heard_end
  end_goes =
      cond_either (λ (e : Effect). GoesBy G H made h (record { kept = k; lost = leader confirmed }) e) (ltb (for_hub confirmed g 0) end)
      (λ t. recorded_goes)
      (λ t. stays ok f tt)
