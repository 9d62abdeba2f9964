-- The premise is met, also by a hub that holds nothing and has a higher ballot, and the others come in any order. Assumes nothing.
use Prim.Native.Nat.{ℕ, ◌≤◌}
use native.Mathlib.Omega.{arith}
use mathlib.Core.Path.{refl}
use mathlib.Core.List.{[], ◌∷◌}
use lib.ListN.{length, replicate, length-replicate}
use Rattle.kinds.specs.Sizes.{hub_of, text_room}
use Rattle.state.specs.State.{fresh}
use Rattle.state.proofs.ImageLaws.{read_state_image}
use Rattle.rules.proofs.Computed.{computed}
use Rattle.paxos.specs.Put.{put}
use Rattle.paxos.specs.Paxos.{◌∈◌, here, there}
use Rattle.paxos.proofs.Member.{new, nothing}
use Rattle.engine.specs.Home.{fresh_home}
use Rattle.home.specs.Hub.{hub_engine}
use Rattle.reaches.specs.Reaches.{none_left, one_less, longest, Ready, NotBelow}
use Rattle.reaches.proofs.Theorems.{gets_there, then_it_is_chosen}
use Rattle.reaches.proofs.Phases.{gets_there_as_asked}
use Rattle.seven.specs.Steps as trio
use Rattle.seven.specs.Steps.{bytes, buzz_of}
use Rattle.seven.specs.Homes.{five, states, home, ThreeGetThere, FiveGetThere, TheyMayMix, FreshChoose}

-- What holds of each of two, or of each of three.
of_two : {A : Type 0} (P : A → Type 0) (a b : A) → P a → P b → (x : A) → x ∈ (a ∷ b ∷ []) → P x
of_two P a b p q x i = new i (λ e. rw e p) (λ j. new j (λ e. rw e q) nothing)

of_three : {A : Type 0} (P : A → Type 0) (a b c : A) → P a → P b → P c → (x : A) → x ∈ (a ∷ b ∷ c ∷ []) → P x
of_three P a b c p q r x i = new i (λ e. rw e p) (of_two P b c q r x)

-- The three hubs of Steps.
three_ready : Ready trio.trio trio.home 1 (2 ∷ []) trio.states
unfolding computed put longest
three_ready =
    record {
      group = refl;
      hubs = of_two _ 1 2 refl refl;
      once = (λ i. new i (λ e. omega arith) nothing, (nothing, tt));
      many = refl;
      legal = of_two _ 1 2 (read_state_image (hub_of trio.trio 1) (trio.states 1) refl) (read_state_image (hub_of trio.trio 2) (trio.states 2) refl);
      role = refl;
      terms = λ g i. new i (λ e. rw e (omega arith)) nothing;
      term_left = omega arith;
      room = omega arith;
    }

-- The room that is lent.
room : text_room ≤ length (replicate {A = ℕ} text_room 0)
room = omega (arith, length-replicate {A = ℕ} text_room 0)

-- They get there, phase by phase.
pub three_get_there : ThreeGetThere
unfolding computed put longest
three_get_there =
    gets_there_as_asked trio.trio trio.home 1 (2 ∷ []) trio.states three_ready (λ g i. new i (λ e. rw e (omega arith)) nothing) bytes (buzz_of 7) refl
    trio.orders (λ n. replicate text_room 0) (λ n. room)

-- The five hubs, hub 2 with a higher ballot and no entry.
five_ready : Ready five home 4 (2 ∷ 5 ∷ []) states
unfolding computed put longest
five_ready =
    record {
      group = refl;
      hubs = of_three _ 4 2 5 refl refl refl;
      once = (
        λ i. new i (λ e. omega arith) (λ j. new j (λ e. omega arith) nothing),
        (λ i. new i (λ e. omega arith) nothing, (nothing, tt)),
      );
      many = refl;
      legal =
          of_three _ 4 2 5 (read_state_image (hub_of five 4) (states 4) refl) (read_state_image (hub_of five 2) (states 2) refl)
          (read_state_image (hub_of five 5) (states 5) refl);
      role = refl;
      terms = of_two _ 2 5 (omega arith) (omega arith);
      term_left = omega arith;
      room = omega arith;
    }

-- They get there, in whatever order.
pub five_get_there : FiveGetThere
unfolding computed put longest
five_get_there ts s =
    gets_there five home 4 (2 ∷ 5 ∷ []) states five_ready
    (of_two (λ g. NotBelow (states 4) (states g)) 2 5 (λ held. absurd (omega arith)) (λ held. omega arith)) bytes (buzz_of 7) refl ts s
    (λ n. replicate text_room 0) (λ n. room)

-- Whose turn it is: hub 5's twice, then hub 2's twice; and hub 2's twice, hub 5's, hub 2's, hub 5's twice.
pub they_may_mix : TheyMayMix
unfolding put
they_may_mix =
    record {
      first = _;
      second = _;
      elects = one_less (there here) refl (one_less (there here) refl (one_less here refl (one_less here refl (none_left (of_two _ 2 5 refl refl)))));
      chooses =
          one_less here refl
          (one_less here refl
          (one_less (there here) refl
          (one_less here refl (one_less (there here) refl (one_less (there here) refl (none_left (of_two _ 2 5 refl refl)))))));
      whole = refl;
    }

-- ---- fresh hubs

-- Fresh hubs meet it.
fresh_ready : Ready trio.trio (fresh_home hub_engine) 1 (2 ∷ []) (λ h. fresh)
unfolding computed longest
fresh_ready =
    record {
      group = refl;
      hubs = of_two _ 1 2 refl refl;
      once = (λ i. new i (λ e. omega arith) nothing, (nothing, tt));
      many = refl;
      legal = of_two _ 1 2 (read_state_image (hub_of trio.trio 1) fresh refl) (read_state_image (hub_of trio.trio 2) fresh refl);
      role = refl;
      terms = λ g i. omega arith;
      term_left = omega arith;
      room = omega arith;
    }

-- They started fresh, after no deeds at all.
pub fresh_choose : FreshChoose
unfolding computed longest
fresh_choose =
    then_it_is_chosen trio.trio (fresh_home hub_engine) 1 (2 ∷ []) 1 (buzz_of 7) _
    (record { group = refl; runs = record { deeds = []; fair = tt; ends = refl } })
    (gets_there_as_asked trio.trio (fresh_home hub_engine) 1 (2 ∷ []) (λ h. fresh) fresh_ready (λ g i. omega arith) bytes (buzz_of 7) refl trio.orders
    (λ n. replicate text_room 0) (λ n. room))
