-- What the premise says of each hub, of the longest log, and of the place. Assumes nothing.
use Prim.Native.Nat.{ℕ, ◌+◌, ◌≤◌, ◌<◌}
use native.Mathlib.Omega.{arith}
use mathlib.Core.Path.{◌≡◌}
use mathlib.Core.Logic.{◌≢◌}
use mathlib.Core.Bool.{true}
use mathlib.Core.List.{List, ◌∷◌}
use lib.ListN.{length}
use Rattle.kinds.specs.Sizes.{Group, Who, hub_of}
use Rattle.state.specs.State.{Kept, State}
use Rattle.state.specs.Legal.{legal_state}
use Rattle.state.proofs.LegalLaws.{IsKept, legal_state_kept}
use Rattle.state.proofs.ImageLaws.{read_state_sound}
use Rattle.rules.specs.Events.{len, with_term}
use Rattle.rules.specs.Receive.{ballot_told, follower_at}
use Rattle.rules.proofs.LegalLaws.{IsWho, is_who}
use Rattle.rules.proofs.VoteLaws.{ballot_told_either}
use Rattle.paxos.specs.Paxos.{◌∈◌, here, there}
use Rattle.home.specs.Hub.{HomeOfHubs}
use Rattle.reaches.specs.Reaches.{longest, Ready, NotBelow, place_of}
use Rattle.reaches.proofs.Stage.{Stage}
use Rattle.reaches.proofs.Mixing.{Pending}

-- ---- lists of hubs

-- Each is at most the longest.
pub longest_most : (S : ℕ → State) {g : ℕ} {gs : List ℕ} → g ∈ gs → len (S g) ≤ longest S gs
unfolding longest
longest_most S here = omega arith
longest_most S (there m) = omega (arith, longest_most S m)

-- Where there is one hub there is one or more.
pub in_length : {g : ℕ} {gs : List ℕ} → g ∈ gs → 1 ≤ length gs
in_length here = omega arith
in_length (there m) = omega arith

-- ---- the hubs

module _ {G : Group} {H : HomeOfHubs} {c : ℕ} {others : List ℕ} {S : ℕ → State} (r : Ready G H c others S) where
  -- The hub that asks.
  abbrev pub me : Who
  me = hub_of G c

  -- Each of them is a hub, in a legal state.
  pub who : (h : ℕ) → h ∈ (c ∷ others) → IsWho (hub_of G h)
  who h m = is_who (hub_of G h) r.group (r.hubs h m)

  pub legal : (h : ℕ) → h ∈ (c ∷ others) → legal_state (hub_of G h) (S h) ≡ true
  legal h m = (read_state_sound (hub_of G h) (H.stored h) (S h) (r.legal h m)).1

  pub kept : IsKept (S c).kept
  kept = legal_state_kept me (S c) (legal c here)

  pub first : (g : ℕ) → g ∈ others → 1 ≤ g
  first g m = (who g (there m)).first

  pub apart : (g : ℕ) → g ∈ others → g ≢ c
  apart g m e = r.once.0 (rw e at m)

  -- The term that it asks for, its length, and what it keeps from then on.
  abbrev pub next_term : ℕ
  next_term = (S c).kept.term + 1

  abbrev pub size : ℕ
  size = len (S c)

  abbrev pub asking : Kept
  asking = with_term (S c).kept next_term

  -- The place of the command, which it does not report yet.
  abbrev pub place : ℕ
  place = place_of c others S

  abbrev pub Early : Stage → Type 0
  Early W = (W.states c).kept.chosen < place

  -- As long as it has heard of no more chosen places than it had.
  pub still_early : (W : Stage) → (W.states c).kept.chosen ≡ (S c).kept.chosen → Early W
  unfolding longest
  still_early W same = omega (arith, same, kept.chosen)

  -- What another one follows with, and the ballot that it tells.
  abbrev pub follows : ℕ → State
  follows g = follower_at (S g) next_term

  abbrev pub told : ℕ → ℕ
  told g = ballot_told (len (S g)) (S g).kept.ballot

  pub told_below : (g : ℕ) → NotBelow (S c) (S g) → told g ≤ (S c).kept.ballot
  told_below g b = ballot_told_either (λ t. t ≤ (S c).kept.ballot) (len (S g)) (S g).kept.ballot (λ e. omega arith)
      (λ held. omega (arith, b (omega arith)))

  -- At first all others have the same number of turns left.
  pub all_pending : (n : ℕ) → 1 ≤ n → Pending others (λ g. n) others
  all_pending n some = record { once = r.once.1; due = λ g m left. m; within = λ g m. m; some = λ g m. some }
