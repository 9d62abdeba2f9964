-- Phase by phase is one of the ways to mix the turns; so it gets there as the request has it. Assumes nothing.
use Prim.Native.Nat.{ℕ, suc}
use mathlib.Core.Path.{◌≡◌, refl, sym, ap}
use mathlib.Core.List.{List, [], ◌∷◌, ◌++◌, map, append-nil, append_assoc}
use Rattle.paxos.specs.Put.{put}
use Rattle.paxos.specs.Paxos.{◌∈◌, here, there}
use Rattle.paxos.proofs.Member.{new, nothing}
use Rattle.paxos.proofs.PutLaws.{put_cases}
use Rattle.reaches.specs.Run.{starts, proposes, sends_to, hears, Turn}
use Rattle.reaches.specs.Reaches.{Distinct, Mixed, none_left, one_less, turn, electing, choosing}
use Rattle.reaches.specs.Phases.{Order, phases, PhasesMix, GetsThereAsAsked}
use Rattle.reaches.proofs.Theorems.{gets_there}

module _ {others : List ℕ} {t : ℕ → ℕ → Turn} {n : ℕ} {ts : List Turn}
    (rest : (left : ℕ → ℕ) → ((g : ℕ) → g ∈ others → left g ≡ n) → Mixed others t left ts) where
  -- These have one more turn left than those who had theirs in this phase.
  abbrev Before : (ℕ → ℕ) → List ℕ → Type 0
  Before left gs = (g : ℕ) → g ∈ others → (g ∈ gs → left g ≡ suc n) × ((g ∈ gs → ⊥) → left g ≡ n)

  -- One after the other.
  turns_mix :
      (gs : List ℕ) → Distinct gs → ((g : ℕ) → g ∈ gs → g ∈ others) → (left : ℕ → ℕ) → Before left gs
      → Mixed others t left (map (λ g. t g n) gs ++ ts)
  turns_mix [] once within left b = rest left (λ g m. (b g m).1 nothing)
  turns_mix (g ∷ gs) (out, once) within left b =
      one_less (within g here) ((b g (within g here)).0 here)
      (turns_mix gs once (λ h m. within h (there m)) (put left g n)
      (put_cases (λ h l. h ∈ others → (h ∈ gs → l ≡ suc n) × ((h ∈ gs → ⊥) → l ≡ n)) left g n (λ i. (λ m. absurd (out m), λ none. refl))
      (λ h ne i. (λ m. (b h i).0 (there m), λ none. (b h i).1 (λ k. new k ne none)))))

  -- A phase: all have one turn less then.
  phase_mixes : (o : Order others) (left : ℕ → ℕ) → ((g : ℕ) → g ∈ others → left g ≡ suc n) → Mixed others t left (map (λ g. t g n) o.hubs ++ ts)
  phase_mixes o left all =
      turns_mix o.hubs o.once (λ g m. (o.same g).0 m) left (λ g m. (λ i. all g m, λ none. absurd (none ((o.same g).1 m))))

-- Phase by phase.
pub phases_mix : PhasesMix
unfolding phases
phases_mix c others o bytes =
    let asked = map (λ g. turn g (hears 0) g) o.asked.hubs in
    let answering = map (λ g. turn c (hears g) g) o.answering.hubs in
    let sent = map (λ g. turn c (sends_to g) g) o.sent.hubs in
    let taking = map (λ g. turn g (hears g) g) o.taking.hubs in
    let confirming = map (λ g. turn c (hears g) g) o.confirming.hubs in
    let second = sent ++ (taking ++ confirming) in
    record {
      first = asked ++ answering;
      second = second;
      elects =
          rw (sym (append-nil answering))
          (phase_mixes {t = electing c} (λ l e. phase_mixes {t = electing c} (λ m f. none_left f) o.answering l e) o.asked (λ g. 2)
          (λ g m. refl));
      chooses =
          rw (sym (append-nil confirming))
          (phase_mixes {t = choosing c}
          (λ l e. phase_mixes {t = choosing c} (λ m f. phase_mixes {t = choosing c} (λ n h. none_left h) o.confirming m f) o.taking l e)
          o.sent (λ g. 3) (λ g m. refl));
      whole = ap (λ (l : List Turn). turn c starts 0 ∷ l) (sym (append_assoc asked answering (turn c (proposes bytes) 0 ∷ second)));
    }

-- As the request has it.
pub gets_there_as_asked : GetsThereAsAsked
gets_there_as_asked G H c others S r b bytes command proposed o =
    gets_there G H c others S r (λ g m held. b g m) bytes command proposed (phases c o bytes) (phases_mix c others o bytes)
