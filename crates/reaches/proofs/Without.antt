-- A list of hubs without one of them. Assumes nothing.
use Prim.Native.Nat.{ℕ, suc, max}
use native.Mathlib.Omega.{arith}
use mathlib.Core.Path.{◌≡◌, refl, sym, ◌∙◌}
use mathlib.Core.Logic.{◌≢◌}
use mathlib.Core.List.{List, [], ◌∷◌}
use lib.ListN.{length}
use Rattle.state.specs.State.{State}
use Rattle.rules.specs.Events.{len}
use Rattle.paxos.specs.Paxos.{◌∈◌, here, there}
use Rattle.paxos.proofs.Member.{new}
use Rattle.reaches.specs.Reaches.{Distinct, longest}

-- The list without that hub.
pub data Without (g : ℕ) : List ℕ → List ℕ → Type 0 where
  first : {gs : List ℕ} → Without g (g ∷ gs) gs
  later : {h : ℕ} {gs less : List ℕ} → Without g gs less → Without g (h ∷ gs) (h ∷ less)

-- A hub that is in a list can be left out.
pub without : {g : ℕ} (gs : List ℕ) → g ∈ gs → (less : List ℕ) × Without g gs less
without [] m = elim m [ ]
without (g ∷ gs) here = (gs, first)
without (h ∷ gs) (there m) = let (less, w) = without gs m in (h ∷ less, later w)

-- It was in it.
pub without_in : {g : ℕ} {gs less : List ℕ} → Without g gs less → g ∈ gs
without_in first = here
without_in (later w) = there (without_in w)

-- The list is shorter by one.
pub without_length : {g : ℕ} {gs less : List ℕ} → Without g gs less → length gs ≡ suc (length less)
without_length first = refl
without_length (later w) = omega (arith, without_length w)

-- Its longest log is that hub's, or the longest of the rest.
pub without_longest : (S : ℕ → State) {g : ℕ} {gs less : List ℕ} → Without g gs less → longest S gs ≡ max (len (S g)) (longest S less)
unfolding longest
without_longest S first = refl
without_longest S (later w) = omega (arith, without_longest S w)

-- The rest were in it.
pub without_rest : {g : ℕ} {gs less : List ℕ} → Without g gs less → (h : ℕ) → h ∈ less → h ∈ gs
without_rest first h m = there m
without_rest (later w) h m = new m (λ e. rw e here) (λ n. there (without_rest w h n))

-- So is each other one in the rest.
pub without_kept : {g : ℕ} {gs less : List ℕ} → Without g gs less → (h : ℕ) → h ≢ g → h ∈ gs → h ∈ less
without_kept first h ne m = new m (λ e. absurd (ne e)) (λ n. n)
without_kept (later w) h ne m = new m (λ e. rw e here) (λ n. there (without_kept w h ne n))

-- Where nothing stands twice, that hub is no longer in it.
pub without_other : {g : ℕ} {gs less : List ℕ} → Without g gs less → Distinct gs → (h : ℕ) → h ∈ less → h ≢ g
without_other first (out, once) h m e = out (rw e at m)
without_other (later w) (out, once) h m e =
    new m (λ is. out (let same = sym is ∙ e in rw (sym same) at (without_in w))) (λ n. without_other w once h n e)

-- Nor does anything stand twice then.
pub without_once : {g : ℕ} {gs less : List ℕ} → Without g gs less → Distinct gs → Distinct less
without_once first (out, once) = once
without_once (later w) (out, once) = (λ m. out (without_rest w _ m), without_once w once)
