-- Standing in a list. Assumes nothing.
use mathlib.Core.Path.{◌≡◌, refl, sym, subst}
use mathlib.Core.List.{List, [], ◌∷◌}
pub use Rattle.kinds.proofs.Clash.{clash}
use Rattle.paxos.specs.Paxos.{◌∈◌, here, there}

-- What stands in `f ∷ s` is `f`, or stands in `s`.
pub new : {A P : Type 0} {e f : A} {s : List A} → e ∈ (f ∷ s) → (e ≡ f → P) → (e ∈ s → P) → P
new here f g = f refl
new (there m) f g = g m

-- Nothing stands in the empty list.
pub nothing : {A P : Type 0} {e : A} → e ∈ [] → P
nothing m = elim m [ ]

-- What is equal to something in the list stands in it.
pub as_in : {A : Type 0} {e f : A} {s : List A} → e ≡ f → f ∈ s → e ∈ s
as_in {s} e m = subst (λ x. x ∈ s) (sym e) m
