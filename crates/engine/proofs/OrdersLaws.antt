-- What holds of every command that a deed can propose holds of every command that a home's hubs took. Assumes nothing.
use mathlib.Core.Path.{◌≡◌, refl, sym, subst}
use mathlib.Core.Bool.{Bool, true, false, cond}
use mathlib.Core.List.{List, [], ◌∷◌}
use mathlib.Core.Option.{Option, none, some}
use Rattle.kinds.specs.Sizes.{Group}
use Rattle.paxos.specs.Paxos.{◌∈◌}
use Rattle.paxos.proofs.Member.{new, nothing}
use Rattle.engine.specs.Engine.{Engine}
use Rattle.engine.specs.Home.{Home, fresh_home, adding, after, after_all, Reached}

module _ {C : Type 0} (P : C → Type 0) where
  -- A proposal, if there is one and it takes effect.
  adding_all :
      (took_effect : Bool) (asked : Option C) (orders : List C) → ((c : C) → asked ≡ some c → P c)
      → ((c : C) → c ∈ orders → P c) → (c : C) → c ∈ cond took_effect (adding asked orders) orders → P c
  unfolding adding
  adding_all false asked orders f old c m = old c m
  adding_all true none orders f old c m = old c m
  adding_all true (some d) orders f old c m = new m (λ e. subst P (sym e) (f d refl)) (old c)

module _ {E : Engine} (G : Group) (P : E.Command → Type 0) (asked : (d : E.Deed) (c : E.Command) → E.asks d ≡ some c → P c) where
  -- Over any deeds.
  taken_all : (ds : List E.Deed) (H : Home E) → ((c : E.Command) → c ∈ H.orders → P c) → (c : E.Command) → c ∈ (after_all E G H ds).orders → P c
  unfolding after
  taken_all [] H old = old
  taken_all (d ∷ ds) H old = taken_all ds (after E G H d) (adding_all P (E.step G d).took_effect (E.asks d) H.orders (asked d) old)

  -- In every home that started fresh.
  pub orders_all : (H : Home E) → Reached E G H → (c : E.Command) → c ∈ H.orders → P c
  orders_all H r c m =
      taken_all r.runs.deeds (fresh_home E) (λ d i. nothing i) c (subst (λ (I : Home E). c ∈ I.orders) (sym r.runs.ends) m)
