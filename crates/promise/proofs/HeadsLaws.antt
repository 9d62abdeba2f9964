-- Laws of the heads that events make: each is the head of the state that the event's rule gives. Assumes nothing.
use Prim.Native.Nat.{ℕ, zero, suc}
use mathlib.Core.Path.{◌≡◌, refl}
use mathlib.Core.List.{List, [], ◌∷◌, map}
use lib.ListN.{set}
use Rattle.kinds.specs.Of.{place, term}
use Rattle.kinds.specs.Sizes.{Who}
use Rattle.state.specs.State.{Kept, Lost, follower}
use Rattle.state.specs.Image.{role_of, voters_of, gathered_of, confirmed_of}
use Rattle.state.specs.Head.{head_of}
use Rattle.rules.specs.Events.{with_term, started}
use Rattle.promise.specs.Heads.{following, standing}

-- Places of numbers of which one is another.
pub places_set : (ns : List ℕ) (i n : ℕ) → set (map place ns) i (place n) ≡ map place (set ns i n)
places_set [] i n = refl
places_set (m ∷ ns) zero n = refl
places_set (m ∷ ns) (suc i) n = rw (places_set ns i n)

-- A follower of this term.
pub following_head : (k : Kept) (l : Lost) (t : ℕ) → following (head_of k l) (term t) ≡ head_of (with_term k t) follower
unfolding following head_of with_term role_of voters_of gathered_of confirmed_of
following_head k l t = refl

-- A candidate of the next term.
pub standing_head : (w : Who) (k : Kept) (l : Lost) → (let t = started w (record { kept = k; lost = l }) in standing (head_of k l) w.own ≡ head_of t.kept t.lost)
unfolding standing head_of started with_term role_of voters_of gathered_of confirmed_of
standing_head w k l = refl
