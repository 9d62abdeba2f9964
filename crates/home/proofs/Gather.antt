-- At each place the rules gather the better of what is held and what is told. Assumes nothing.
use Prim.Native.Nat.{ℕ, zero, suc, ◌<◌}
use native.Mathlib.Omega.{arith}
use native.Mathlib.Decide.{dec_lt}
use mathlib.Core.Path.{◌≡◌, refl}
use mathlib.Core.Bool.{cond}
use mathlib.Core.List.{List, [], ◌∷◌, map}
use mathlib.Core.Option.{some}
use borrow.Author.Tests.{lt-ltb, le-ltb}
use lib.Dec.{ltb}
use lib.ListN.{get_elem?}
use Rattle.command.specs.Entry.{Entry}
use Rattle.state.specs.State.{Pair}
use Rattle.rules.specs.Receive.{gather}
use Rattle.paxos.specs.Put.{choose}
use Rattle.paxos.specs.Paxos.{at}
use Rattle.views.specs.Best.{better}
use Rattle.home.proofs.Tally.{paired, better_held}
use Rattle.home.specs.View.{entry_counts, pair_counts}

-- ---- place by place

gather_none : (b : ℕ) (es : List Entry) (i : ℕ) → entry_counts b (get_elem? es i) ≡ pair_counts (get_elem? (map (paired b) es) i)
gather_none b [] i = refl
gather_none b (e ∷ es) zero = refl
gather_none b (e ∷ es) (suc i) = gather_none b es i

-- At each place the rules keep the better.
gather_one :
    (b : ℕ) (x : Pair) (e : Entry)
    → better (at x.ballot x.command) (at b e.command) ≡ pair_counts (some (cond (ltb x.ballot b) (paired b e) x))
unfolding better
gather_one b x e = by (dec_lt x.ballot b)
  where
    by :
        (r : Dec (x.ballot < b))
        → choose r (at b e.command) (at x.ballot x.command) ≡ pair_counts (some (cond (ltb x.ballot b) (paired b e) x))
    by (yes lt) = rw (lt-ltb x.ballot b lt)
    by (no ge) = rw (le-ltb x.ballot b (omega arith))

pub gather_at :
    (gs : List Pair) (b : ℕ) (es : List Entry) (i : ℕ)
    → better (pair_counts (get_elem? gs i)) (entry_counts b (get_elem? es i)) ≡ pair_counts (get_elem? (gather gs b es) i)
unfolding gather better
gather_at [] b es i = gather_none b es i
gather_at (g ∷ gs) b [] i = better_held (pair_counts (get_elem? (g ∷ gs) i))
gather_at (g ∷ gs) b (e ∷ es) zero = gather_one b g e
gather_at (g ∷ gs) b (e ∷ es) (suc i) = gather_at gs b es i
