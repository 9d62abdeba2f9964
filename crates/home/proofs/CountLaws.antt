-- The majorities that the rules ask for are majorities of the machine's hubs. Assumes nothing.
use Prim.Native.Nat.{ℕ, ◌≤◌}
use native.Mathlib.Omega.{arith}
use mathlib.Core.Path.{◌≡◌, ap}
use mathlib.Core.Bool.{false, Bool, true, not}
use mathlib.Core.List.{List}
use borrow.Author.Tests.{leb-true}
use lib.Dec.{leb}
use lib.ListN.{length, take, drop, take-append-drop}
use Rattle.kinds.specs.Sizes.{majority}
use Rattle.kinds.specs.Hubs.{of_hub, all, count}
use Rattle.rules.specs.Majority.{confirmed_by}
use Rattle.paxos.specs.Quorum.{Majority}
use Rattle.engine.proofs.CountLaws.{count_append, count_hubs, count_none}

-- Voters that are a majority of the list are a majority of the hubs, if none is above N.
pub voters_most :
    (N : ℕ) (voters : List Bool) → N ≤ length voters → all not (drop N voters) ≡ true
    → leb (majority N) (count (λ v. v) voters) ≡ true → Majority N (of_hub voters false)
voters_most N voters le none h =
    let whole = ap (count (λ v. v)) (take-append-drop N voters) in
    let parts = count_append (λ v. v) (take N voters) (drop N voters) in
    let zero_rest = count_none (drop N voters) none in
    let some_IsFirst = count_hubs (λ v. v) false voters N le in
    omega (arith, leb-true (majority N) (count (λ v. v) voters) h)

-- A place that a majority has confirmed.
pub confirmed_most :
    (N : ℕ) (confirmed : List ℕ) (p : ℕ) → N ≤ length confirmed → confirmed_by N confirmed p ≡ true
    → Majority N (λ g. leb p (of_hub confirmed 0 g))
unfolding confirmed_by
confirmed_most N confirmed p le h = omega (arith, leb-true (majority N) (count (leb p) (take N confirmed)) h, count_hubs (leb p) 0 confirmed N le)
