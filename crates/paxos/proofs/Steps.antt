-- Laws of steps and runs: none at all, one after the other, and that they only add. Assumes nothing.

use mathlib.Core.List.{◌∷◌}
use Prim.Native.Nat.{ℕ, ◌≤◌}
use native.Mathlib.Omega.{arith}
use Rattle.paxos.specs.Paxos.{Machine, Happening, History, there, ◌⊆◌, promise, Can, can_ask, can_raise, can_report, can_propose, can_vote, Steps, no_step, then_step}
use Rattle.paxos.proofs.PutLaws.{put_cases}

module _ {C : Type 0} {M : Machine C} where
  -- One step.
  pub steps_one : {s : History C} {e : Happening C} → Can M s e → Steps M s (e ∷ s)
  steps_one k = then_step no_step k

  -- Steps after steps are steps. From a run they lead to a run.
  pub steps_trans : {r s t : History C} → Steps M r s → Steps M s t → Steps M r t
  steps_trans x no_step = x
  steps_trans x (then_step y k) = then_step (steps_trans x y) k

  -- Steps only add events.
  pub steps_keep : {s t : History C} → Steps M s t → s ⊆ t
  steps_keep no_step e m = m
  steps_keep (then_step x k) e m = there (steps_keep x e m)

  -- A step leaves a promise or raises it.
  promise_can : {s : History C} {e : Happening C} → Can M s e → (h : ℕ) → promise s h ≤ promise (e ∷ s) h
  unfolding promise
  promise_can can_ask h = omega arith
  promise_can {s} (can_raise {h = g} {b} is lt) h =
      put_cases (λ k x. promise s k ≤ x) (promise s) g b (omega arith) (λ k ne. omega arith) h
  promise_can (can_report is e f) h = omega arith
  promise_can (can_propose Q seen m rs k u) h = omega arith
  promise_can (can_vote is m le) h = omega arith

  -- Promises never fall.
  pub promise_rises : {s t : History C} → Steps M s t → (h : ℕ) → promise s h ≤ promise t h
  promise_rises no_step h = omega arith
  promise_rises (then_step x k) h = omega (arith, promise_rises x h, promise_can k h)
