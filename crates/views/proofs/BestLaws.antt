-- Laws of the tally: it starts with one report, goes on with each new voter's, and is what may be proposed. Assumes nothing.
use mathlib.Core.Path.{◌≡◌, refl, sym, ◌∙◌}
use mathlib.Core.Logic.{◌≢◌}
use mathlib.Core.Bool.{Bool, true, false}
use Prim.Native.Nat.{ℕ, ◌≤◌, ◌<◌}
use native.Mathlib.Omega.{arith}
use native.Mathlib.Decide.{dec_lt}
use Rattle.paxos.specs.Put.{choose, put}
use Rattle.paxos.specs.Paxos.{Wanted, Machine, Seen, never, at, History, Pick, highest, any}
use Rattle.paxos.proofs.PutLaws.{put_cases, put_same, put_other}
use Rattle.paxos.proofs.Member.{clash}
use Rattle.views.specs.Best.{better, Top}

-- A vote is of its own ballot.
at_most : {C : Type 0} {b : ℕ} (k : ℕ) (d : C) → k ≤ b → (l : ℕ) (e : C) → at k d ≡ at l e → l ≤ b
at_most k d le l e q = let l= : l ≡ k = cc in omega arith

module _ {C : Type 0} (Q : ℕ → Bool) (f : ℕ → Seen C) where
  -- What holds of the new voter's report and of each one before holds of all.
  all_more :
      (P : Seen C → Type 0) (g : ℕ) (y : Seen C)
      → P y
      → ((k : ℕ) → Q k ≡ true → P (f k))
      → (k : ℕ) → put Q g true k ≡ true → P (put f g y k)
  all_more P g y new old =
      put_cases (λ k z. put Q g true k ≡ true → P z) f g y (λ q. new) (λ k ne q. old k (sym (put_other Q g true k ne) ∙ q))

  -- A report before is a report still.
  one_more :
      (g : ℕ) (y : Seen C) {x : Seen C} → Q g ≡ false
      → (h : ℕ) × (Q h ≡ true) × (f h ≡ x) → (h : ℕ) × (put Q g true h ≡ true) × (put f g y h ≡ x)
  one_more g y out (h, q, e) =
      let ne : h ≢ g = λ same. clash (cc) in
      (h, put_other Q g true h ne ∙ q, put_other f g y h ne ∙ e)

  -- The new voter's report is one of them.
  one_new : (g : ℕ) (y : Seen C) → (h : ℕ) × (put Q g true h ≡ true) × (put f g y h ≡ y)
  one_new g y = (g, put_same Q g true, put_same f g y)

  -- If neither the new report nor one before is above a ballot, none is.
  low_more :
      (b g : ℕ) (y : Seen C)
      → ((k : ℕ) (d : C) → y ≡ at k d → k ≤ b)
      → ((h k : ℕ) (d : C) → Q h ≡ true → f h ≡ at k d → k ≤ b)
      → (h k : ℕ) (d : C) → put Q g true h ≡ true → put f g y h ≡ at k d → k ≤ b
  low_more b g y new old h k d = all_more (λ z. z ≡ at k d → k ≤ b) g y (new k d) (λ j. old j k d) h

  -- One more voter: the tally is the better of the two.
  pub top_more : (g : ℕ) (x y : Seen C) → Q g ≡ false → Top Q f x → Top (put Q g true) (put f g y) (better x y)
  unfolding better
  top_more g never never out t = all_more (λ z. z ≡ never) g never refl t
  top_more g never (at k d) out t =
      (one_new g (at k d), low_more k g (at k d) (at_most k d (omega arith)) (λ h l e q z. let none = t h q in clash (cc)))
  top_more g (at b c) never out t = (one_more g never out t.0, low_more b g never (λ l e z. clash (cc)) t.1)
  top_more g (at b c) (at k d) out t = by (dec_lt b k)
    where
      by : (r : Dec (b < k)) → Top (put Q g true) (put f g (at k d)) (choose r (at k d) (at b c))
      by (yes lt) = (one_new g (at k d), low_more k g (at k d) (at_most k d (omega arith)) (λ h l e q z. omega (arith, t.1 h l e q z)))
      by (no ge) = (one_more g (at k d) out t.0, low_more b g (at k d) (at_most k d (omega arith)) t.1)

  -- The highest vote reported may be proposed.
  pub top_pick : {M : Machine C} {s : History C} (b : ℕ) (c : C) → Top Q f (at b c) → Pick M s Q f c
  top_pick b c ((h, q, e), low) = highest h b q e low

  -- Where none was reported, whatever is wanted may.
  pub top_any : {M : Machine C} {s : History C} {c : C} → Top Q f never → Wanted M s c → Pick M s Q f c
  top_any none a = any none a

-- The first report, a candidate's own, is the tally.
pub top_one : {C : Type 0} (h : ℕ) (f : ℕ → Seen C) (x : Seen C) → f h ≡ x → Top (put (λ g. false) h true) f x
top_one {C} h f x e = by x e
  where
    only : (g : ℕ) → put (λ g. false) h true g ≡ true → f g ≡ f h
    only = put_cases (λ g q. q ≡ true → f g ≡ f h) (λ g. false) h true (λ q. refl) (λ g ne q. clash (cc))

    by : (y : Seen C) → f h ≡ y → Top (put (λ g. false) h true) f y
    by never z = λ g q. only g q ∙ z
    by (at b c) z = ((h, put_same (λ g. false) h true, z), λ g k d q w. let same = only g q in let k= : k ≡ b = cc in omega arith)
