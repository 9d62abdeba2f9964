-- Why the machine is safe: what a majority voted for at a ballot is all that higher ballots propose there.
-- The route: whoever reported at a ballot casts no vote below it afterwards, so its report covers each lower vote it ever casts;
-- the majority behind a proposal meets the majority of votes in a hub, whose report covers its vote; so the highest reported vote
-- stands between the two ballots, and its command is the same by induction on the run that made the proposal. Assumes nothing.
use mathlib.Core.Path.{◌≡◌, refl}
use mathlib.Core.Logic.{⊎_elim}
use mathlib.Core.List.{◌∷◌}
use mathlib.Core.Bool.{Bool, true}
use Prim.Native.Nat.{ℕ, ◌≤◌, ◌<◌}
use native.Mathlib.Omega.{arith}
use native.Mathlib.Nat.{eq-or-lt_of_le}
use Rattle.paxos.specs.Paxos.{Machine, Seen, never, at, Happening, reported, proposed, voted, History, ◌∈◌, here, there, ◌⊆◌, promise, Highest, Pick, highest, any, Can, can_report, can_propose, can_vote, no_step, then_step, Run, ChosenAt}
use Rattle.paxos.proofs.Member.{new}
use Rattle.paxos.proofs.QuorumLaws.{Shared, share}
use Rattle.paxos.proofs.Steps.{steps_one, promise_rises}

-- The report `x` of a place tells of a vote at the ballot `l` or above.
record Covers {C : Type 0} (x : Seen C) (l : ℕ) : Type 0 where
  ballot : ℕ
  command : C
  is : x ≡ at ballot command
  up : l ≤ ballot

-- The highest vote covers every vote cast so far.
covers_now : {C : Type 0} {s : History C} {h p l : ℕ} {d : C} (x : Seen C) → Highest s h p x → voted h l p d ∈ s → Covers x l
covers_now never f v = absurd (f _ _ v)
covers_now (at b c) f v = record { ballot = b; command = c; is = refl; up = f.1 _ _ v }

module _ {C : Type 0} {M : Machine C} where
  -- One step more: what is voted for was proposed, if that is so of the older votes.
  voted_step :
      {s : History C} {h b p : ℕ} {c : C} {e : Happening C}
      → Can M s e → (voted h b p c ∈ s → proposed b p c ∈ s) → voted h b p c ∈ (e ∷ s) → proposed b p c ∈ (e ∷ s)
  voted_step (can_vote is m le) older here = there m
  voted_step k older (there m) = there (older m)

  -- What is voted for was proposed.
  pub voted_proposed : {s : History C} {h b p : ℕ} {c : C} → Run M s → voted h b p c ∈ s → proposed b p c ∈ s
  voted_proposed no_step m = elim m [ ]
  voted_proposed (then_step r k) m = voted_step k (voted_proposed r) m

  -- Whoever reported at a ballot has promised it, or more by now.
  pub reported_promised : {s : History C} {h b : ℕ} {seen : ℕ → Seen C} → Run M s → reported h b seen ∈ s → b ≤ promise s h
  unfolding promise
  reported_promised no_step m = elim m [ ]
  reported_promised (then_step r (can_report is e f)) here = omega arith
  reported_promised {h} (then_step r k) (there m) = omega (arith, reported_promised r m, promise_rises (steps_one k) h)

  -- One step more: what is proposed is one command, if that is so of the older proposals.
  unique_step :
      {s : History C} {b p : ℕ} {c d : C} {e : Happening C}
      → Can M s e → (proposed b p c ∈ s → proposed b p d ∈ s → c ≡ d)
      → proposed b p c ∈ (e ∷ s) → proposed b p d ∈ (e ∷ s) → c ≡ d
  unique_step (can_propose Q seen m rs k u) older here y = new y (λ q. cc) (λ z. absurd (u _ z))
  unique_step (can_propose Q seen m rs k u) older (there x) here = absurd (u _ x)
  unique_step k older (there x) (there y) = older x y

  -- At most one command is proposed per ballot and place.
  pub unique : {s : History C} {b p : ℕ} {c d : C} → Run M s → proposed b p c ∈ s → proposed b p d ∈ s → c ≡ d
  unique no_step x y = elim x [ ]
  unique (then_step r k) x y = unique_step k (unique r) x y

  -- One step more: a report covers every lower vote, if that is so of the older ones.
  covers_step :
      {s : History C} {h b p l : ℕ} {seen : ℕ → Seen C} {d : C} {e : Happening C}
      → Run M s → Can M s e → (reported h b seen ∈ s → voted h l p d ∈ s → l < b → Covers (seen p) l)
      → reported h b seen ∈ (e ∷ s) → voted h l p d ∈ (e ∷ s) → l < b → Covers (seen p) l
  covers_step {p} {seen} r (can_report is e f) older here (there v) lt = covers_now (seen p) (f p) v
  covers_step r (can_vote is pr le) older (there m) here lt = absurd (omega (arith, reported_promised r m))
  covers_step r k older (there m) (there v) lt = older m v lt

  -- A report covers every lower vote of its hub, also those to come: the promise bars them.
  covers :
      {s : History C} {h b p l : ℕ} {seen : ℕ → Seen C} {d : C}
      → Run M s → reported h b seen ∈ s → voted h l p d ∈ s → l < b → Covers (seen p) l
  covers no_step m v lt = elim m [ ]
  covers (then_step r k) m v lt = covers_step r k (covers r) m v lt

  -- The vote that a report tells of was cast.
  pub told :
      {s : History C} {h b p k : ℕ} {seen : ℕ → Seen C} {c : C}
      → Run M s → reported h b seen ∈ s → seen p ≡ at k c → voted h k p c ∈ s
  told no_step m q = elim m [ ]
  told {p} (then_step r (can_report is e f)) here q = there (rw q at (f p)).0
  told (then_step r k) (there m) q = there (told r m q)

-- The command `d` is chosen at the place `p` of the history `t`, at the ballot `l`.
module _ {C : Type 0} (M : Machine C) (t : History C) (final : Run M t) (l p : ℕ) (d : C) (x : ChosenAt M t l p d) where
  -- What a majority's reports allow is `d`, if one of them covers the ballot `l` and lower proposals from `l` on were of `d`.
  picked :
      {s : History C} {c : C} (Q : ℕ → Bool) (seen : ℕ → Seen C)
      → Pick M s Q seen c
      → ((h k : ℕ) → Q h ≡ true → seen h ≡ at k c → l ≤ k → c ≡ d)
      → (sh : Shared M.size Q x.voters)
      → Covers (seen sh.hub) (l)
      → c ≡ d
  picked Q seen (any none a) below sh cov = let n = none sh.hub sh.first in cc
  picked Q seen (highest h k q e hi) below sh cov =
      let up = hi sh.hub cov.ballot cov.command sh.first cov.is in
      below h k q e (omega arith)

  -- One step more: each proposal at `l` or above is of `d`, if that is so of the older ones.
  held_step :
      {s : History C} {b : ℕ} {c : C} {e : Happening C}
      → Run M s → Can M s e → (e ∷ s) ⊆ t → ((k : ℕ) (a : C) → proposed k p a ∈ s → l ≤ k → a ≡ d)
      → proposed b p c ∈ (e ∷ s) → l ≤ b → c ≡ d
  held_step r k sub older (there m) le = older _ _ m le
  held_step r (can_propose Q seen most rs pick free) sub older here le =
      ⊎_elim
      (λ e. unique final (sub _ here) (rw e at x.proposal))
      (λ lt.
      let sh = share M.size Q x.voters most x.most in
      picked Q (λ h. seen h p) pick
      (λ h k q e up. older _ _ (voted_proposed r (told r (rs h q) e)) up)
      sh
      (covers final (sub _ (there (rs sh.hub sh.first))) (x.votes sh.hub sh.second) lt))
      (eq-or-lt_of_le le)

  -- Each proposal at `l` or above, in the run so far, is of `d`.
  pub held_by : {s : History C} {b : ℕ} {c : C} → Run M s → s ⊆ t → proposed b p c ∈ s → l ≤ b → c ≡ d
  held_by no_step sub m le = elim m [ ]
  held_by (then_step r k) sub m le = held_step r k sub (λ b c. held_by {b = b} {c = c} r (λ e y. sub e (there y))) m le
