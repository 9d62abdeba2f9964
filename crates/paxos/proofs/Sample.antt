-- The machine does choose, and keeps to it: a run of three hubs in which 1 and 2 choose the command 7 at the place 1, and then a
-- second ballot, of hubs 2 and 3, that must propose 7 and does, though a client asked for 8 too. Assumes nothing.
use mathlib.Core.Path.{◌≡◌, refl}
use mathlib.Core.Logic.{◌≢◌}
use mathlib.Core.Bool.{Bool, true, false}
use mathlib.Core.List.{[], ◌∷◌}
use Prim.Native.Nat.{ℕ, ◌≤◌, ◌<◌}
use native.Mathlib.Omega.{arith}
use Rattle.paxos.specs.Put.{put}
use Rattle.paxos.specs.Quorum.{IsHub, count_to, Majority}
use Rattle.paxos.specs.Paxos.{Machine, client's, Seen, never, at, Happening, asked, raised, reported, proposed, voted, History, ◌∈◌, here, there, promise, Highest, Free, highest, any, Can, can_ask, can_raise, can_report, can_propose, can_vote, no_step, then_step, Run, ChosenAt}
use Rattle.paxos.proofs.PutLaws.{put_cases}
use Rattle.paxos.proofs.Member.{clash}
use Rattle.paxos.proofs.Theorems.{binds, stays_at, votes_choose}

-- Three hubs; the machine has no command of its own.
abbrev pub trio : Machine ℕ
trio = record { size = 3; own = λ c. false }

-- ---- sets of two hubs

-- The hubs a and b.
unfoldable pub pair : ℕ → ℕ → ℕ → Bool
pair a b = put (put (λ h. false) a true) b true

-- What holds of a and of b holds of each hub of the pair.
pub both : (P : ℕ → Type 0) (a b : ℕ) → P a → P b → (h : ℕ) → pair a b h ≡ true → P h
unfolding pair
both P a b x y =
    put_cases (λ h q. q ≡ true → P h) _ b true (λ q. y)
    (λ h ne. put_cases (λ h q. q ≡ true → P h) _ a true (λ q. x) (λ h ne q. clash (cc)) h)

pub most₁₂ : Majority 3 (pair 1 2)
unfolding count_to pair put
most₁₂ = omega arith

pub most₂₃ : Majority 3 (pair 2 3)
unfolding count_to pair put
most₂₃ = omega arith

pub hub₁ : IsHub 3 1
hub₁ = omega arith

pub hub₂ : IsHub 3 2
hub₂ = omega arith

pub hub₃ : IsHub 3 3
hub₃ = omega arith

-- ---- what holds of every event so far

-- Each event of the history has the property.
abbrev All : (Happening ℕ → Type 0) → History ℕ → Type 0
All P [] = Unit {0}
All P (e ∷ s) = P e × All P s

-- So has one that stands in it.
member : (P : Happening ℕ → Type 0) {s : History ℕ} {e : Happening ℕ} → All P s → e ∈ s → P e
member P a here = a.0
member P a (there m) = member P a.1 m

-- A vote is not by hub h.
abbrev Not_by : ℕ → Happening ℕ → Type 0
Not_by h (asked c) = Unit {0}
Not_by h (raised g b) = Unit {0}
Not_by h (reported g b x) = Unit {0}
Not_by h (proposed b p c) = Unit {0}
Not_by h (voted g b p c) = g ≢ h

-- A proposal is not at ballot b.
abbrev Not_proposed : ℕ → Happening ℕ → Type 0
Not_proposed b (asked c) = Unit {0}
Not_proposed b (raised g k) = Unit {0}
Not_proposed b (reported g k x) = Unit {0}
Not_proposed b (proposed k p c) = k ≢ b
Not_proposed b (voted g k p c) = Unit {0}

-- Then the ballot is free, at every place.
free : (b : ℕ) (s : History ℕ) → All (Not_proposed b) s → {p : ℕ} → Free s b p
free b s a c m = member (Not_proposed b) a m refl

-- A vote is at ballot 1 for place 1.
abbrev At_one : Happening ℕ → Type 0
At_one (asked c) = Unit {0}
At_one (raised g b) = Unit {0}
At_one (reported g b x) = Unit {0}
At_one (proposed b p c) = Unit {0}
At_one (voted g b p c) = (b ≡ 1) × (p ≡ 1)

-- ---- the first ballot

-- No vote at any place.
pub nil : ℕ → Seen ℕ
nil p = never

-- A hub of which there is no vote reports none.
reports_nil : {s : History ℕ} {h b : ℕ} → IsHub 3 h → promise s h ≡ b → All (Not_by h) s → Can trio s (reported h b nil)
unfolding nil
reports_nil {h} is e a = can_report {seen = nil} is e (λ p b c m. member (Not_by h) a m refl)

abbrev s₁ : History ℕ
s₁ = reported 2 1 nil ∷ (reported 1 1 nil ∷ (raised 2 1 ∷ (raised 1 1 ∷ (asked 8 ∷ (asked 7 ∷ [])))))

run₁ : Run trio s₁
unfolding promise put
run₁ =
    let zero_one : 0 < 1 = omega arith in
    then_step
    (then_step
    (then_step
    (then_step
    (then_step
    (then_step no_step (can_ask {c = 7}))
    (can_ask {c = 8}))
    (can_raise {b = 1} hub₁ zero_one))
    (can_raise {b = 1} hub₂ zero_one))
    (reports_nil hub₁ refl (omega arith)))
    (reports_nil hub₂ refl (omega arith))

abbrev s₂ : History ℕ
s₂ = voted 2 1 1 7 ∷ (voted 1 1 1 7 ∷ (proposed 1 1 7 ∷ s₁))

-- Hubs 1 and 2 vote at the ballot 1.
run₂ : Run trio s₂
unfolding promise put nil
run₂ =
    let one_one : 1 ≤ 1 = omega arith in
    then_step
    (then_step
    (then_step run₁
    (can_propose (pair 1 2) (λ h. nil) most₁₂
    (both (λ h. reported h 1 nil ∈ s₁) 1 2 (there here) here)
    (any (λ h q. refl) (client's (there (there (there (there (there here)))))))
    (free 1 s₁ (omega arith))))
    (can_vote hub₁ here one_one))
    (can_vote hub₂ (there here) one_one)

-- So 7 is chosen.
pub first : ChosenAt trio s₂ 1 1 7
first = votes_choose (pair 1 2) run₂ most₁₂ (both (λ h. voted h 1 1 7 ∈ s₂) 1 2 (there here) here)

-- ---- the second ballot

-- Hub 2 voted at ballot 1 for 7 at place 1, and for nothing else.
pub seven : ℕ → Seen ℕ
seven = put nil 1 (at 1 7)

-- What the hubs report at ballot 2.
pub seen : ℕ → ℕ → Seen ℕ
seen = put (λ h. nil) 2 seven

-- A hub that did, where all votes are of ballot 1 and place 1, reports that.
reports_seven :
    {s : History ℕ} {h b : ℕ} → IsHub 3 h → promise s h ≡ b → voted h 1 1 7 ∈ s → All At_one s → Can trio s (reported h b seven)
unfolding seven nil
reports_seven {s} {h} is e v a =
    can_report is e
    (put_cases (Highest s h) nil 1 (at 1 7)
    (v, λ k d m. let one = member At_one a m in omega arith)
    (λ p ne k d m. let one = member At_one a m in ne one.1))

abbrev s₃ : History ℕ
s₃ = reported 3 2 (seen 3) ∷ (reported 2 2 (seen 2) ∷ (raised 3 2 ∷ (raised 2 2 ∷ s₂)))

-- Hubs 2 and 3 go over to the ballot 2 and report.
run₃ : Run trio s₃
unfolding promise put seen
run₃ =
    let less : 1 < 2 = omega arith in
    let less' : 0 < 2 = omega arith in
    then_step
    (then_step
    (then_step
    (then_step run₂
    (can_raise hub₂ less))
    (can_raise hub₃ less'))
    (reports_seven hub₂ refl (there (there here)) (omega arith)))
    (reports_nil hub₃ refl (omega arith))

-- Whatever is proposed at the ballot 2 for the place 1 must be 7.
pub must : (c : ℕ) → Can trio s₃ (proposed 2 1 c) → c ≡ 7
must c k = binds (then_step run₃ k) (stays_at (λ e m. there (there (there (there (there m))))) first) here (omega arith)

-- And 7 may be proposed.
pub may : Can trio s₃ (proposed 2 1 7)
unfolding seen seven put nil pair
may =
    can_propose (pair 2 3) seen most₂₃
    (both (λ h. reported h 2 (seen h) ∈ s₃) 2 3 (there here) here)
    (highest 2 1 refl refl (λ g k d q e. both (λ g. seen g 1 ≡ at k d → k ≤ 1) 2 3 (λ e. let b : k ≡ 1 = cc in omega arith) (λ e. clash (cc)) g q e))
    (free 2 s₃ (omega arith))

abbrev s₄ : History ℕ
s₄ = voted 3 2 1 7 ∷ (voted 2 2 1 7 ∷ (proposed 2 1 7 ∷ s₃))

run₄ : Run trio s₄
unfolding promise put
run₄ =
    let two_two : 2 ≤ 2 = omega arith in
    then_step (then_step (then_step run₃ may) (can_vote hub₂ here two_two)) (can_vote hub₃ (there here) two_two)

-- Chosen once more, at the ballot 2 and by other hubs: the same command.
pub second : ChosenAt trio s₄ 2 1 7
second = votes_choose (pair 2 3) run₄ most₂₃ (both (λ h. voted h 2 1 7 ∈ s₄) 2 3 (there here) here)
