-- The layer is not empty: a hall of trio hubs in which hub 1 stands and leads on the reports of 1 and 2, a client asks for 7, hub 1
-- makes it at place 1, hub 2 takes it, and hub 1 reports it. Then hub 2 stands and leads term 2 on the reports of 2 and 3, and its
-- new view holds 7 there at its own term. Written as an engine would write its steps: move after move. Assumes nothing.
use mathlib.Core.Path.{◌≡◌, refl, sym, ◌∙◌, ap}
use mathlib.Core.Logic.{◌≢◌, ◌⊎◌, inl, inr}
use mathlib.Core.Bool.{Bool, true, false}
use Prim.Native.Nat.{ℕ, ◌≤◌}
use native.Mathlib.Omega.{arith}
use Rattle.paxos.specs.Put.{put}
use Rattle.paxos.specs.Paxos.{client's, Seen, never, at, proposed, voted, ◌∈◌, here, Pick, highest}
use Rattle.paxos.proofs.PutLaws.{put_cases, put_same, put_other}
use Rattle.paxos.proofs.Member.{clash}
use Rattle.paxos.proofs.Safe.{voted_proposed}
use Rattle.paxos.proofs.Sample.{trio, pair, both, most₁₂, most₂₃, hub₁, hub₂, hub₃}
use Rattle.views.specs.Hall.{View, with_term, with_holds, with_says, blank, gave, Hall, first, asking, Leads, Says}
use Rattle.views.specs.Acts.{Act}
use Rattle.views.specs.Faithful.{Known, Faithful}
use Rattle.views.specs.Moves.{Move}
use Rattle.views.proofs.FaithfulLaws.{act_faithful}
use Rattle.views.proofs.Theorems.{first_faithful, acts_faithful, acts_gifts, holds_voted}
use Rattle.views.proofs.Moves.{answer, extend, follow, lead, say_more, known_votes}

-- No vote at any place.
abbrev nil : ℕ → Seen ℕ
nil p = never

-- A fresh hub at the term t.
abbrev fresh : ℕ → View ℕ
fresh t = with_term blank t

-- ---- hub 1 leads term 1

-- Hub 1 stands: it reports to itself.
pub stands : (x : Move trio first 1 (fresh 1)) × (gave 1 1 1 nil ∈ x.hall.gifts)
stands = answer (first_faithful trio) hub₁ refl 1 1 (omega arith)

faithful₁ : Faithful trio stands.0.hall
faithful₁ = acts_faithful (first_faithful trio) stands.0.acts

-- Hub 2 answers it.
pub yields : (x : Move trio stands.0.hall 2 (fresh 1)) × (gave 2 1 1 nil ∈ x.hall.gifts)
yields = answer faithful₁ hub₂ (stands.0.others 2 (omega arith)) 1 1 (omega arith)

leads₁ : Leads trio yields.0.hall.gifts 1 1 (pair 1 2) (λ g. nil)
leads₁ =
    record {
      most = most₁₂;
      all = both (λ g. gave g 1 1 nil ∈ yields.0.hall.gifts) 1 2 (acts_gifts yields.0.acts _ stands.1) yields.1;
    }

-- A client asks for 7.
abbrev asked_hall : Hall ℕ
asked_hall = asking yields.0.hall 7

faithful₂ : Faithful trio asked_hall
faithful₂ = act_faithful (acts_faithful faithful₁ yields.0.acts) Act.to_ask

-- What is held after a vote at the ballot b for 7 at place 1.
pub seven : ℕ → ℕ → Seen ℕ
seven b = put nil 1 (at b 7)

-- Hub 1 makes it.
pub makes : Move trio asked_hall 1 (with_holds (fresh 1) (seven 1))
unfolding seven
makes =
    extend faithful₂ hub₁ (yields.0.others 1 (omega arith) ∙ stands.0.mine) (pair 1 2) (λ g. nil) 1 7 leads₁
    (λ g q. refl) (client's here) (λ c q. clash (cc))

faithful₃ : Faithful trio makes.hall
faithful₃ = acts_faithful faithful₂ makes.acts

-- A hub whose view holds 7 so has voted for it.
seven_voted : {H : Hall ℕ} {h : ℕ} → Faithful trio H → H.view h ≡ with_holds (fresh 1) (seven 1) → voted h 1 1 7 ∈ H.past
unfolding seven
seven_voted ok e = holds_voted ok (ap (λ v. v.holds 1) e ∙ put_same nil 1 (at 1 7))

-- Hub 2 takes it.
pub takes : Move trio makes.hall 2 (with_holds (fresh 1) (seven 1))
unfolding seven
takes =
    follow faithful₃ hub₂ (makes.others 2 (omega arith) ∙ yields.0.mine) 2 (seven 1)
    (λ p lt.
    put_cases (λ q x. (x ≡ never) ⊎ ((c : ℕ) × (x ≡ at 1 c) × (proposed 1 q c ∈ makes.hall.past))) nil 1 (at 1 7)
    (inr (7, refl, voted_proposed faithful₃.run (seven_voted faithful₃ makes.mine)))
    (λ q ne. inl refl)
    p)
    (λ p le. put_other nil 1 (at 1 7) p (omega arith))

faithful₄ : Faithful trio takes.hall
faithful₄ = acts_faithful faithful₃ takes.acts

-- Only place 1.
pub one : ℕ → Bool
one = put (λ p. false) 1 true

-- Hub 1 reports it.
pub tells : Move trio takes.hall 1 (with_says (with_holds (fresh 1) (seven 1)) one)
unfolding one seven
tells =
    let mine = takes.others 1 (omega arith) ∙ makes.mine in
    say_more hub₁ mine one
    (λ p w. clash (cc))
    (put_cases (λ q w. w ≡ true → (false ≡ true) ⊎ Known trio takes.hall.past 1 q (seven 1 q)) (λ q. false) 1 true
    (λ w.
    inr
    (known_votes faithful₄ (pair 1 2) (put_same nil 1 (at 1 7)) (omega arith) most₁₂
    (both (λ g. voted g 1 1 7 ∈ takes.hall.past) 1 2 (seven_voted faithful₄ mine) (seven_voted faithful₄ takes.mine))))
    (λ q ne w. clash (cc)))

-- So a command is reported.
pub reported : Says (tells.hall.view 1) 1 7
unfolding one seven
reported =
    let mine = tells.mine in
    record {
      ballot = 1;
      says = ap (λ v. v.says 1) mine ∙ put_same (λ p. false) 1 true;
      holds = ap (λ v. v.holds 1) mine ∙ put_same nil 1 (at 1 7);
    }

faithful₅ : Faithful trio tells.hall
faithful₅ = acts_faithful faithful₄ tells.acts

-- ---- hub 2 leads term 2

-- Hub 2 stands at the term 2.
pub stands₂ : (x : Move trio tells.hall 2 (with_holds (fresh 2) (seven 1))) × (gave 2 2 2 (seven 1) ∈ x.hall.gifts)
stands₂ = answer faithful₅ hub₂ (tells.others 2 (omega arith) ∙ takes.mine) 2 2 (omega arith)

faithful₆ : Faithful trio stands₂.0.hall
faithful₆ = acts_faithful faithful₅ stands₂.0.acts

-- Hub 3 answers it: it never heard of anything.
pub yields₂ : (x : Move trio stands₂.0.hall 3 (fresh 2)) × (gave 3 2 2 nil ∈ x.hall.gifts)
yields₂ =
    let ne : (g : ℕ) → g ≤ 2 → 3 ≢ g = omega arith in
    answer faithful₆ hub₃
    (stands₂.0.others 3 (ne 2 (omega arith)) ∙ tells.others 3 (ne 1 (omega arith)) ∙ takes.others 3 (ne 2 (omega arith))
    ∙ makes.others 3 (ne 1 (omega arith)) ∙ yields.0.others 3 (ne 2 (omega arith)) ∙ stands.0.others 3 (ne 1 (omega arith)))
    2 2 (omega arith)

-- What the two reported.
seen : ℕ → ℕ → Seen ℕ
seen = put (λ g. nil) 2 (seven 1)

leads₂ : Leads trio yields₂.0.hall.gifts 2 2 (pair 2 3) seen
unfolding seen put
leads₂ =
    record {
      most = most₂₃;
      all = both (λ g. gave g 2 2 (seen g) ∈ yields₂.0.hall.gifts) 2 3 (acts_gifts yields₂.0.acts _ stands₂.1) yields₂.1;
    }

-- At place 1 the reports allow 7; elsewhere all stays as it is.
choices :
    (p : ℕ) → (seven 2 p ≡ seven 1 p) ⊎ ((c : ℕ) × (seven 2 p ≡ at 2 c) × Pick trio yields₂.0.hall.past (pair 2 3) (λ g. seen g p) c)
unfolding seen seven put pair
choices =
    put_cases (λ p x. (x ≡ seven 1 p) ⊎ ((c : ℕ) × (x ≡ at 2 c) × Pick trio yields₂.0.hall.past (pair 2 3) (λ g. seen g p) c))
    nil 1 (at 2 7)
    (inr (7, refl, highest 2 1 refl refl (λ g k d q. both (λ g. seen g 1 ≡ at k d → k ≤ 1) 2 3 (λ e. let k= : k ≡ 1 = cc in omega arith) (λ e. clash (cc)) g q)))
    (λ p ne. inl (sym (put_other nil 1 (at 1 7) p ne)))

-- Hub 2 leads, with 7 at place 1 at its own term.
pub leads : Move trio yields₂.0.hall 2 (with_holds (fresh 2) (seven 2))
unfolding seven
leads =
    lead (acts_faithful faithful₆ yields₂.0.acts) hub₂ (yields₂.0.others 2 (omega arith) ∙ stands₂.0.mine) (pair 2 3) seen 2 (seven 2) leads₂
    (put_cases (λ p x. (c : ℕ) → x ≡ at 2 c → ⊥) nil 1 (at 1 7) (λ c q. clash (cc)) (λ p ne c q. clash (cc)))
    (λ p lt. choices p)
    (λ p le. let ne : p ≢ 1 = omega arith in put_other nil 1 (at 2 7) p ne ∙ sym (put_other nil 1 (at 1 7) p ne))
