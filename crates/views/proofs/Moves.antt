-- The moves of a hub, as an engine uses them: reach a term, answer a candidate, vote place by place (lead, extend, take), report.
-- Each takes the hub's view `v` and that it is the hall's, so that an engine can put its own state's view there; `then` joins two.
-- Assumes nothing.
use mathlib.Core.Path.{◌≡◌, refl, sym, ◌∙◌, ap, fun_ext}
use mathlib.Core.Logic.{◌⊎◌, ⊎_elim}
use mathlib.Core.Bool.{Bool, true}
use mathlib.Core.List.{◌∷◌}
use Prim.Native.Nat.{ℕ, zero, suc, ◌≤◌, ◌<◌}
use native.Mathlib.Omega.{arith}
use native.Mathlib.Nat.{eq-or-lt_of_le}
use Rattle.paxos.specs.Put.{put}
use Rattle.paxos.specs.Quorum.{IsHub, Majority}
use Rattle.paxos.specs.Paxos.{Wanted, Machine, Seen, never, at, Happening, asked, raised, reported, proposed, voted, History, ◌∈◌, here, there, ◌⊆◌, Pick, highest, any}
use Rattle.paxos.proofs.PutLaws.{put_cases, put_same, put_other}
use Rattle.paxos.proofs.Member.{as_in}
use Rattle.views.specs.Hall.{View, with_term, with_holds, with_says, with_vote, gave, Hall, turned, Ungiven, Open, Leads}
use Rattle.paxos.proofs.Theorems.{wanted_on, binds, votes_choose}
use Rattle.views.specs.Faithful.{Settled, Known, Faithful}
use Rattle.views.specs.Acts.{Act, no_act, then_act}
use Rattle.views.specs.Moves.{Move, Turn, keep, take, make}
use Rattle.views.proofs.FaithfulLaws.{leads_on}
use Rattle.views.proofs.Theorems.{acts_trans, acts_keep, acts_gifts}

-- ---- moves in general

module _ {C : Type 0} {M : Machine C} where
  -- A hub stays where it is.
  abbrev pub stay : {H : Hall C} {h : ℕ} {v : View C} → H.view h ≡ v → Move M H h v
  stay {H} e = record { hall = H; acts = no_act; mine = e; others = λ g ne. refl; quiet = λ c m. m }

  -- A hub moves on.
  abbrev pub then : {H : Hall C} {h : ℕ} {v w : View C} (x : Move M H h v) → Move M x.hall h w → Move M H h w
  then x y =
      record {
        hall = y.hall;
        acts = acts_trans x.acts y.acts;
        mine = y.mine;
        others = λ g ne. y.others g ne ∙ x.others g ne;
        quiet = λ c m. x.quiet c (y.quiet c m);
      }

  -- The same move, its view under another name.
  abbrev pub as_view : {H : Hall C} {h : ℕ} {v w : View C} → Move M H h v → v ≡ w → Move M H h w
  as_view x e = record { hall = x.hall; acts = x.acts; mine = x.mine ∙ e; others = x.others; quiet = x.quiet }

  -- All views after a move: the hub's own is the new one, all others are as they were.
  pub move_views :
      {H : Hall C} {h : ℕ} {v : View C} (x : Move M H h v) (f : ℕ → View C) → ((g : ℕ) → H.view g ≡ f g)
      → (g : ℕ) → x.hall.view g ≡ put f h v g
  move_views {h} {v} x f old = put_cases (λ g w. x.hall.view g ≡ w) f h v x.mine (λ g ne. x.others g ne ∙ old g)

  -- One action of a hub is a move.
  abbrev moved :
      {H : Hall C} {h : ℕ} {u v : View C} {s : History C}
      → Act M H (turned H s h u) → u ≡ v → ((c : C) → asked c ∈ s → asked c ∈ H.past) → Move M H h v
  moved {H} {h} {u} {s} a e quiet =
      record {
        hall = turned H s h u;
        acts = then_act no_act a;
        mine = put_same H.view h u ∙ e;
        others = λ g ne. put_other H.view h u g ne;
        quiet = quiet;
      }

-- The event is no client's.
abbrev Silent : {C : Type 0} → Happening C → Type 0
Silent (asked c) = ⊥
Silent (raised h b) = Unit {0}
Silent (reported h b seen) = Unit {0}
Silent (proposed b p c) = Unit {0}
Silent (voted h b p c) = Unit {0}

-- By such an event nothing is asked for.
unasked : {C : Type 0} {s : History C} {e : Happening C} → Silent e → (c : C) → asked c ∈ (e ∷ s) → asked c ∈ s
unasked o c here = absurd o
unasked o c (there m) = m

-- Two views that hold the same at each place are one.
pub same_holds : {C : Type 0} (v : View C) {f g : ℕ → Seen C} → ((p : ℕ) → f p ≡ g p) → with_holds v f ≡ with_holds v g
same_holds v q = λ i. record { term = v.term; holds = fun_ext q i; says = v.says }

-- What the reports allow they go on allowing.
pick_on :
    {C : Type 0} {M : Machine C} {s t : History C} {Q : ℕ → Bool} {seen : ℕ → Seen C} {c : C} → s ⊆ t → Pick M s Q seen c → Pick M t Q seen c
pick_on sub (highest h b q e hi) = highest h b q e hi
pick_on sub (any none w) = any none (wanted_on sub w)

-- ---- the moves

module _ {C : Type 0} {M : Machine C} {H : Hall C} {h : ℕ} (is : IsHub M.size h) {v : View C} (e : H.view h ≡ v) where
  -- A hub reaches a term, if it is not below its own.
  pub reach : (t : ℕ) → v.term ≤ t → Move M H h (with_term v t)
  reach t le =
      ⊎_elim
      (λ same. stay (e ∙ (λ i. record { term = same i; holds = v.holds; says = v.says })))
      (λ lt. moved (Act.to_raise is (omega (arith, ap (λ u. u.term) e))) (ap (λ u. with_term u t) e) (unasked tt))
      (eq-or-lt_of_le le)

  -- A hub that has not yet given its report at its term gives it to hub `l`.
  hand :
      (l : ℕ) → Ungiven H.gifts h v.term
      → (x : Move M H h v) × (gave h v.term l v.holds ∈ x.hall.gifts)
  hand l un = (
    record { hall = _; acts = then_act no_act (Act.to_give {l = l} is (rw e un)); mine = e; others = λ g ne. refl; quiet = unasked tt },
    as_in (ap (λ u. gave h u.term l u.holds) (sym e)) here,
  )

  -- A hub reports more places as chosen.
  pub say_more :
      (w : ℕ → Bool)
      → ((p : ℕ) → v.says p ≡ true → w p ≡ true)
      → ((p : ℕ) → w p ≡ true → (v.says p ≡ true) ⊎ Known M H.past v.term p (v.holds p))
      → Move M H h (with_says v w)
  say_more w more all = moved (Act.to_say w (rw e more) (rw e all)) (ap (λ u. with_says u w) e) (λ c m. m)

  -- A hub comes to hold something at one place.
  pub turn : (p : ℕ) (x : Seen C) → Turn M H h v p x → Move M H h (with_holds v (put v.holds p x))
  turn p x (keep q) = stay (e ∙ same_holds v (put_cases (λ k y. v.holds k ≡ y) v.holds p x (sym q) (λ k ne. refl)))
  turn p x (take c q m) = rw q (moved (Act.to_take is (rw e m)) (ap (λ u. with_vote u p c) e) (unasked tt))
  turn p x (make c Q seen q l pick un) =
      rw q
      (moved (Act.to_make Q seen is (rw e l) pick (rw e un)) (ap (λ u. with_vote u p c) e) (λ d m. unasked tt d (unasked tt d m)))

-- After actions of the hub, in which it kept its term and what it holds at a place, the same turns are open to it there.
turn_on :
    {C : Type 0} {M : Machine C} {H : Hall C} {h : ℕ} {v : View C} {f : ℕ → Seen C} {p : ℕ} {x : Seen C}
    → Faithful M H → (m : Move M H h (with_holds v f)) → f p ≡ v.holds p
    → Turn M H h v p x → Turn M m.hall h (with_holds v f) p x
turn_on ok m e (keep q) = keep (q ∙ sym e)
turn_on ok m e (take c q n) = take c q (acts_keep ok m.acts _ n)
turn_on ok m e (make c Q seen q l pick un) =
    make c Q seen q (leads_on (acts_gifts m.acts) l) (pick_on (acts_keep ok m.acts) pick) (λ d k. un d (sym e ∙ k))

module _ {C : Type 0} {M : Machine C} {H : Hall C} (ok : Faithful M H) {h : ℕ} (is : IsHub M.size h) {v : View C} (e : H.view h ≡ v) where
  -- A hub raises its term and gives its report to hub `l`: to a candidate, or to itself.
  pub answer : (t l : ℕ) → v.term < t → (x : Move M H h (with_term v t)) × (gave h t l v.holds ∈ x.hall.gifts)
  unfolding hand
  answer t l lt =
      let up : (H.view h).term < t = omega (arith, ap (λ u. u.term) e) in
      let a : Act M H (turned H (raised h t ∷ H.past) h (with_term (H.view h) t)) = Act.to_raise is up in
      let x : Move M H h (with_term v t) = moved a (ap (λ u. with_term u t) e) (unasked tt) in
      let (y, given) =
      hand is (put_same H.view h _ ∙ ap (λ u. with_term u t) e) l
      (λ m z (g : gave h t m z ∈ H.gifts). absurd (omega (arith, (ok.hubs h).early t m z g))) in
      (then x y, given)

  -- One place more: what is held there stays until the places before it are done.
  vote_last :
      (n : ℕ) (new : ℕ → Seen C) → Turn M H h v n (new n)
      → Move M H h (with_holds v (put new n (v.holds n)))
      → Move M H h (with_holds v new)
  vote_last n new t x =
      let y = turn is x.mine n (new n) (turn_on ok x (put_same new n (v.holds n)) t) in
      let same = same_holds v (put_cases (λ q y. y ≡ new q) (put new n (v.holds n)) n (new n) refl (put_other new n (v.holds n))) in
      then x (rw (sym same) y)

  -- A hub comes to hold `new`, place by place below n: at each of them what it holds, or what it takes or makes.
  pub votes :
      (n : ℕ) (new : ℕ → Seen C)
      → ((p : ℕ) → p < n → Turn M H h v p (new p))
      → ((p : ℕ) → n ≤ p → new p ≡ v.holds p)
      → Move M H h (with_holds v new)
  votes zero new turns rest = stay (e ∙ same_holds v (λ p. sym (rest p (omega arith))))
  votes (suc n) new turns rest =
      vote_last n new (turns n (omega arith))
      (votes n (put new n (v.holds n))
      (λ p lt. rw (put_other new n (v.holds n) p (omega arith)) (turns p (omega arith)))
      (put_cases (λ q y. n ≤ q → y ≡ v.holds q) new n (v.holds n) (λ z. refl) (λ q ne z. rest q (omega arith))))

  -- The leader of its term, which holds nothing of it yet, makes its new log: below n, at each place what it holds (to stay of a lower
  -- ballot), or a command that the reports allow there.
  pub lead :
      (Q : ℕ → Bool) (seen : ℕ → ℕ → Seen C) (n : ℕ) (new : ℕ → Seen C)
      → Leads M H.gifts v.term h Q seen
      → ((p : ℕ) → Open v p)
      → ((p : ℕ) → p < n → (new p ≡ v.holds p) ⊎ ((c : C) × (new p ≡ at v.term c) × Pick M H.past Q (λ g. seen g p) c))
      → ((p : ℕ) → n ≤ p → new p ≡ v.holds p)
      → Move M H h (with_holds v new)
  lead Q seen n new l un each = votes n new (λ p lt. ⊎_elim keep (λ (c, q, k). make c Q seen q l k (un p)) (each p lt))

  -- The leader adds a command that is wanted at a place where none of its majority reported a vote and it holds nothing of its term.
  pub extend :
      (Q : ℕ → Bool) (seen : ℕ → ℕ → Seen C) (p : ℕ) (c : C)
      → Leads M H.gifts v.term h Q seen
      → ((g : ℕ) → Q g ≡ true → seen g p ≡ never)
      → Wanted M H.past c
      → Open v p
      → Move M H h (with_vote v p c)
  extend Q seen p c l none a un = turn is e p _ (make c Q seen refl l (any none a) un)

  -- A hub takes some of what is proposed at its term, below n; what it holds elsewhere stays.
  pub follow :
      (n : ℕ) (new : ℕ → Seen C)
      → ((p : ℕ) → p < n → (new p ≡ v.holds p) ⊎ ((c : C) × (new p ≡ at v.term c) × (proposed v.term p c ∈ H.past)))
      → ((p : ℕ) → n ≤ p → new p ≡ v.holds p)
      → Move M H h (with_holds v new)
  follow n new each = votes n new (λ p lt. ⊎_elim keep (λ (c, q, m). take c q m) (each p lt))

-- ---- what a hub may report

module _ {C : Type 0} {M : Machine C} {H : Hall C} (ok : Faithful M H) where
  -- What a majority voted for at one ballot, up to the hub's term, and the hub holds.
  pub known_votes :
      {b t p k : ℕ} {c : C} {x : Seen C} (Q : ℕ → Bool) → x ≡ at k c → b ≤ t → Majority M.size Q
      → ((g : ℕ) → Q g ≡ true → voted g b p c ∈ H.past)
      → Known M H.past t p x
  known_votes {b} {k} {c} Q e le most vs =
      record { ballot = k; command = c; is = e; settled = (b, le, votes_choose Q ok.run most vs) }

  -- What is settled up to a term and proposed at it, if the hub holds the proposal.
  pub known_settled :
      {t p k : ℕ} {c d : C} {x : Seen C} → Settled M H.past t p c → proposed t p d ∈ H.past → x ≡ at k d → Known M H.past t p x
  known_settled {k} {d} (b, le, ch) m e =
      record { ballot = k; command = d; is = e; settled = (b, le, rw (binds ok.run ch m le) ch) }
