-- What hubs come to, seen from MultiPaxos, whatever their engine. A hub's view: its term, what it holds at each place, and the places
-- that it reports as chosen. A hall: every hub's view, the machine's history, and one ghost, who gave whom its report (a gift).
-- An engine says which view each of its states has: a hub of these rules with the ballot b and n entries holds (b, command) at the places 1..n and
-- `never` elsewhere; an engine whose entries carry ballots of their own and may leave holes is as good. Assumes nothing.
use Rattle.std.specs.Prelude.{◌≡◌, Bool, true, false, List, [], ◌∷◌, ℕ}
use Rattle.paxos.specs.Put.{put}
use Rattle.paxos.specs.Quorum.{Majority}
use Rattle.paxos.specs.Paxos.{Machine, Seen, never, at, asked, reported, History, ◌∈◌}

-- ---- views

-- A hub, seen from the machine.
pub record View (C : Type 0) : Type 0 where
  pub term : ℕ  -- its term: the ballot that it has promised
  pub holds : ℕ → Seen C  -- at each place, nothing or a command with the ballot of the hub's vote for it
  pub says : ℕ → Bool  -- the places that it reports as chosen

module _ {C : Type 0} where
  -- The view with another term.
  abbrev pub with_term : View C → ℕ → View C
  with_term v t = record { term = t; holds = v.holds; says = v.says }

  -- The view with other things held.
  abbrev pub with_holds : View C → (ℕ → Seen C) → View C
  with_holds v f = record { term = v.term; holds = f; says = v.says }

  -- The view with other places reported as chosen.
  abbrev pub with_says : View C → (ℕ → Bool) → View C
  with_says v w = record { term = v.term; holds = v.holds; says = w }

  -- The view of a hub that has just voted at its term for `c` at the place `p`.
  abbrev pub with_vote : View C → ℕ → C → View C
  with_vote v p c = with_holds v (put v.holds p (at v.term c))

  -- The view of a fresh hub.
  abbrev pub blank : View C
  blank = record { term = 0; holds = λ p. never; says = λ p. false }

-- ---- halls

-- The ghost: hub h gave its report at the term t to hub l.
pub data Gift (C : Type 0) : Type 0 where
  gave : (h t l : ℕ) (seen : ℕ → Seen C) → Gift C

-- The machine's history, the gifts so far, and every hub's view.
pub record Hall (C : Type 0) : Type 0 where
  pub past : History C
  pub gifts : List (Gift C)
  pub view : ℕ → View C

module _ {C : Type 0} where
  -- Nothing has happened, and all hubs are fresh.
  abbrev pub first : Hall C
  first = record { past = []; gifts = []; view = λ h. blank }

  -- The hall after a client has asked for `c`.
  abbrev pub asking : Hall C → C → Hall C
  asking H c = record { past = asked c ∷ H.past; gifts = H.gifts; view = H.view }

  -- The hall after hub `h` has given its report to hub `l`: at its term, all that it holds.
  abbrev pub giving : Hall C → ℕ → ℕ → Hall C
  giving H h l =
      let v = H.view h in
      record { past = reported h v.term v.holds ∷ H.past; gifts = gave h v.term l v.holds ∷ H.gifts; view = H.view }

  -- The hall after hub `h` has come to the view `v`, the machine's history being `s` now.
  abbrev pub turned : Hall C → History C → ℕ → View C → Hall C
  turned H s h v = record { past = s; gifts = H.gifts; view = put H.view h v }

-- Hub `h` has given its report at the term `t` to nobody.
abbrev pub Ungiven : {C : Type 0} → List (Gift C) → ℕ → ℕ → Type 0
Ungiven {C} G h t = (l : ℕ) (x : ℕ → Seen C) → gave h t l x ∈ G → ⊥

-- A hub of the view `v` holds nothing of its term at the place `p`.
abbrev pub Open : {C : Type 0} → View C → ℕ → Type 0
Open {C} v p = (c : C) → v.holds p ≡ at v.term c → ⊥

-- Hub `h` leads the term `t`: a majority `Q` gave it their reports `seen` at `t`.
pub record Leads {C : Type 0} (M : Machine C) (G : List (Gift C)) (t h : ℕ) (Q : ℕ → Bool) (seen : ℕ → ℕ → Seen C) : Type 0 where
  pub most : Majority M.size Q
  pub all : (g : ℕ) → Q g ≡ true → gave g t h (seen g) ∈ G

-- A hub of the view `v` says that the command `c` is chosen at the place `p`.
pub record Says {C : Type 0} (v : View C) (p : ℕ) (c : C) : Type 0 where
  pub ballot : ℕ
  pub says : v.says p ≡ true
  pub holds : v.holds p ≡ at ballot c
