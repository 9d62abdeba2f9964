-- MultiPaxos, the machine that the hubs are mapped to (rule R36).
-- Its state is its history, the events so far, newest first: from it one reads each hub's promised ballot, the set of votes
-- (hub, ballot, place, command), and the proposals. Ballots and places are numbers, commands are of any type C; hubs are 1..size.
-- Departs from that rule in two things: that a client asks for a command is an event of its own, so that "any client's" can be said; and a
-- machine may have commands of its own, which it proposes without being asked where no vote was reported. The machine of these hubs has none.
-- Edges: before any promise a hub's promised ballot is 0. Assumes nothing.
use Rattle.std.specs.Prelude.{◌≡◌, Bool, true, List, [], ◌∷◌, ℕ, ◌≤◌, ◌<◌}
use Rattle.paxos.specs.Put.{put}
use Rattle.paxos.specs.Quorum.{IsHub, Majority}

-- ---- the machine

-- How many hubs it has, and which commands it may propose of itself.
pub record Machine (C : Type 0) : Type 0 where
  pub size : ℕ
  pub own : C → Bool

-- ---- the history

-- What a hub tells of a place: it never voted there, or the ballot and the command of its highest vote.
pub data Seen (C : Type 0) : Type 0 where
  never : Seen C
  at : (b : ℕ) (c : C) → Seen C

-- What happens.
pub data Happening (C : Type 0) : Type 0 where
  asked : (c : C) → Happening C  -- a client asks for the command c
  raised : (h b : ℕ) → Happening C  -- hub h promises the ballot b
  reported : (h b : ℕ) (seen : ℕ → Seen C) → Happening C  -- hub h reports at the ballot b, place by place
  proposed : (b p : ℕ) (c : C) → Happening C  -- c is proposed at the ballot b for the place p
  voted : (h b p : ℕ) (c : C) → Happening C  -- hub h votes at the ballot b for c at the place p

-- What has happened, newest first.
abbrev pub History : Type 0 → Type 0
History C = List (Happening C)

infix 50 ◌∈◌ ◌⊆◌
-- `a` stands in the list.
pub data ◌∈◌ {A : Type 0} : A → List A → Type 0 where
  here : {a : A} {s : List A} → a ∈ (a ∷ s)
  there : {a b : A} {s : List A} → a ∈ s → a ∈ (b ∷ s)

-- What stands in `s` stands in `t`.
abbrev pub ◌⊆◌ : {A : Type 0} → List A → List A → Type 0
◌⊆◌ {A} s t = (a : A) → a ∈ s → a ∈ t

module _ {C : Type 0} where
  -- Per hub its promised ballot: the one that it raised its promise to last.
  unfoldable pub promise : History C → ℕ → ℕ
  promise [] = λ h. 0
  promise (asked c ∷ s) = promise s
  promise (raised h b ∷ s) = put (promise s) h b
  promise (reported h b seen ∷ s) = promise s
  promise (proposed b p c ∷ s) = promise s
  promise (voted h b p c ∷ s) = promise s

  -- The highest vote of hub `h` at the place `p`: `never` if it cast none there.
  abbrev pub Highest : History C → ℕ → ℕ → Seen C → Type 0
  Highest s h p never = (b : ℕ) (c : C) → voted h b p c ∈ s → ⊥
  Highest s h p (at b c) = (voted h b p c ∈ s) × ((k : ℕ) (d : C) → voted h k p d ∈ s → k ≤ b)

  -- Nothing is proposed at the ballot `b` for the place `p`.
  abbrev pub Free : History C → ℕ → ℕ → Type 0
  Free s b p = (c : C) → proposed b p c ∈ s → ⊥

-- Some client asked for the command, or it is the machine's own.
pub data Wanted {C : Type 0} (M : Machine C) (s : History C) (c : C) : Type 0 where
  client's : asked c ∈ s → Wanted M s c
  machine's : M.own c ≡ true → Wanted M s c

-- What may be proposed for a place of which each hub `h` of the set `Q` reported `seen h`:
-- the command of their highest vote, or any client's, or one of the machine's own, if there is none.
pub data Pick {C : Type 0} (M : Machine C) (s : History C) (Q : ℕ → Bool) (seen : ℕ → Seen C) (c : C) : Type 0 where
  highest :
      (h b : ℕ) → Q h ≡ true → seen h ≡ at b c
      → ((g k : ℕ) (d : C) → Q g ≡ true → seen g ≡ at k d → k ≤ b)
      → Pick M s Q seen c
  any : ((h : ℕ) → Q h ≡ true → seen h ≡ never) → Wanted M s c → Pick M s Q seen c

-- ---- the steps

-- What may happen next.
pub data Can {C : Type 0} (M : Machine C) (s : History C) : Happening C → Type 0 where
  -- A client asks for a command, at any time.
  can_ask : {c : C} → Can M s (asked c)
  -- A hub raises its promise.
  can_raise : {h b : ℕ} → IsHub M.size h → promise s h < b → Can M s (raised h b)
  -- A hub reports, at the ballot that it has promised, its highest vote per place.
  can_report : {h b : ℕ} {seen : ℕ → Seen C} → IsHub M.size h → promise s h ≡ b → ((p : ℕ) → Highest s h p (seen p)) → Can M s (reported h b seen)
  -- Once a majority reported at the ballot, a command is proposed there that the reports allow, one for each place at most.
  can_propose :
      {b p : ℕ} {c : C} (Q : ℕ → Bool) (seen : ℕ → ℕ → Seen C)
      → Majority M.size Q
      → ((h : ℕ) → Q h ≡ true → reported h b (seen h) ∈ s)
      → Pick M s Q (λ h. seen h p) c
      → Free s b p
      → Can M s (proposed b p c)
  -- A hub votes for a proposal if its promise is not above it.
  can_vote : {h b p : ℕ} {c : C} → IsHub M.size h → proposed b p c ∈ s → promise s h ≤ b → Can M s (voted h b p c)

-- Zero or more steps from one history to another.
pub data Steps {C : Type 0} (M : Machine C) (s : History C) : History C → Type 0 where
  no_step : Steps M s s
  then_step : {t : History C} {e : Happening C} → Steps M s t → Can M t e → Steps M s (e ∷ t)

-- A history that the machine can come to, from nothing.
abbrev pub Run : {C : Type 0} → Machine C → History C → Type 0
Run M s = Steps M [] s

-- ---- what is chosen

-- At the ballot `b` the command `c` is chosen at the place `p`: that ballot's proposal has a majority's votes.
pub record ChosenAt {C : Type 0} (M : Machine C) (s : History C) (b p : ℕ) (c : C) : Type 0 where
  pub voters : ℕ → Bool
  pub most : Majority M.size voters
  pub proposal : proposed b p c ∈ s
  pub votes : (h : ℕ) → voters h ≡ true → voted h b p c ∈ s

-- The command `c` is chosen at the place `p`, at one ballot.
abbrev pub Chosen : {C : Type 0} (M : Machine C) → History C → ℕ → C → Type 0
Chosen M s p c = (b : ℕ) × ChosenAt M s b p c
