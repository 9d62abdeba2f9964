-- What hubs may do, one thing at a time, whatever the engine: six actions on halls, each with its premises. A premise is on the
-- hub's own view, or is a fact of the history or of the gifts, as messages carry them; those stay true.
-- What an engine's hub does in one step is a short sequence of these. Where an engine may propose of itself (a skip in a hole), it
-- asks for that command first. Assumes nothing.
use Rattle.std.specs.Prelude.{◌≡◌, ◌⊎◌, Bool, true, ◌∷◌, ℕ, ◌<◌}
use Rattle.paxos.specs.Quorum.{IsHub}
use Rattle.paxos.specs.Paxos.{Machine, Seen, raised, proposed, voted, ◌∈◌, Pick}
use Rattle.views.specs.Hall.{with_term, with_says, with_vote, Hall, asking, giving, turned, Ungiven, Open, Leads}
use Rattle.views.specs.Faithful.{Known}

-- One action.
pub data Act {C : Type 0} (M : Machine C) (H : Hall C) : Hall C → Type 0 where
  -- A client asks for a command.
  to_ask : {c : C} → Act M H (asking H c)
  -- A hub raises its term.
  to_raise : {h t : ℕ} → IsHub M.size h → (H.view h).term < t → Act M H (turned H (raised h t ∷ H.past) h (with_term (H.view h) t))
  -- A hub gives its report at its term to hub l: once.
  to_give : {h l : ℕ} → IsHub M.size h → Ungiven H.gifts h (H.view h).term → Act M H (giving H h l)
  -- The leader of its term, which holds nothing of that term at the place, proposes what the reports allow and votes for it.
  to_make :
      {h p : ℕ} {c : C} (Q : ℕ → Bool) (seen : ℕ → ℕ → Seen C) → IsHub M.size h
      → Leads M H.gifts (H.view h).term h Q seen
      → Pick M H.past Q (λ g. seen g p) c
      → Open (H.view h) p
      → Act M H
      (turned H (voted h (H.view h).term p c ∷ (proposed (H.view h).term p c ∷ H.past)) h (with_vote (H.view h) p c))
  -- A hub takes what is proposed at its term: it votes for it.
  to_take :
      {h p : ℕ} {c : C} → IsHub M.size h → proposed (H.view h).term p c ∈ H.past
      → Act M H (turned H (voted h (H.view h).term p c ∷ H.past) h (with_vote (H.view h) p c))
  -- A hub reports more places as chosen, where what it holds is settled.
  to_say :
      {h : ℕ} (w : ℕ → Bool)
      → ((p : ℕ) → (H.view h).says p ≡ true → w p ≡ true)
      → ((p : ℕ) → w p ≡ true → ((H.view h).says p ≡ true) ⊎ Known M H.past (H.view h).term p ((H.view h).holds p))
      → Act M H (turned H H.past h (with_says (H.view h) w))

-- Zero or more actions, one after the other.
pub data Acts {C : Type 0} (M : Machine C) (H : Hall C) : Hall C → Type 0 where
  no_act : Acts M H H
  then_act : {I J : Hall C} → Acts M H I → Act M I J → Acts M H J
