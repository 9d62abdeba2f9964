-- What the machine guarantees, for any number of hubs and every run. Assumes nothing.
-- One command at most is ever chosen at a place (`agree`), what is chosen stays chosen (`stays`), and some client asked for it, or
-- it is the machine's own (`valid`). It rests on two facts that are passed on here: two majorities share a hub (`share`), and at most one command is
-- proposed per ballot and place (`unique`). `binds` is the reason for agreement: from the ballot at which a command was chosen on,
-- nothing else is proposed for that place.
use mathlib.Core.Path.{◌≡◌, sym}
use mathlib.Core.List.{◌∷◌}
use mathlib.Core.Bool.{Bool, true}
use Prim.Native.Nat.{ℕ, ◌≤◌}
use native.Mathlib.Omega.{arith}
use native.Mathlib.Decide.{dec_le}
use Rattle.paxos.specs.Quorum.{Majority}
use Rattle.paxos.specs.Paxos.{Machine, Happening, Wanted, client's, machine's, proposed, voted, History, ◌∈◌, here, there, ◌⊆◌, highest, any, Can, can_propose, Steps, no_step, then_step, Run, ChosenAt, Chosen}
pub use Rattle.paxos.proofs.QuorumLaws.{Shared, share}
pub use Rattle.paxos.proofs.Safe.{unique}
use Rattle.paxos.proofs.Steps.{steps_trans, steps_keep}
use Rattle.paxos.proofs.Safe.{voted_proposed, told, held_by}

-- What was wanted still is.
pub wanted_on : {C : Type 0} {M : Machine C} {s t : History C} {c : C} → s ⊆ t → Wanted M s c → Wanted M t c
wanted_on sub (client's a) = client's (sub _ a)
wanted_on sub (machine's own) = machine's own

module _ {C : Type 0} {M : Machine C} where
  -- Where a command is chosen at a ballot, every proposal at that ballot or a higher one is of that command.
  pub binds : {s : History C} {l b p : ℕ} {c d : C} → Run M s → ChosenAt M s l p c → proposed b p d ∈ s → l ≤ b → d ≡ c
  binds {s} {l} {p} {c} r x m le = held_by M s r l p c x r (λ e y. y) m le

  -- Two commands that are chosen at a place are one.
  pub agree : {s : History C} {p : ℕ} {c d : C} → Run M s → Chosen M s p c → Chosen M s p d → c ≡ d
  agree r (b, x) (k, y) =
      elim (dec_le b k) [ yes le ↦ sym (binds r x y.proposal le) | no gt ↦ binds r y x.proposal (omega arith) ]

  -- What is chosen stays chosen, at the same ballot, whatever happens next.
  pub stays_at : {s t : History C} {b p : ℕ} {c : C} → s ⊆ t → ChosenAt M s b p c → ChosenAt M t b p c
  stays_at sub x = record { voters = x.voters; most = x.most; proposal = sub _ x.proposal; votes = λ h q. sub _ (x.votes h q) }

  -- What is chosen stays chosen.
  pub stays : {s t : History C} {p : ℕ} {c : C} → Steps M s t → Chosen M s p c → Chosen M t p c
  stays x (b, y) = (b, stays_at (steps_keep x) y)

  -- Two commands that are chosen at a place are one, also if one was chosen long before the other.
  pub agree_later : {s t : History C} {p : ℕ} {c d : C} → Run M s → Steps M s t → Chosen M s p c → Chosen M t p d → c ≡ d
  agree_later r x a b = agree (steps_trans r x) (stays x a) b

  -- One step more: what is proposed was wanted, if that is so of the older proposals.
  wanted_step :
      {s : History C} {b p : ℕ} {c : C} {e : Happening C}
      → Run M s → Can M s e → ((k q : ℕ) (a : C) → proposed k q a ∈ s → Wanted M s a)
      → proposed b p c ∈ (e ∷ s) → Wanted M (e ∷ s) c
  wanted_step r k older (there m) = wanted_on (λ e x. there x) (older _ _ _ m)
  wanted_step r (can_propose Q seen most rs (any none a) free) older here = wanted_on (λ e x. there x) a
  wanted_step r (can_propose Q seen most rs (highest h k q e hi) free) older here =
      wanted_on (λ e x. there x) (older _ _ _ (voted_proposed r (told r (rs h q) e)))

  -- What is proposed some client asked for, or it is the machine's own.
  pub proposed_wanted : {s : History C} {b p : ℕ} {c : C} → Run M s → proposed b p c ∈ s → Wanted M s c
  proposed_wanted no_step m = elim m [ ]
  proposed_wanted (then_step r k) m = wanted_step r k (λ b p c. proposed_wanted {b = b} {p = p} {c = c} r) m

  -- What is chosen some client asked for, or it is the machine's own.
  pub valid : {s : History C} {p : ℕ} {c : C} → Run M s → Chosen M s p c → Wanted M s c
  valid r (b, x) = proposed_wanted r x.proposal

  -- A majority's votes at one ballot choose: what they voted for was proposed.
  pub votes_choose :
      {s : History C} {b p : ℕ} {c : C} (Q : ℕ → Bool) → Run M s → Majority M.size Q
      → ((h : ℕ) → Q h ≡ true → voted h b p c ∈ s)
      → ChosenAt M s b p c
  votes_choose Q r most vs =
      let one = share M.size Q Q most most in
      record { voters = Q; most = most; proposal = voted_proposed r (vs one.hub one.first); votes = vs }
