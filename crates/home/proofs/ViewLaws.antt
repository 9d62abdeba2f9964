-- What a log counts as at each place. Assumes nothing.
use Prim.Native.Nat.{ℕ, zero, suc, ◌<◌}
use native.Mathlib.Omega.{arith}
use mathlib.Core.Path.{◌≡◌, refl, sym, ◌∙◌, ap, fun_ext}
use mathlib.Core.Bool.{Bool, true, false}
use mathlib.Core.List.{List, [], ◌∷◌}
use mathlib.Core.Option.{Option, none, some}
use lib.ListN.{length, get_elem?}
use Rattle.kinds.specs.Sizes.{between}
use Rattle.command.specs.Command.{Command}
use Rattle.command.specs.Entry.{Entry}
use Rattle.state.specs.State.{fresh}
use Rattle.rules.specs.Receive.{ballot_told}
use Rattle.rules.proofs.VoteLaws.{ballot_told_own}
use Rattle.kinds.proofs.BetweenLaws.{between_in, between_true}
use Rattle.paxos.specs.Paxos.{never, at}
use Rattle.paxos.proofs.Member.{clash}
use Rattle.views.specs.Hall.{blank}
use Rattle.home.specs.View.{entry_counts, holds_of, view_of}
use Rattle.kinds.proofs.AtLaws.{at_out}

-- ---- what a log counts as

-- The entry behind something that is told.
tells_is : (b : ℕ) (x : Option Entry) (k : ℕ) (c : Command) → entry_counts b x ≡ at k c → (k ≡ b) × ((e : Entry) × (x ≡ some e) × (c ≡ e.command))
tells_is b none k c h = clash (cc)
tells_is b (some e) k c h = (cc, (e, refl, cc))

-- The entry behind something that is held.
pub record Held (b : ℕ) (log : List Entry) (p k : ℕ) (c : Command) : Type 0 where
  pub index : ℕ
  pub entry : Entry
  pub place : p ≡ suc index
  pub is : get_elem? log index ≡ some entry
  pub ballot : k ≡ b
  pub command : c ≡ entry.command

-- There is one behind whatever is held.
pub holds_is : (b : ℕ) (log : List Entry) (p k : ℕ) (c : Command) → holds_of b log p ≡ at k c → Held b log p k c
unfolding holds_of
holds_is b log zero k c h = clash (cc)
holds_is b log (suc i) k c h =
    let r = tells_is b (get_elem? log i) k c h in
    record { index = i; entry = r.1.0; place = refl; is = r.1.1; ballot = r.0; command = r.1.2 }

-- An entry of the log is held.
pub holds_entry : (b : ℕ) (log : List Entry) (i : ℕ) (e : Entry) → get_elem? log i ≡ some e → holds_of b log (suc i) ≡ at b e.command
unfolding holds_of
holds_entry b log i e h = ap (entry_counts b) h

-- Beyond the log nothing is held.
pub holds_none : (b : ℕ) (log : List Entry) (p : ℕ) → length log < p → holds_of b log p ≡ never
unfolding holds_of
holds_none b log zero lt = refl
holds_none b log (suc i) lt = ap (entry_counts b) (at_out log i (omega arith))

-- An empty log holds nothing, whatever its ballot.
nothing_held : (b p : ℕ) → never ≡ holds_of b [] p
unfolding holds_of
nothing_held b zero = refl
nothing_held b (suc i) = refl

-- So what a log holds it holds at the ballot that its hub tells.
pub holds_told : (b : ℕ) (log : List Entry) → holds_of b log ≡ holds_of (ballot_told (length log) b) log
holds_told b [] = fun_ext (λ p. sym (nothing_held b p) ∙ nothing_held (ballot_told 0 b) p)
holds_told b (e ∷ log) = ap (λ (told : ℕ). holds_of told (e ∷ log)) (sym (ballot_told_own (length (e ∷ log)) b (omega arith)))

-- A place that is reported is i + 1 with i below the count of chosen places.
pub said_lt : (n p : ℕ) → between 1 n p ≡ true → (i : ℕ) × (p ≡ suc i) × (i < n)
said_lt n zero h = absurd (omega (arith, (between_true 1 n 0 h).0))
said_lt n (suc i) h = (i, refl, omega (arith, (between_true 1 n (suc i) h).1))

-- And the other way round.
pub lt_said : (n i : ℕ) → i < n → between 1 n (suc i) ≡ true
lt_said n i lt = between_in 1 n (suc i) (omega arith) (omega arith)

-- A fresh hub's view is blank.
pub fresh_view : blank ≡ view_of fresh.kept
unfolding fresh
fresh_view = λ i. record { term = 0; holds = fun_ext (nothing_held 0) i; says = fun_ext nothing_said i }
  where
    nothing_said : (p : ℕ) → false ≡ between 1 0 p
    nothing_said p = by (between 1 0 p) refl
      where
        by : (b : Bool) → between 1 0 p ≡ b → false ≡ b
        by true q = let (i, is, lt) = said_lt 0 p q in absurd (omega arith)
        by false q = refl
