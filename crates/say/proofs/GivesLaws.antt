-- Laws of what an event that may write a message returns and leaves, and of who leads. Assumes nothing.
use Prim.Native.Nat.{ℕ}
use native.Mathlib.Omega.{arith}
use mathlib.Core.Path.{◌≡◌, refl, sym, ◌∙◌, ap}
use mathlib.Core.Bool.{true, false}
use mathlib.Core.List.{List}
use mathlib.Core.Option.{some}
use lib.Dec.{eqb}
use Rattle.std.specs.Prelude.{Ok, Err}
use Rattle.kinds.specs.Sizes.{Who}
use Rattle.kinds.specs.Role.{as_leader}
use Rattle.kinds.specs.Refusal.{number_of}
use Rattle.kinds.specs.declared.Refusal.{Refusal}
use Rattle.message.specs.Message.{Message}
use Rattle.message.specs.Legal.{legal_message}
use Rattle.state.specs.declared.Head.{Head}
use Rattle.state.specs.State.{Kept, Lost, follower, candidate, leader, State}
use Rattle.state.specs.Image.{role_of, image, state_in}
use Rattle.rules.specs.Outcome.{Next, done, goes, refuses}
use Rattle.rules.specs.Events.{is_leader}
use Rattle.rules.specs.Step.{over, written}
use Rattle.promise.specs.Promise.{left_by, Gives}
use Rattle.promise.specs.Append.{Tested}
use Rattle.promise.proofs.PromiseLaws.{ready_role}
use Rattle.promise.proofs.LostLaws.{not_leading}
use Rattle.say.specs.Said.{Said}
use Rattle.say.proofs.SpokenLaws.{said_small}

-- ---- what is returned and left

-- A refusal leaves every byte.
pub refused_gives :
    {n : Next} (s : State) (l : List ℕ) {out : List ℕ} (e : Refusal) → eqb (number_of e) done ≡ false → n ≡ refuses s (number_of e) → Gives n l out (Err e) l out
unfolding left_by written over
refused_gives s l e other is =
    rw is (record { outcome = refl; bytes = refl; bytes_fit = omega arith; state_left = rw other; output_left = refl })

-- An event that takes effect and writes a message.
pub said_gives :
    {n : Next} (t : State) (m : Message) {l l' out out' : List ℕ} {bytes : ℕ} → n ≡ goes t (some m) → l' ≡ image t → legal_message m ≡ true
    → Said m out bytes out' → Gives n l out (Ok bytes) l' out'
unfolding left_by written
said_gives t m is left legal said =
    rw is
    (record { outcome = refl; bytes = said.returned; bytes_fit = said_small legal said; state_left = left; output_left = said.output_left })

-- ---- who leads

leader_is : (k : Kept) (l : Lost) → role_of l ≡ as_leader → is_leader (record { kept = k; lost = l }) ≡ true
unfolding is_leader role_of
leader_is k follower h = absurd (omega arith)
leader_is k (candidate voters gathered) h = absurd (omega arith)
leader_is k (leader confirmed) h = refl

module _ (w : Who) (h : Head) (l : List ℕ) (t : Tested w h l) where
  same_role : h.role ≡ role_of (state_in l).lost
  same_role = ap (λ (x : Head). x.role) t.head ∙ ready_role w l t.ready

  -- A leader's head: a leader.
  pub tested_leader : h.role ≡ as_leader → is_leader (state_in l) ≡ true
  tested_leader role = leader_is (state_in l).kept (state_in l).lost (sym same_role ∙ role)

  -- Another head: another role.
  pub tested_other : (h.role ≡ as_leader → ⊥) → is_leader (state_in l) ≡ false
  tested_other role = not_leading w l t.ready (λ f. role (ap (λ (x : Head). x.role) t.head ∙ f))
