-- Laws of the tests of a message: what a head says of its state, and so whether a message contradicts it. Assumes nothing.
use Prim.Native.Nat.{ℕ}
use mathlib.Core.Path.{◌≡◌, refl, ◌∙◌, ap}
use mathlib.Core.Bool.{false, not, ◌&&◌, ◌||◌}
use mathlib.Core.Logic.{◌⊎◌, inl, inr}
use borrow.Author.Tests.{lt-ltb, ltb-true}
use Rattle.std.proofs.Common.{rules, tests}
use Rattle.std.specs.Ordering.{is_lt, nat_cmp}
use Rattle.kinds.proofs.BoolLaws.{same_test}
use mathlib.Core.List.{List}
use lib.Dec.{ltb, eqb}
use Rattle.kinds.specs.declared.Place.{Place}
use Rattle.kinds.specs.declared.Term.{Term}
use Rattle.kinds.specs.Role.{as_candidate, as_leader}
use Rattle.message.specs.declared.Body.{Body}
use Rattle.message.specs.declared.Body.TheVariants.{VoteRequest, VoteYes, VoteNo, Append, AppendYes, AppendNo}
use Rattle.state.specs.declared.Head.{Head}
use Rattle.state.specs.State.{Kept, Lost, follower, candidate, leader, State}
use Rattle.state.specs.Image.{role_of}
use Rattle.state.specs.Head.{head_of}
use Rattle.rules.specs.Events.{is_leader, is_candidate, len}
use Rattle.rules.specs.Receive.{contradicts, is_request}
use Rattle.refuse.specs.Received.{body_in}

-- ---- what a head says of its state

-- The numbers of the roles.
role_candidate : (k : Kept) (l : Lost) → eqb (role_of l) as_candidate ≡ is_candidate (record { kept = k; lost = l })
unfolding role_of is_candidate
role_candidate k follower = refl
role_candidate k (candidate voters gathered) = refl
role_candidate k (leader confirmed) = refl

role_leader : (k : Kept) (l : Lost) → eqb (role_of l) as_leader ≡ is_leader (record { kept = k; lost = l })
unfolding role_of is_leader
role_leader k follower = refl
role_leader k (candidate voters gathered) = refl
role_leader k (leader confirmed) = refl

module _ (h : Head) (s : State) (e : h ≡ head_of s.kept s.lost) where
  -- Its term.
  pub term_is : h.term.0 ≡ s.kept.term
  unfolding head_of
  term_is = ap (λ (x : Head). x.term.0) e

  -- Its ballot, the length of its log, its role.
  ballot_is : h.ballot.0 ≡ s.kept.ballot
  unfolding head_of
  ballot_is = ap (λ (x : Head). x.ballot.0) e

  length_is : h.length.0 ≡ len s
  unfolding head_of
  length_is = ap (λ (x : Head). x.length.0) e

  role_is : h.role ≡ role_of s.lost
  unfolding head_of
  role_is = ap (λ (x : Head). x.role) e

  candidate_is : eqb h.role as_candidate ≡ is_candidate s
  candidate_is = ap (λ (n : ℕ). eqb n as_candidate) role_is ∙ role_candidate s.kept s.lost

  leader_is : eqb h.role as_leader ≡ is_leader s
  leader_is = ap (λ (n : ℕ). eqb n as_leader) role_is ∙ role_leader s.kept s.lost

  -- ---- whether a message contradicts

  module _ (b : Body) (t : List ℕ) where
    -- A vote-yes.
    pub contradicts_yes :
        {last : Place} {ballot : Term} {count : ℕ} → b ≡ VoteYes last ballot count
        → (eqb h.role as_candidate && (not (eqb last.0 h.length.0) || ltb h.ballot.0 ballot.0)) ≡ contradicts s (body_in b t)
    unfolding contradicts
    contradicts_yes is = rw (is, candidate_is, length_is, ballot_is)

    -- An append.
    pub contradicts_append :
        {prev : Place} {prevterm : Term} {chosen : Place} {count : ℕ} → b ≡ Append prev prevterm chosen count
        → eqb h.role as_leader ≡ contradicts s (body_in b t)
    unfolding contradicts
    contradicts_append is = rw (is, leader_is)

    -- An append-yes.
    pub contradicts_end : {end : Place} → b ≡ AppendYes end → (eqb h.role as_leader && ltb h.length.0 end.0) ≡ contradicts s (body_in b t)
    unfolding contradicts
    contradicts_end is = rw (is, leader_is, length_is)

-- No other does.
pub contradicts_never :
    (s : State) {b : Body} (t : List ℕ)
    → ((last : Place) × (ballot : Term) × (b ≡ VoteRequest last ballot)) ⊎ (b ≡ VoteNo) ⊎ ((n : Place) × (b ≡ AppendNo n))
    → false ≡ contradicts s (body_in b t)
unfolding contradicts
contradicts_never s t (inl e) = rw e.2
contradicts_never s t (inr (inl e)) = rw e
contradicts_never s t (inr (inr e)) = rw e.1

-- ---- tests of numbers

-- Whether a number is below another.
pub lt_is : (a b : ℕ) → is_lt (nat_cmp a b) ≡ ltb a b
lt_is a b = same_test (is_lt (nat_cmp a b)) (ltb a b) (λ h. lt-ltb a b (search (rules, tests))) (λ h. let below = ltb-true a b h in search (rules, tests))

-- A body that is no vote-request is none.
pub other_request : (b : Body) (t : List ℕ) → ((last : Place) (ballot : Term) → b ≡ VoteRequest last ballot → ⊥) → false ≡ is_request (body_in b t)
unfolding is_request
other_request (VoteRequest last ballot) t other = absurd (other last ballot refl)
other_request (VoteYes last ballot count) t other = refl
other_request VoteNo t other = refl
other_request (Append prev prevterm chosen count) t other = refl
other_request (AppendYes end) t other = refl
other_request (AppendNo n) t other = refl
