-- Every event keeps the household standing for the machine: hub by hub, the rest by the frame; and a home that is a household written
-- out upholds it. So an engine proves each event of its own hub, and that each deed is nothing or an event. Assumes nothing.
use Prim.Native.Nat.{ℕ}
use mathlib.Core.Path.{◌≡◌, refl, sym, ap}
use mathlib.Core.Bool.{Bool, true, false, cond}
use mathlib.Core.List.{List, ◌∷◌}
use mathlib.Core.Option.{Option, none, some}
use Rattle.kinds.specs.Sizes.{Group, is_hub}
use Rattle.paxos.specs.Put.{put}
use Rattle.paxos.specs.Paxos.{Machine, asked, ◌∈◌, here, there}
use Rattle.paxos.proofs.Member.{clash, new, nothing}
use Rattle.paxos.proofs.PutLaws.{put_cases}
use Rattle.views.specs.Hall.{Hall, first, asking}
use Rattle.views.specs.Acts.{Act, Acts, no_act, then_act}
use Rattle.views.proofs.Theorems.{acts_trans}
use Rattle.engine.specs.Home.{adding}
use Rattle.engine.specs.Rules.{Came, Rules, Household, fresh_household, met, Heard, Meetings, none_yet, meeting}
use Rattle.engine.specs.Facts.{Facts, Stands, FactsKept}

-- What is in a list after something may have joined it.
pub adding_cases : {A P : Type 0} {a : A} (x : Option A) {l : List A} → a ∈ adding x l → (x ≡ some a → P) → (a ∈ l → P) → P
unfolding adding
adding_cases none i f g = g i
adding_cases (some b) i f g = new i (λ e. f (ap some (sym e))) g

module _ {C : Type 0} {R : Rules C} {M : Machine C} {G : Group} {F : Facts R M} (K : FactsKept G F) where
  -- A fresh household stands for the machine at its start.
  pub fresh_stands : Stands F (fresh_household R) first
  fresh_stands =
      record { ghost = K.ghost; ground = K.ground; hubs = K.fresh; sent = λ m i. nothing i; among = K.fresh_among; orders = λ c i. nothing i }

  -- A later hall for which a household stands.
  pub record Onward (W : Household R) (H : Hall C) : Type 0 where
    pub hall : Hall C
    pub acts : Acts M H hall
    pub stands : Stands F W hall

  -- A client asks for a command, and a hub will take it.
  asked_stands : (W : Household R) (H : Hall C) (c : C) → Stands F W H → Stands F (record { states = W.states; sent = W.sent; orders = c ∷ W.orders }) (asking H c)
  asked_stands W H c ok =
      record {
        ghost = ok.ghost;
        ground = K.asked_ground H ok.ghost c ok.ground;
        hubs = λ h. K.asked_rooted H ok.ghost c h (W.states h) (ok.hubs h);
        sent = λ m i. K.asked_true H ok.ghost c m (ok.sent m i);
        among = ok.among;
        orders = λ d i. new i (λ e. let same : d ≡ c = cc in rw same here) (λ old. there (ok.orders d old));
      }

  module _ (h : ℕ) (o : R.Occasion) (hub : is_hub G.size h ≡ true) where
    -- What comes of the event.
    abbrev came : Household R → Came R.State R.Message
    came W = R.happens G h (W.states h) o

    -- The event is met, and what it proposes was asked for.
    meets :
        (W : Household R) (H : Hall C) → Stands F W H → Heard R W.sent o
        → ((c : C) → R.asks o ≡ some c → (came W).took_effect ≡ true → asked c ∈ H.past)
        → Onward (record { states = put W.states h (came W).state; sent = adding (came W).message W.sent; orders = W.orders }) H
    meets W H ok heard wants =
        let x = K.goes W H ok h o hub heard wants in
        record {
          hall = x.hall;
          acts = x.acts;
          stands =
              record {
                ghost = x.ghost;
                ground = x.ground;
                hubs =
                    put_cases (λ g s. F.Rooted x.hall x.ghost g s) W.states h (came W).state x.mine
                    (λ g ne. x.frame.others g (W.states g) ne (ok.hubs g));
                sent =
                    λ m i.
                    adding_cases (came W).message i (x.wrote m) (λ old. x.frame.said m (ok.sent m old));
                among = K.met_among W H ok h o hub heard;
                orders = λ c m. ok.orders c (x.quiet c m);
              };
        }

    -- After any event the household stands for the machine, which has taken zero or more steps.
    pub met_stands : (W : Household R) (H : Hall C) → Stands F W H → Heard R W.sent o → Onward (met R G W h o) H
    unfolding met adding
    met_stands W H ok heard = by (came W).took_effect refl (R.asks o) refl
      where
        by :
            (b : Bool) → (came W).took_effect ≡ b → (x : Option C) → R.asks o ≡ x
            → Onward
            (record {
              states = put W.states h (came W).state;
              sent = adding (came W).message W.sent;
              orders = cond b (adding x W.orders) W.orders;
            })
            H
        by false e x q = meets W H ok heard (λ c s t. clash (cc))
        by true e none q = meets W H ok heard (λ c s t. clash (cc))
        by true e (some c) q =
            let x =
            meets (record { states = W.states; sent = W.sent; orders = c ∷ W.orders }) (asking H c) (asked_stands W H c ok) heard
            (λ d s t. let same : d ≡ c = cc in rw same here) in
            record { hall = x.hall; acts = acts_trans (then_act no_act Act.to_ask) x.acts; stands = x.stands }

  -- Whatever has happened in a fresh household, it stands for a machine.
  pub meetings_stand : (W : Household R) → Meetings R G W → Onward W first
  meetings_stand W none_yet = record { hall = first; acts = no_act; stands = fresh_stands }
  meetings_stand W (meeting {W = X} r h hub o w) =
      let x = meetings_stand X r in
      let y = met_stands h o hub X x.hall x.stands w in
      record { hall = y.hall; acts = acts_trans x.acts y.acts; stands = y.stands }
