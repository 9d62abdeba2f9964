-- Demand 3 for any engine that upholds a hall over its homes: the machine runs along (`simulation`), every reached home is explained by
-- a history of the machine (`explained`), no two hubs ever report different commands at one place (`agreement`), a report stays
-- (`stability`), and a hub took what is reported from a client, or it is the machine's own (`validity`). Assumes nothing.
use Prim.Native.Nat.{ℕ}
use mathlib.Core.Path.{◌≡◌, refl, sym, ◌∙◌, ap, subst}
use mathlib.Core.Logic.{◌⊎◌, inl, inr}
use mathlib.Core.Bool.{true}
use mathlib.Core.List.{List, [], ◌∷◌}
use Rattle.kinds.specs.Sizes.{Group}
use Rattle.paxos.specs.Paxos.{Wanted, client's, machine's, ◌∈◌, Highest}
use Rattle.views.specs.Hall.{View, Hall, first, Says}
use Rattle.views.proofs.Theorems.{acts_trans, acts_steps, says_chosen, says_agree, says_stay, says_valid}
use Rattle.engine.specs.Engine.{Engine, machine_of}
use Rattle.engine.specs.Home.{Home, fresh_home, after, after_all, AllFair, Runs, Reached}
use Rattle.engine.specs.Safe.{Reports, Explains, Explained, Simulation, Agreement, Stability, Validity, Safety}
use Rattle.engine.specs.Upholds.{Going, Upholds}
use Rattle.views.specs.Acts.{Acts}

module _ {E : Engine} {G : Group} (U : Upholds E G) where
  -- ---- runs

  -- Over any deeds there stands a later hall.
  going_all : (ds : List E.Deed) (H : Home E) (J : Hall E.Command) → U.Over H J → AllFair E G H ds → Going E G U.Over (after_all E G H ds) J
  going_all [] H J o f = record { hall = J; acts = Acts.no_act; over = o }
  going_all (d ∷ ds) H J o (f, fs) =
      let x = U.deed H J d o f in
      let y = going_all ds (after E G H d) x.hall x.over fs in
      record { hall = y.hall; acts = acts_trans x.acts y.acts; over = y.over }

  going : (H I : Home E) (J : Hall E.Command) → U.Over H J → Runs E G H I → Going E G U.Over I J
  going H I J o r = subst (λ (K : Home E). Going E G U.Over K J) r.ends (going_all r.deeds H J o r.fair)

  -- Over every home that started fresh stands a hall.
  pub reached : (H : Home E) → Reached E G H → Going E G U.Over H first
  reached H r = going (fresh_home E) H first U.fresh r.runs

  -- ---- what stands over a home

  module _ (H : Home E) (J : Hall E.Command) (o : U.Over H J) where
    -- What a hub reports its view says, and the other way round.
    report_said : (h p : ℕ) (c : E.Command) → Reports E H h p c → Says (J.view h) p c
    report_said h p c r = subst (λ (v : View E.Command). Says v p c) (sym (U.views H J o h)) ((U.says (H.stored h) p c).0 r)

    said_report : (h p : ℕ) (c : E.Command) → Says (J.view h) p c → Reports E H h p c
    said_report h p c s = (U.says (H.stored h) p c).1 (subst (λ (v : View E.Command). Says v p c) (U.views H J o h) s)

    -- Its history explains the home.
    explains : Explains E G H J.past
    explains =
        let ok = U.faithful H J o in
        record {
          run = ok.run;
          promised = λ h. (ok.hubs h).promised ∙ ap (λ v. v.term) (U.views H J o h);
          votes = λ h p. subst (λ (v : View E.Command). Highest J.past h p (v.holds p)) (U.views H J o h) ((ok.hubs h).held p);
          chosen = λ h p c r. says_chosen ok h p c (report_said h p c r);
        }

  -- ---- the theorems

  -- The machine runs along.
  pub simulation : Simulation E G
  simulation =
      record {
        StandsFor = λ H s. (J : Hall E.Command) × (J.past ≡ s) × U.Over H J;
        fresh = (first, refl, U.fresh);
        deed =
            λ H s d (J, is, o) f.
            let x = U.deed H J d o f in
            (x.hall.past, rw (sym is) (acts_steps (U.faithful H J o) x.acts), (x.hall, refl, x.over));
        explains = λ H s (J, is, o). rw (sym is) (explains H J o);
      }

  -- Every home that started fresh is explained.
  pub explained : Explained E G
  explained H r = let x = reached H r in (x.hall.past, explains H x.hall x.over)

  -- No two hubs, at any two moments, report different commands at one place.
  pub agreement : Agreement E G
  agreement H I g h p c d r more a b =
      let x = reached H r in
      let y = going H I x.hall x.over more in
      says_agree (U.faithful H x.hall x.over) y.acts g h p c d (report_said H x.hall x.over g p c a) (report_said I y.hall y.over h p d b)

  -- What a hub reports it reports ever after.
  pub stability : Stability E G
  stability H I h p c r more a =
      let x = reached H r in
      let y = going H I x.hall x.over more in
      said_report I y.hall y.over h p c (says_stay (U.faithful H x.hall x.over) y.acts h p c (report_said H x.hall x.over h p c a))

  -- What is reported a hub took from a client, or it is the machine's own.
  pub validity : Validity E G
  validity H h p c r a =
      let x = reached H r in
      by x.hall x.over (says_valid (U.faithful H x.hall x.over) h p c (report_said H x.hall x.over h p c a))
    where
      by : (J : Hall E.Command) → U.Over H J → Wanted (machine_of E G) J.past c → (c ∈ H.orders) ⊎ (E.own c ≡ true)
      by J o (client's m) = inl (U.orders H J o c m)
      by J o (machine's own) = inr own

  -- All of it.
  pub safety : Safety E G
  safety = record { simulation = simulation; explained = explained; agreement = agreement; stability = stability; validity = validity }
