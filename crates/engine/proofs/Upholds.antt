-- A home that is a household written out upholds what stands over the household; and whatever can happen in a household can happen in
-- a home. Assumes nothing.
use Prim.Native.Nat.{ℕ}
use mathlib.Core.Path.{◌≡◌, refl, sym, ◌∙◌, ap}
use mathlib.Core.Bool.{true}
use mathlib.Core.List.{[]}
use Rattle.kinds.specs.Sizes.{Group, is_hub}
use Rattle.views.specs.Hall.{Hall}
use Rattle.engine.specs.Engine.{Engine, machine_of}
use Rattle.engine.specs.Home.{Home, fresh_home, after, Fair, Runs}
use Rattle.engine.specs.Upholds.{Going, Upholds}
use Rattle.engine.specs.Rules.{Rules, Household, fresh_household, met, Heard, Meetings, none_yet, meeting}
use Rattle.engine.specs.Facts.{Facts, Stands, FactsKept}
use Rattle.engine.specs.Written.{Writing, IsWritten, Becomes, stays, meets, WritesOut}
use Rattle.engine.proofs.Stands.{fresh_stands, met_stands, meetings_stand}
use Rattle.engine.proofs.RunsLaws.{runs_one, runs_trans}
use Rattle.views.specs.Acts.{Acts}

-- The hall stands over the home: for the household that it is.
pub record Over (E : Engine) (R : Rules E.Command) (X : Writing R) (G : Group) (F : Facts R (machine_of E G)) (H : Home E) (J : Hall E.Command) : Type 0 where
  pub household : Household R
  pub is : IsWritten E R X H household
  pub stands : Stands F household J

module _ {E : Engine} {R : Rules E.Command} {X : Writing R} {G : Group} {F : Facts R (machine_of E G)} (K : FactsKept G F) (Wr : WritesOut E R X G F) where
  -- After a deed a later hall stands over the home.
  pub goes : (H : Home E) (J : Hall E.Command) (d : E.Deed) (o : Over E R X G F H J) → Becomes E R X G o.household (after E G H d) → Going E G (Over E R X G F) (after E G H d) J
  goes H J d o (stays is) = record { hall = J; acts = Acts.no_act; over = record { household = o.household; is = is; stands = o.stands } }
  goes H J d o (meets h e hub heard is) =
      let x = met_stands K h e hub o.household J o.stands heard in
      record { hall = x.hall; acts = x.acts; over = record { household = _; is = is; stands = x.stands } }

  -- So all of Safe follows.
  abbrev pub upholds : Upholds E G
  upholds =
      record {
        Over = Over E R X G F;
        fresh = record { household = fresh_household R; is = Wr.fresh; stands = fresh_stands K };
        deed = λ H J d o f. goes H J d o (Wr.deed H o.household J d o.is o.stands f);
        faithful = λ H J o. F.faithful J o.stands.ghost o.stands.ground;
        views = λ H J o h. Wr.views o.household J o.stands h ∙ ap E.view (sym (o.is.states h));
        orders = λ H J o c m. rw o.is.orders (o.stands.orders c m);
        says = Wr.says;
      }

  -- For each event there is a deed.
  abbrev pub Enacted : Type 0
  Enacted =
      (H : Home E) (W : Household R) (J : Hall E.Command) → IsWritten E R X H W → Stands F W J
      → (h : ℕ) (o : R.Occasion) → is_hub G.size h ≡ true → Heard R W.sent o
      → (d : E.Deed) × Fair E H d × IsWritten E R X (after E G H d) (met R G W h o)

  -- Whatever can happen in a household can happen in a home.
  pub meetings_run : Enacted → (W : Household R) → Meetings R G W → (H : Home E) × Runs E G (fresh_home E) H × IsWritten E R X H W
  meetings_run enacted W none_yet = (fresh_home E, record { deeds = []; fair = tt; ends = refl }, Wr.fresh)
  meetings_run enacted W (meeting {W = Y} r h hub o w) =
      let (H, runs, is) = meetings_run enacted Y r in
      let x = meetings_stand K Y r in
      let (d, fair, next) = enacted H Y x.hall is x.stands h o hub w in
      (after E G H d, runs_trans G _ _ _ runs (runs_one G H d fair), next)
