-- Runs: one deed, and one run after the other. Assumes nothing.
use mathlib.Core.Path.{◌≡◌, refl, ◌∙◌}
use mathlib.Core.List.{List, [], ◌∷◌, ◌++◌}
use Rattle.kinds.specs.Sizes.{Group}
use Rattle.engine.specs.Engine.{Engine}
use Rattle.engine.specs.Home.{Home, after, Fair, after_all, AllFair, Runs}

module _ {E : Engine} (G : Group) where
  -- One deed.
  pub runs_one : (H : Home E) (d : E.Deed) → Fair E H d → Runs E G H (after E G H d)
  runs_one H d f = record { deeds = d ∷ []; fair = (f, tt); ends = refl }

  both :
      (H : Home E) (ds es : List E.Deed) → AllFair E G H ds → AllFair E G (after_all E G H ds) es
      → AllFair E G H (ds ++ es) × (after_all E G H (ds ++ es) ≡ after_all E G (after_all E G H ds) es)
  both H [] es f g = (g, refl)
  both H (d ∷ ds) es (f, fs) g = let (all, ends) = both (after E G H d) ds es fs g in ((f, all), ends)

  -- One run after the other.
  pub runs_trans : (H I J : Home E) → Runs E G H I → Runs E G I J → Runs E G H J
  runs_trans H I J r q =
      let fair : AllFair E G (after_all E G H r.deeds) q.deeds = rw r.ends q.fair in
      let (all, ends) = both H r.deeds q.deeds r.fair fair in
      record { deeds = r.deeds ++ q.deeds; fair = all; ends = ends ∙ rw r.ends q.ends }
