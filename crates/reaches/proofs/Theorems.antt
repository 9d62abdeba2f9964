-- It does get there. Assumes nothing.
use Prim.Native.Nat.{ℕ, suc, ◌+◌, ◌*◌}
use native.Mathlib.Omega.{arith}
use mathlib.Core.Path.{◌≡◌, refl, sym, ◌∙◌, ap}
use mathlib.Core.Logic.{⊎_elim}
use mathlib.Core.List.{List, [], ◌∷◌, ◌++◌, append-nil}
use mathlib.Core.Option.{some}
use lib.ListN.{length, length-append}
use Rattle.kinds.specs.Sizes.{Group, hub_of}
use Rattle.kinds.proofs.BoolLaws.{none_some}
use Rattle.command.specs.Command.{Command}
use Rattle.command.specs.Proposal.{read_proposal}
use Rattle.state.specs.State.{State}
use Rattle.state.specs.Image.{read_kept, reported_in}
use Rattle.state.proofs.ImageLaws.{read_state_sound, read_kept_image}
use Rattle.state.proofs.ReportLaws.{reported_at_past, reported_at_entry, reported_in_image}
use Rattle.paxos.specs.Put.{put}
use Rattle.paxos.specs.Paxos.{◌∈◌, here, there}
use Rattle.paxos.proofs.PutLaws.{put_same, put_other}
use Rattle.paxos.proofs.Member.{new, nothing}
use Rattle.engine.specs.Home.{fresh_home, after_all, Runs}
use Rattle.engine.proofs.RunsLaws.{runs_trans}
use Rattle.home.specs.Hub.{hub_engine, HomeOfHubs}
use Rattle.home.proofs.Theorems.{explained}
use Rattle.reaches.specs.Run.{proposes, Turn, Scene, quiet, deeds_of, turned}
use Rattle.reaches.specs.Reaches.{Mixed, none_left, one_less, turn, Schedule, Distinct, longest, Ready, NotBelow, Silent, ReportsLast, GetsThere, ThenItIsChosen}
use Rattle.reaches.proofs.Stage.{Stage, opening, Goes}
use Rattle.reaches.proofs.Mixing.{Between, electing_between, choosing_between}
use Rattle.reaches.proofs.Premise.{place, Early, legal}
use Rattle.reaches.proofs.Election.{election}
use Rattle.reaches.proofs.Choosing.{AtLast, proposing}
use Rattle.reaches.proofs.Lift.{Shows, read_nothing, lifts}

-- ---- the number of turns

-- A deed for each turn.
deeds_length : (G : Group) (lent : ℕ → List ℕ) (X : Scene) (ts : List Turn) → length (deeds_of G lent X ts) ≡ length ts
deeds_length G lent X [] = refl
deeds_length G lent X (t ∷ ts) = ap suc (deeds_length G lent (turned G X t (lent (length ts))) ts)

-- All turns that are left for some hubs.
total : (ℕ → ℕ) → List ℕ → ℕ
total left [] = 0
total left (g ∷ gs) = left g + total left gs

-- As many for each.
total_same : (n : ℕ) (gs : List ℕ) → total (λ g. n) gs ≡ n * length gs
unfolding total
total_same n [] = omega arith
total_same n (g ∷ gs) = omega (arith, total_same n gs)

-- One turn less for a hub that is not among them, and for one that is among them once.
total_out : (left : ℕ → ℕ) (g n : ℕ) (gs : List ℕ) → (g ∈ gs → ⊥) → total (put left g n) gs ≡ total left gs
unfolding total
total_out left g n [] out = refl
total_out left g n (h ∷ gs) out =
    omega (arith, put_other left g n h (λ e. out (rw e here)), total_out left g n gs (λ m. out (there m)))

total_less : (left : ℕ → ℕ) (g n : ℕ) (gs : List ℕ) → Distinct gs → g ∈ gs → left g ≡ suc n → total left gs ≡ suc (total (put left g n) gs)
unfolding total
total_less left g n [] once m e = elim m [ ]
total_less left g n (h ∷ gs) (out, once) here e = omega (arith, put_same left g n, total_out left g n gs out)
total_less left g n (h ∷ gs) (out, once) (there m) e =
    omega (arith, total_less left g n gs once m e, put_other left g n h (λ z. out (rw z m)))

-- None.
none_total : (left : ℕ → ℕ) (gs : List ℕ) → ((g : ℕ) → g ∈ gs → left g ≡ 0) → total left gs ≡ 0
unfolding total
none_total left [] none = refl
none_total left (g ∷ gs) none = omega (arith, none g here, none_total left gs (λ h m. none h (there m)))

-- However they are mixed, that is how many come.
mixed_length :
    {others : List ℕ} {t : ℕ → ℕ → Turn} {left : ℕ → ℕ} {ts : List Turn} → Distinct others → Mixed others t left ts → length ts ≡ total left others
mixed_length once (none_left none) = sym (none_total _ _ none)
mixed_length {others} {left} once (one_less {g} {n} one e more) = omega (arith, mixed_length once more, total_less left g n others once one e)

-- So many turns has the run.
schedule_length :
    {c : ℕ} {others bytes : List ℕ} {ts : List Turn} → Distinct others → Schedule c others bytes ts → length ts ≡ 2 + 5 * length others
schedule_length {c} {others} {bytes} once s =
    ap length s.whole
    ∙ omega (
      arith,
      length-append s.first (turn c (proposes bytes) 0 ∷ s.second),
      mixed_length once s.elects,
      mixed_length once s.chooses,
      total_same 2 others,
      total_same 3 others,
    )

-- ---- whose turns they are

-- Only these hubs have a turn.
abbrev Ours : ℕ → List ℕ → Turn → Type 0
Ours c others t = t.hub ∈ (c ∷ others)

-- Those for each of the others.
mixed_ours :
    {c : ℕ} {others : List ℕ} {t : ℕ → ℕ → Turn} {left : ℕ → ℕ} {ts : List Turn} → Between c t → Mixed others t left ts
    → (u : Turn) → u ∈ ts → Ours c others u
mixed_ours between (none_left none) u i = nothing i
mixed_ours between (one_less {g} {n} one e more) u i =
    new i (λ same. rw same (⊎_elim (λ own. rw own (there one)) (λ asks. rw asks here) (between.hub g n))) (λ j. mixed_ours between more u j)

-- One of two lists.
in_either : {A P : Type 0} {x : A} (l m : List A) → x ∈ (l ++ m) → (x ∈ l → P) → (x ∈ m → P) → P
in_either [] m i f g = g i
in_either (y ∷ l) m i f g = new i (λ e. f (rw e here)) (λ j. in_either l m j (λ k. f (there k)) g)

-- All of them.
called : {c : ℕ} {others bytes : List ℕ} {ts : List Turn} → Schedule c others bytes ts → (t : Turn) → t ∈ ts → Ours c others t
called {c} {others} s t i =
    new (rw s.whole at i) (λ e. rw e here)
    (λ j.
    in_either s.first _ j (mixed_ours (electing_between c) s.elects t)
    (λ k. new k (λ e. rw e here) (mixed_ours (choosing_between c) s.chooses t)))

-- ---- the theorem

-- On values.
goes_there :
    {G : Group} {H : HomeOfHubs} {c : ℕ} {others : List ℕ} {S : ℕ → State} (r : Ready G H c others S) → ((g : ℕ) → g ∈ others → NotBelow (S c) (S g))
    → (bytes : List ℕ) (command : Command) → read_proposal bytes ≡ some command → {ts : List Turn} → Schedule c others bytes ts
    → Goes G (Early r) (AtLast r command) (opening S) ts
goes_there r b bytes command proposed s =
    rw (s.whole, sym (append-nil s.second))
    (election r b s.elects (λ W i. proposing r command W i bytes proposed s.chooses))

-- At first the home shows the states, and nothing waits.
opens :
    {G : Group} {H : HomeOfHubs} {c : ℕ} {others : List ℕ} {S : ℕ → State} (r : Ready G H c others S) → Shows G (c ∷ others) (quiet H) (opening S)
opens {G} {H} {S} r =
    record {
      legal = legal r;
      stored = λ h i. sym (read_state_sound (hub_of G h) (H.stored h) (S h) (r.legal h i)).0;
      reads = λ l. read_nothing;
      sent = λ l m e. none_some e;
    }

module _ {G : Group} {H : HomeOfHubs} {c : ℕ} {others : List ℕ} {S : ℕ → State} (r : Ready G H c others S) where
  -- As long as the place is not chosen it is not reported.
  silent : (X : Scene) (W : Stage) → Shows G (c ∷ others) X W → Early r W → Silent c (place r) X.home
  silent X W f early =
      ap (λ (l : List ℕ). reported_in l (place r)) (f.stored c here)
      ∙ reported_in_image (hub_of G c) (W.states c) (f.legal c here) (place r)
      ∙ reported_at_past (W.states c).kept (place r) early

  -- Then it is.
  reporting : (command : Command) (X : Scene) (W : Stage) → Shows G (c ∷ others) X W → AtLast r command W
      → ReportsLast c others (place r) command X.home
  reporting command X W f e =
      let k = (W.states c).kept in
      record {
        reports =
            ap (λ (l : List ℕ). reported_in l (place r)) (f.stored c here)
            ∙ reported_in_image (hub_of G c) (W.states c) (f.legal c here) (place r)
            ∙ reported_at_entry k (longest S (c ∷ others)) e.entry (omega (arith, e.chosen)) e.last
            ∙ ap some e.is;
        kept = k;
        stored = kept_read c here;
        chosen = e.chosen ∙ sym e.long;
        last = e.long;
        held = λ g n. let (ballot, log) = e.held g n in ((W.states g).kept, kept_read g (there n), ballot, log);
      }
    where
      kept_read : (h : ℕ) → h ∈ (c ∷ others) → read_kept (X.home.stored h) ≡ some (W.states h).kept
      kept_read h n = ap read_kept (f.stored h n) ∙ read_kept_image (hub_of G h) (W.states h) (f.legal h n)

-- It does get there.
pub gets_there : GetsThere
gets_there G H c others S r b bytes command proposed ts s lent room =
    let run =
    lifts r.group r.hubs lent room (silent r) (reporting r command) ts (called s) (quiet H) (opening S) (opens r)
    (goes_there r b bytes command proposed s) in
    record {
      steps = omega (arith, deeds_length G lent (quiet H) ts, schedule_length r.once.1 s, r.many);
      fair = run.fair;
      effect = run.effect;
      not_before = λ n below. run.before n (omega arith);
      at_last = run.at_last;
    }

-- What is reported in a home that started fresh is chosen.
pub then_it_is_chosen : ThenItIsChosen
then_it_is_chosen G H c others place command ds x a =
    let I = after_all hub_engine G H ds in
    let run : Runs hub_engine G H I = record { deeds = ds; fair = a.fair; ends = refl } in
    let (s, e) = explained G x.group I (record { group = x.group; runs = runs_trans G (fresh_home hub_engine) H I x.runs run }) in
    (s, e, e.chosen c place command a.at_last.reports)
