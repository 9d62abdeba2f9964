-- A report more at a candidate: what it would propose is again, place by place, the highest vote that its voters tell of. Within its log
-- that is its own, since no voter's ballot is above it; beyond it, the better of what it held and what it is told. Assumes nothing.
use Prim.Native.Nat.{ℕ, suc, ◌+◌, ◌-◌, ◌≤◌, ◌<◌}
use native.Mathlib.Omega.{arith}
use native.Mathlib.Decide.{dec_lt}
use mathlib.Core.Path.{◌≡◌, refl, sym, ◌∙◌, ap, subst, fun_ext}
use mathlib.Core.Bool.{Bool, true, false}
use mathlib.Core.List.{List, ◌++◌, map}
use mathlib.Core.Option.{Option, some}
use lib.ListN.{length, get_elem?, length-map}
use Rattle.command.specs.Command.{Command}
use Rattle.command.specs.Entry.{Entry}
use Rattle.state.specs.State.{Kept, Pair}
use Rattle.kinds.specs.Hubs.{set_hub, of_hub}
use Rattle.paxos.specs.Put.{choose, put}
use Rattle.paxos.specs.Paxos.{Seen, never, at, ◌∈◌}
use Rattle.paxos.proofs.PutLaws.{put_cases, put_same, put_other}
use Rattle.views.specs.Hall.{gave, Hall}
use Rattle.views.specs.Best.{better}
use Rattle.views.proofs.BestLaws.{top_more}
use Rattle.home.specs.View.{entry_counts, pair_counts, tally}
use Rattle.home.specs.Stands.{Yields, Standing}
use Rattle.kinds.proofs.AtLaws.{at_in, at_first, at_second, in_map}
use Rattle.engine.proofs.HubsLaws.{set_hub_cases, set_hub_put}

-- ---- the better of two

-- A vote told at the ballot b.
abbrev pub paired : ℕ → Entry → Pair
paired b e = record { ballot = b; command = e.command }

-- Where nothing is told what is held stays.
pub better_held : (x : Seen Command) → better x never ≡ x
unfolding better
better_held never = refl
better_held (at b c) = refl

-- A vote that is not above what is held.
better_low : (b : ℕ) (c : Command) (y : Seen Command) → ((k : ℕ) (d : Command) → y ≡ at k d → k ≤ b) → better (at b c) y ≡ at b c
unfolding better
better_low b c never low = refl
better_low b c (at k d) low = by (dec_lt b k)
  where
    by : (r : Dec (b < k)) → choose r (at k d) (at b c) ≡ at b c
    by (yes lt) = absurd (omega (arith, low k d refl))
    by (no ge) = refl

-- ---- what a candidate would propose

-- Within its log, what it holds.
pub tally_log :
    (k : Kept) (gathered : List Pair) (i : ℕ) (e : Entry) → get_elem? k.log i ≡ some e
    → get_elem? (tally k gathered) i ≡ some (paired k.ballot e)
unfolding tally
tally_log k gathered i e q = at_first (map (paired k.ballot) k.log) gathered i _ (in_map (paired k.ballot) k.log i e q)

-- Beyond it, what it gathered.
pub tally_beyond : (k : Kept) (gathered : List Pair) (j : ℕ) → get_elem? (tally k gathered) (length k.log + j) ≡ get_elem? gathered j
unfolding tally
tally_beyond k gathered j =
    let same = length-map k.log (paired k.ballot) in
    subst (λ (n : ℕ). get_elem? (map (paired k.ballot) k.log ++ gathered) (n + j) ≡ get_elem? gathered j) same
    (at_second (map (paired k.ballot) k.log) gathered j)

-- ---- one voter more

module _ {H : Hall Command} {h : ℕ} {k : Kept} {voters : List Bool} {gathered : List Pair} (x : Standing H h k voters gathered)
    (g b : ℕ) (entries : List Entry) (first : 1 ≤ g) (within : g ≤ length voters) (unheard : of_hub voters false g ≡ false)
    (y : Yields H g k.term h (length k.log) b entries) (below : b ≤ k.ballot) (next : List Pair)
    (kept : (i : ℕ) → better (pair_counts (get_elem? gathered i)) (entry_counts b (get_elem? entries i)) ≡ pair_counts (get_elem? next i)) where
  -- The better of what the hub would propose and of the new report is what it would propose next.
  tally_more :
      (i : ℕ) → Dec (i < length k.log)
      → better (pair_counts (get_elem? (tally k gathered) i)) (y.seen (suc i)) ≡ pair_counts (get_elem? (tally k next) i)
  tally_more i (yes lt) =
      let (e, q) = at_in k.log i lt in
      ap (λ (o : Option Pair). better (pair_counts o) (y.seen (suc i))) (tally_log k gathered i e q)
      ∙ better_low k.ballot e.command (y.seen (suc i)) (λ c d s. omega (arith, y.low (suc i) c d s))
      ∙ ap pair_counts (sym (tally_log k next i e q))
  tally_more i (no ge) =
      let j = i - length k.log in
      let place : length k.log + j ≡ i = omega arith in
      subst (λ (n : ℕ). better (pair_counts (get_elem? (tally k gathered) n)) (y.seen (suc n)) ≡ pair_counts (get_elem? (tally k next) n)) place
      (ap (λ (o : Option Pair). better (pair_counts o) (y.seen (suc (length k.log + j)))) (tally_beyond k gathered j)
      ∙ ap (better (pair_counts (get_elem? gathered j))) (y.beyond j)
      ∙ kept j
      ∙ ap pair_counts (sym (tally_beyond k next j)))

  -- The reports on one place, with the new one.
  reports_more : (p : ℕ) → put (λ f. x.seen f p) g (y.seen p) ≡ (λ f. put x.seen g y.seen f p)
  reports_more p = fun_ext (put_cases (λ f r. put (λ f. x.seen f p) g (y.seen p) f ≡ r p) x.seen g y.seen (put_same _ g _) (put_other _ g _))

  -- The candidate with one voter more.
  pub heard : Standing H h k (set_hub voters g true) next
  heard =
      record {
        seen = put x.seen g y.seen;
        given =
            set_hub_cases (λ f v. v ≡ true → gave f k.term h (put x.seen g y.seen f) ∈ H.gifts) voters false true g first within
            (λ q. rw put_same y.given)
            (λ f ne q. rw (put_other x.seen g y.seen f ne) (x.given f q));
        best =
            λ i.
            let more =
            top_more (of_hub voters false) (λ f. x.seen f (suc i)) g (pair_counts (get_elem? (tally k gathered) i)) (y.seen (suc i)) unheard (x.best i) in
            rw (sym (set_hub_put voters false true g first within), sym (reports_more (suc i)), sym (tally_more i (dec_lt i (length k.log)))) more;
      }
