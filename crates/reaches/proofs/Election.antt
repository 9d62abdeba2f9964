-- The first half: the hub asks, all say yes, and it leads with the longest log. Assumes nothing.
use Prim.Native.Nat.{ℕ, zero, suc, ◌+◌, ◌-◌, ◌<◌, max}
use native.Mathlib.Omega.{arith}
use mathlib.Core.Path.{◌≡◌, refl, sym, ◌∙◌, subst}
use mathlib.Core.Bool.{Bool, true, false}
use mathlib.Core.List.{List, [], ◌∷◌, ◌++◌}
use mathlib.Core.Option.{none, some}
use borrow.Author.Tests.{le-leb, lt-leb}
use lib.ListN.{length, drop, replicate, length-drop, length-set, get_or-replicate}
use Rattle.kinds.specs.Sizes.{Group, hub_of, hubs_most, majority}
use Rattle.message.specs.Message.{Message, vote_yes}
use Rattle.state.specs.State.{Pair, candidate, State}
use Rattle.state.specs.Legal.{count}
use Rattle.rules.specs.Happens.{to_start, to_receive, received}
use Rattle.rules.specs.Events.{for_hub, set_hub, says, with_term, started, asks, leads}
use Rattle.rules.specs.Receive.{gather, joined, counted, follower_at}
use Rattle.rules.proofs.CountLaws.{count_set, count_none}
use Rattle.rules.proofs.GatherLaws.{gather_length}
use Rattle.rules.proofs.Forward.{addressed, start_asks, request_granted, yes_counted}
use Rattle.paxos.specs.Paxos.{◌∈◌, here, there}
use Rattle.paxos.proofs.PutLaws.{put_same, put_other}
use Rattle.engine.proofs.HubsLaws.{set_hub_other}
use Rattle.home.specs.Hub.{HomeOfHubs}
use Rattle.reaches.specs.Run.{starts, hears, Turn}
use Rattle.reaches.specs.Reaches.{Mixed, turn, electing, longest, Ready, NotBelow}
use Rattle.reaches.proofs.Stage.{Stage, opening, meant, changed, Goes, next}
use Rattle.reaches.proofs.Without.{without_rest, without_length, without_longest, without_other}
use Rattle.reaches.proofs.Mixing.{Known, Half, Coming, other_acts, asker_acts, Turns, EachTurns, electing_between, mixed}
use Rattle.reaches.proofs.Premise.{in_length, all_pending, me, who, first, apart, size, asking, Early, still_early, follows, told, told_below}

module _ {G : Group} {H : HomeOfHubs} {c : ℕ} {others : List ℕ} {S : ℕ → State} (r : Ready G H c others S)
    (b : (g : ℕ) → g ∈ others → NotBelow (S c) (S g)) where
  -- ---- what is known

  -- The request, and the answer of each.
  abbrev request : Message
  request = asks (me r) (started (me r) (S c))

  abbrev yes_of : ℕ → Message
  yes_of g = says (hub_of G g) (follows r g) c (vote_yes (size r) (told r g) (drop (size r) (S g).kept.log))

  -- It has so many voters, none of those still to come among them, and what it gathered reaches as far as the longest log of the others.
  pub record Standing (gs : List ℕ) (s : State) : Type 0 where
    pub voters : List Bool
    pub gathered : List Pair
    pub asker : s ≡ counted (me r) (asking r) voters gathered
    pub seven : length voters ≡ hubs_most
    pub so_many : count (λ v. v) voters + length gs ≡ majority G.size
    pub new : (g : ℕ) → g ∈ gs → for_hub voters g false ≡ false
    pub so_long : max (size r + length gathered) (longest S gs) ≡ longest S (c ∷ others)

  -- Hub g with no turn left, with one, with two; there are no more.
  abbrev Elector : ℕ → ℕ → Known
  Elector zero g s m = s ≡ follows r g
  Elector (suc zero) g s m = (s ≡ follows r g) × (m ≡ some (yes_of g))
  Elector (suc (suc zero)) g s m = s ≡ S g
  Elector (suc (suc (suc n))) g s m = ⊥

  -- All of it.
  abbrev Electing : Half
  Electing = record { Asker = λ gs s m. Standing gs s × (m ≡ some request); Other = Elector }

  -- Before there is a majority it stands.
  stands :
      (voters : List Bool) (gathered : List Pair) → count (λ v. v) voters < majority G.size
      → counted (me r) (asking r) voters gathered ≡ record { kept = asking r; lost = candidate voters gathered }
  unfolding counted
  stands voters gathered few = rw (lt-leb (majority G.size) (count (λ v. v) voters) few)

  -- So it does as long as one is to come.
  still_stands :
      {g : ℕ} {gs : List ℕ} {s : State} → g ∈ gs → (h : Standing gs s) → s ≡ record { kept = asking r; lost = candidate h.voters h.gathered }
  still_stands due h = h.asker ∙ stands h.voters h.gathered (omega (arith, h.so_many, in_length due))

  -- ---- hub g receives the request

  -- A yes, whatever the role in which the hub was.
  asked_turn :
      (g : ℕ) (gs less : List ℕ) (W : Stage) → Coming c others Electing W g 1 gs less
      → Turns G c (Early r) Electing W (turn g (hears 0) g) g 1 less
  unfolding meant received started with_term asks says
  asked_turn g gs less W x =
      let (h, line) = x.asker in
      let stood = still_stands x.due h in
      let one = x.one in
      record {
        before = still_early r W (rw stood refl);
        state = follows r g;
        message = some (yes_of g);
        takes =
            record {
              occasion = to_receive request;
              means = rw line refl;
              comes =
                  rw x.other
                  (request_granted (hub_of G g) (S g) request (size r) (S c).kept.ballot
                  (record {
                    addressed = addressed (hub_of G g) request (who r c here).last (λ e. apart r g one (sym e)) (λ ne. refl);
                    higher = omega (arith, r.terms g one);
                    body = refl;
                  })
                  (told_below r g (b g one)));
            };
        then = other_acts (apart r g one) (rw x.leaves (h, line)) (refl, refl);
      }

  -- ---- it receives the answer

  -- One voter more; with the last it leads.
  answer_turn :
      (g : ℕ) (gs less : List ℕ) (W : Stage) → Coming c others Electing W g 0 gs less
      → Turns G c (Early r) Electing W (turn c (hears g) g) g 0 less
  unfolding meant received longest with_term follower_at says
  answer_turn g gs less W x =
      let one = x.one in
      let (h, line) = x.asker in
      let v = h.voters in
      let ga = h.gathered in
      let entries = drop (size r) (S g).kept.log in
      let stood = still_stands x.due h in
      let w = who r g (there one) in
      let gone = x.leaves in
      let rest = without_rest gone in
      record {
        before = still_early r W (rw stood refl);
        state = counted (me r) (asking r) (set_hub v g true) (gather ga (told r g) entries);
        message = none;
        takes =
            record {
              occasion = to_receive (yes_of g);
              means = rw x.other.1 refl;
              comes =
                  rw stood
                  (yes_counted (me r) _ (yes_of g) v ga (told r g) entries
                  (record {
                    comes =
                        record {
                          addressed = addressed (me r) (yes_of g) w.last (apart r g one) (λ ne. absurd (ne refl));
                          term = refl;
                          says = refl;
                        };
                    role = refl;
                    voter = h.new g x.due;
                    below = told_below r g (b g one);
                  }));
            };
        then =
            asker_acts (apart r g one) (
              record {
                voters = set_hub v g true;
                gathered = gather ga (told r g) entries;
                asker = refl;
                seven = length-set v (g - 1) true ∙ h.seven;
                so_many =
                    omega (
                      arith,
                      h.so_many,
                      without_length gone,
                      count_set v (g - 1) (omega (arith, h.seven, w.first, w.last, w.most)) (h.new g x.due),
                    );
                new =
                    λ y n.
                    set_hub_other v g y false true w.first (first r y (x.within y (rest y n))) (without_other gone x.once y n)
                    ∙ h.new y (rest y n);
                so_long =
                    omega (
                      arith,
                      h.so_long,
                      without_longest S gone,
                      gather_length ga (told r g) entries,
                      length-drop (size r) (S g).kept.log,
                    );
              },
              line,
            )
            x.other.0;
      }

  -- Each of the two turns for a hub.
  elect_turn : EachTurns G c others (Early r) Electing (electing c)
  elect_turn g zero gs less W x = answer_turn g gs less W x
  elect_turn g (suc zero) gs less W x = asked_turn g gs less W x
  elect_turn g (suc (suc n)) gs less W x = absurd x.other

  -- ---- from the start to the lead

  -- At first it has its own vote alone.
  first_standing : Standing others (started (me r) (S c))
  unfolding started longest
  first_standing =
      let none_yet = replicate hubs_most false in
      let mine = who r c here in
      let v = set_hub none_yet c true in
      let inside : c - 1 < length none_yet = omega (arith, mine.first, mine.last, mine.most) in
      let alone = count_set none_yet (c - 1) inside (get_or-replicate hubs_most (c - 1) false false inside) in
      let one : count (λ v. v) v ≡ 1 = omega (arith, alone, count_none hubs_most) in
      record {
        voters = v;
        gathered = [];
        asker = sym (stands v [] (omega (arith, one, mine.least)));
        seven = length-set none_yet (c - 1) true;
        so_many = omega (arith, one, r.many);
        new =
            λ g n.
            let w = who r g (there n) in
            set_hub_other none_yet c g false true mine.first w.first (apart r g n)
            ∙ get_or-replicate hubs_most (g - 1) false false (omega (arith, w.first, w.last, w.most));
        so_long = omega arith;
      }

  -- It leads, with the longest log, and all others follow.
  pub record Led (W : Stage) : Type 0 where
    pub gathered : List Pair
    pub asker : W.states c ≡ leads (me r) (joined (asking r) gathered) (replicate hubs_most 0)
    pub so_long : size r + length gathered ≡ longest S (c ∷ others)
    pub others_follow : (g : ℕ) → g ∈ others → W.states g ≡ follows r g

  -- All have said yes.
  heard_led : (W : Stage) → Standing [] (W.states c) → ((g : ℕ) → g ∈ others → W.states g ≡ follows r g) → Led W
  unfolding counted longest
  heard_led W h others_follow =
      let enough = le-leb (majority G.size) (count (λ v. v) h.voters) (omega (arith, h.so_many)) in
      record { gathered = h.gathered; asker = h.asker ∙ rw enough refl; so_long = omega (arith, h.so_long); others_follow = others_follow }

  -- The first half, and whatever comes after.
  pub election :
      {After : Stage → Type 0} {ts rest : List Turn} → Mixed others (electing c) (λ g. 2) ts → ((W : Stage) → Led W → Goes G (Early r) After W rest)
      → Goes G (Early r) After (opening S) (turn c starts 0 ∷ (ts ++ rest))
  unfolding meant changed
  election m then =
      next (still_early r (opening S) refl)
      (record { occasion = to_start; means = refl; comes = start_asks (me r) (S c) r.role (omega (arith, r.term_left)) })
      (mixed (apart r) (first r) (electing_between c) elect_turn (λ W h f. then W (heard_led W h.0 f)) m others _
      (record {
        pending = all_pending r 2 (omega arith);
        asker = (subst (Standing others) (sym (put_same S c (started (me r) (S c)))) first_standing, put_same (λ l. none) 0 _);
        other = λ g n. put_other S c _ g (apart r g n);
      }))
