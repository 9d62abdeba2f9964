-- The second half: the leader proposes, sends its whole log to each, each takes it, and the last answer makes all of it chosen. Assumes nothing.
use Prim.Native.Nat.{ℕ, zero, suc, ◌+◌, ◌-◌, ◌≤◌, ◌<◌, max}
use native.Mathlib.Omega.{arith}
use mathlib.Core.Path.{◌≡◌, refl, sym, ◌∙◌, ap, subst}
use mathlib.Core.Bool.{true}
use mathlib.Core.List.{List, [], ◌∷◌, ◌++◌}
use mathlib.Core.Option.{none, some}
use borrow.Author.Tests.{ne_eqb, le-leb, lt-leb}
use lib.Dec.{leb}
use lib.ListN.{length, take, replicate, get_elem?, length-set, get_or-replicate}
use lib.Seq.{set-set}
use Rattle.kinds.specs.Sizes.{Group, hub_of, hubs_most, majority, limit}
use Rattle.kinds.proofs.AtLaws.{at_second}
use Rattle.command.specs.Command.{Command}
use Rattle.command.specs.Entry.{Entry}
use Rattle.command.specs.Proposal.{read_proposal}
use Rattle.message.specs.Message.{Message, append, append_yes}
use Rattle.state.specs.State.{Kept, leader, follower, State}
use Rattle.state.specs.Legal.{all, count}
use Rattle.state.proofs.LegalLaws.{legal_state_kept}
use Rattle.rules.specs.Majority.{confirmed_by, majority_place}
use Rattle.rules.specs.Happens.{to_propose, to_send, to_receive, received}
use Rattle.rules.specs.Events.{is_leader, len, for_hub, set_hub, says, with_term, with_entry, leads}
use Rattle.rules.specs.Receive.{joined, replaced, taken, recorded, follower_at}
use Rattle.rules.proofs.CountLaws.{all_set, all_replicate, count_take, count_replicate}
use Rattle.rules.proofs.MajorityLaws.{confirmed_more, majority_place_all, majority_place_few}
use Rattle.rules.proofs.GatherLaws.{joined_length}
use Rattle.rules.proofs.EventsLaws.{with_entry_length}
use Rattle.rules.proofs.Forward.{addressed, proposal_joins, whole_log_sent, whole_log_taken, end_recorded}
use Rattle.paxos.specs.Paxos.{◌∈◌, here, there}
use Rattle.paxos.proofs.PutLaws.{put_same, put_other}
use Rattle.engine.proofs.HubsLaws.{set_hub_other}
use Rattle.home.specs.Hub.{HomeOfHubs}
use Rattle.reaches.specs.Run.{proposes, sends_to, hears, Turn}
use Rattle.reaches.specs.Reaches.{Mixed, turn, choosing, longest, Ready, NotBelow}
use Rattle.reaches.proofs.Stage.{Stage, meant, changed, Takes, Goes, ends, next}
use Rattle.reaches.proofs.Without.{without_rest, without_length, without_other}
use Rattle.reaches.proofs.Mixing.{Known, Half, Coming, other_acts, asker_acts, Turns, EachTurns, choosing_between, mixed}
use Rattle.reaches.proofs.Premise.{longest_most, in_length, all_pending, me, who, legal, kept, first, apart, next_term, asking, place, Early, still_early, follows}
use Rattle.reaches.proofs.Election.{Led}

module _ {G : Group} {H : HomeOfHubs} {c : ℕ} {others : List ℕ} {S : ℕ → State} (r : Ready G H c others S) (command : Command) where
  -- A leader that has the command at its last place, which it alone has confirmed.
  record Proposed (k : Kept) (confirmed : List ℕ) : Type 0 where
    pub term : k.term ≡ next_term r
    pub ballot : k.ballot ≡ next_term r
    pub chosen : k.chosen < place r
    pub long : length k.log ≡ place r
    pub entry : Entry
    pub last : get_elem? k.log (longest S (c ∷ others)) ≡ some entry
    pub is : entry.command ≡ command
    pub seven : length confirmed ≡ hubs_most
    pub alone : count (leb (place r)) (take G.size confirmed) ≡ 1
    pub zeros : (g : ℕ) → g ∈ others → for_hub confirmed g 0 ≡ 0
    pub most : all (λ n. leb n (place r)) confirmed ≡ true

  -- In the end: all of its log is chosen, the command at its last place; and the others hold that log at the same ballot.
  pub record AtLast (W : Stage) : Type 0 where
    pub chosen : (W.states c).kept.chosen ≡ place r
    pub long : len (W.states c) ≡ place r
    pub entry : Entry
    pub last : get_elem? (W.states c).kept.log (longest S (c ∷ others)) ≡ some entry
    pub is : entry.command ≡ command
    pub held : (g : ℕ) → g ∈ others → ((W.states g).kept.ballot ≡ (W.states c).kept.ballot) × ((W.states g).kept.log ≡ (W.states c).kept.log)

  module _ (k : Kept) (confirmed : List ℕ) (l : Proposed k confirmed) where
    -- ---- what is known

    -- As it leads, with another count of chosen places.
    abbrev knowing : ℕ → Kept
    knowing n = record { term = k.term; ballot = k.ballot; chosen = n; log = k.log }

    -- So many have confirmed the place, none of those still to come among them; it is chosen when none is to come.
    record Counting (gs : List ℕ) (s : State) : Type 0 where
      pub known : ℕ
      pub lengths : List ℕ
      pub asker : s ≡ record { kept = knowing known; lost = leader lengths }
      pub before : 1 ≤ length gs → known < place r
      pub at_last : length gs ≡ 0 → known ≡ place r
      pub seven : length lengths ≡ hubs_most
      pub so_many : count (leb (place r)) (take G.size lengths) + length gs ≡ majority G.size
      pub zeros : (g : ℕ) → g ∈ gs → for_hub lengths g 0 ≡ 0
      pub most : all (λ n. leb n (place r)) lengths ≡ true

    -- The whole log, with so many places chosen, and the answer to it.
    abbrev append_to : ℕ → ℕ → Message
    append_to n g = record { term = k.term; from = c; to = g; body = append 0 0 n k.log }

    abbrev end_of : ℕ → Message
    end_of g = says (hub_of G g) (follows r g) c (append_yes (length k.log))

    -- A hub that has taken the log.
    abbrev Holds : State → Type 0
    Holds s = (s.kept.ballot ≡ next_term r) × (s.kept.log ≡ k.log)

    -- Hub g with no turn left, with one, with two, with three; there are no more.
    abbrev Chooser : ℕ → ℕ → Known
    Chooser zero g s m = Holds s
    Chooser (suc zero) g s m = Holds s × (m ≡ some (end_of g))
    Chooser (suc (suc zero)) g s m = (s ≡ follows r g) × ((n : ℕ) × (m ≡ some (append_to n g)))
    Chooser (suc (suc (suc zero))) g s m = s ≡ follows r g
    Chooser (suc (suc (suc (suc n)))) g s m = ⊥

    -- All of it.
    abbrev Choosing : Half
    Choosing = record { Asker = λ gs s m. Counting gs s; Other = Chooser }

    -- As long as one is to come.
    not_yet : {g : ℕ} {gs : List ℕ} (W : Stage) → g ∈ gs → Counting gs (W.states c) → Early r W
    not_yet W due h = rw h.asker (h.before (in_length due))

    -- ---- it sends to hub g

    -- An append of the whole log, with what is known chosen by then.
    send_turn :
        (g : ℕ) (gs less : List ℕ) (W : Stage) → Coming c others Choosing W g 2 gs less
        → Turns G c (Early r) Choosing W (turn c (sends_to g) g) g 2 less
    unfolding meant is_leader says
    send_turn g gs less W x =
        let h = x.asker in
        let one = x.one in
        let now : State = record { kept = knowing h.known; lost = leader h.lengths } in
        record {
          before = not_yet W x.due h;
          state = now;
          message = some (append_to h.known g);
          takes =
              record {
                occasion = to_send g 0;
                means = refl;
                comes = rw h.asker (whole_log_sent (me r) now g refl (r.hubs g (there one)) (apart r g one));
              };
          then = asker_acts (apart r g one) (rw x.leaves (subst (Counting gs) h.asker h)) (x.other, (h.known, refl));
        }

    -- ---- hub g receives

    -- Its ballot was below the new term, so whatever it held is replaced.
    all_replaced : (g : ℕ) → g ∈ others → replaced (follows r g).kept 0 k.log ≡ k.log
    unfolding replaced follower_at with_term
    all_replaced g one =
        let held = legal_state_kept (hub_of G g) (S g) (legal r g (there one)) in
        rw (ne_eqb (S g).kept.ballot (next_term r) (λ e. omega (arith, held.ballot, r.terms g one)))

    -- It is taken, whatever the hub held.
    take_turn :
        (g : ℕ) (gs less : List ℕ) (W : Stage) → Coming c others Choosing W g 1 gs less
        → Turns G c (Early r) Choosing W (turn g (hears g) g) g 1 less
    unfolding meant received is_leader says follower_at with_term taken longest
    take_turn g gs less W x =
        let one = x.one in
        let (following, (n, line)) = x.other in
        record {
          before = not_yet W x.due x.asker;
          state = record { kept = taken (follows r g).kept 0 n k.log; lost = follower };
          message = some (end_of g);
          takes =
              record {
                occasion = to_receive (append_to n g);
                means = rw line refl;
                comes =
                    rw following
                    (whole_log_taken (hub_of G g) (follows r g) (append_to n g) 0 n k.log
                    (record {
                      addressed = addressed (hub_of G g) (append_to n g) (who r c here).last (λ e. apart r g one (sym e)) (λ ne. absurd (ne refl));
                      term = l.term;
                      says = refl;
                    })
                    refl (omega (arith, l.long, longest_most S one)));
              };
          then = other_acts (apart r g one) (rw x.leaves x.asker) ((refl, all_replaced g one), refl);
        }

    -- ---- it receives the answer

    -- One hub more has confirmed the whole log; with the last it is chosen.
    confirm_turn :
        (g : ℕ) (gs less : List ℕ) (W : Stage) → Coming c others Choosing W g 0 gs less
        → Turns G c (Early r) Choosing W (turn c (hears g) g) g 0 less
    unfolding meant received says follower_at with_term recorded confirmed_by
    confirm_turn g gs less W x =
        let one = x.one in
        let h = x.asker in
        let w = who r g (there one) in
        let N = G.size in
        let p = length k.log in
        let old = h.lengths in
        let now = set_hub old g p in
        let gone = x.leaves in
        let rest = without_rest gone in
        let fewer = without_length gone in
        let low = h.before (omega arith) in
        let known = max h.known (majority_place N now) in
        let long = l.long in
        let nought = h.zeros g x.due in
        let most = all_set (λ n. leb n (place r)) old (g - 1) p h.most (le-leb p (place r) (omega arith)) in
        let in_list : g ≤ length old = omega (arith, h.seven, w.last, w.most) in
        let more = confirmed_more N (place r) g p old w.first w.last in_list (omega arith) (omega arith) in
        let voted = count (leb (place r)) (take N now) in
        let so_many : voted + length less ≡ majority N = omega (arith, h.so_many, more) in
        let in_limit : place r ≤ limit = omega (arith, r.room) in
        record {
          before = not_yet W x.due h;
          state = record { kept = knowing known; lost = leader now };
          message = none;
          takes =
              record {
                occasion = to_receive (end_of g);
                means = rw x.other.1 refl;
                comes =
                    rw h.asker
                    (end_recorded (me r) (record { kept = knowing h.known; lost = leader old }) (end_of g) old p
                    (record {
                      comes =
                          record {
                            addressed = addressed (me r) (end_of g) w.last (apart r g one) (λ ne. absurd (ne refl));
                            term = sym l.term;
                            says = refl;
                          };
                      role = refl;
                      more = omega arith;
                      in_log = omega arith;
                    }));
              };
          then =
              asker_acts (apart r g one)
              (record {
                known = known;
                lengths = now;
                asker = refl;
                before = λ left. omega (arith, low, majority_place_few N (place r) now most (omega arith) (lt-leb (majority N) voted (omega arith)));
                at_last =
                    λ left. omega (arith, low, majority_place_all N (place r) now most in_limit (le-leb (majority N) voted (omega arith)));
                seven = length-set old (g - 1) p ∙ h.seven;
                so_many = so_many;
                zeros =
                    λ y n.
                    set_hub_other old g y 0 p w.first (first r y (x.within y (rest y n))) (without_other gone x.once y n)
                    ∙ h.zeros y (rest y n);
                most = most;
              })
              x.other.0;
        }

    -- Each of the three turns for a hub.
    choose_turn : EachTurns G c others (Early r) Choosing (choosing c)
    choose_turn g zero gs less W x = confirm_turn g gs less W x
    choose_turn g (suc zero) gs less W x = take_turn g gs less W x
    choose_turn g (suc (suc zero)) gs less W x = send_turn g gs less W x
    choose_turn g (suc (suc (suc n))) gs less W x = absurd x.other

    -- ---- from the proposal to the end

    -- Nobody has answered yet.
    first_counting : Counting others (record { kept = k; lost = leader confirmed })
    first_counting =
        record {
          known = k.chosen;
          lengths = confirmed;
          asker = refl;
          before = λ left. l.chosen;
          at_last = λ left. absurd (omega (arith, r.many, (who r c here).least));
          seven = l.seven;
          so_many = omega (arith, l.alone, r.many);
          zeros = l.zeros;
          most = l.most;
        }

    -- All have answered.
    all_heard : (W : Stage) → Counting [] (W.states c) → ((g : ℕ) → g ∈ others → Holds (W.states g)) → AtLast W
    all_heard W h held =
        record {
          chosen = rw h.asker (h.at_last refl);
          long = rw h.asker l.long;
          entry = l.entry;
          last = rw h.asker l.last;
          is = l.is;
          held = λ g n. let (ballot, log) = held g n in rw h.asker (ballot ∙ sym l.ballot, log);
        }

    -- From a leader that has the command, however the turns are mixed.
    chooses :
        {ts : List Turn} → Mixed others (choosing c) (λ g. 3) ts → (W : Stage) → W.states c ≡ record { kept = k; lost = leader confirmed }
        → ((g : ℕ) → g ∈ others → W.states g ≡ follows r g) → Goes G (Early r) AtLast W (ts ++ [])
    chooses m W asker others_follow =
        mixed (apart r) (first r) (choosing_between c) choose_turn (λ X h held. ends (all_heard X h held)) m others W
        (record {
          pending = all_pending r 3 (omega arith);
          asker = subst (Counting others) (sym asker) first_counting;
          other = others_follow;
        })

  -- ---- the proposal

  module _ {b : (g : ℕ) → g ∈ others → NotBelow (S c) (S g)} (W : Stage) (i : Led r b W) where
    -- What it leads with, and with the command.
    abbrev led : Kept
    led = joined (asking r) i.gathered

    abbrev longer : Kept
    longer = with_entry led command

    abbrev first_lengths : List ℕ
    first_lengths = set_hub (replicate hubs_most 0) c (length led.log)

    abbrev lengths : List ℕ
    lengths = set_hub first_lengths c (length longer.log)

    -- The longest log among them all.
    led_long : length led.log ≡ longest S (c ∷ others)
    unfolding with_term
    led_long = joined_length (asking r) i.gathered ∙ i.so_long

    -- One entry more, which it alone has confirmed.
    has_proposed : Proposed longer lengths
    unfolding with_entry joined with_term longest
    has_proposed =
        let zeros : List ℕ = replicate hubs_most 0 in
        let p = length longer.log in
        let new : Entry = record { term = led.term; command = command } in
        let mine = who r c here in
        let same : lengths ≡ set_hub zeros c p = set-set zeros (c - 1) (length led.log) p in
        let long : p ≡ place r = omega (arith, with_entry_length led command, led_long) in
        let inside : c - 1 < hubs_most = omega (arith, mine.first, mine.last, mine.most) in
        let none-there = get_or-replicate {A = ℕ} hubs_most (c - 1) 0 0 inside in
        let in_list : c ≤ length zeros = omega (arith, mine.last, mine.most) in
        let more = confirmed_more G.size (place r) c p zeros mine.first mine.last in_list (omega (arith, none-there)) (omega arith) in
        let none_yet = count_replicate (leb (place r)) hubs_most 0 (lt-leb (place r) 0 (omega arith)) in
        record {
          term = refl;
          ballot = refl;
          chosen = omega (arith, (kept r).chosen);
          long = long;
          entry = new;
          last =
              ap (λ (n : ℕ). get_elem? longer.log n) (let z : longest S (c ∷ others) ≡ length led.log + 0 = omega (arith, led_long) in z)
              ∙ at_second led.log (new ∷ []) 0;
          is = refl;
          seven = ap length same ∙ length-set zeros (c - 1) p;
          alone =
              ap (λ (e : List ℕ). count (leb (place r)) (take G.size e)) same
              ∙ omega (arith, more, count_take (leb (place r)) G.size zeros, none_yet);
          zeros =
              λ g n.
              let w = who r g (there n) in
              ap (λ (e : List ℕ). for_hub e g 0) same
              ∙ set_hub_other zeros c g 0 p mine.first w.first (apart r g n)
              ∙ get_or-replicate hubs_most (g - 1) 0 0 (omega (arith, w.first, w.last, w.most));
          most =
              ap (all (λ n. leb n (place r))) same
              ∙ all_set (λ n. leb n (place r)) zeros (c - 1) p (all_replicate (λ n. leb n (place r)) hubs_most 0 (le-leb 0 (place r) (omega arith)))
              (le-leb p (place r) (omega arith));
        }

    -- The second half.
    pub proposing :
        (bytes : List ℕ) → read_proposal bytes ≡ some command → {ts : List Turn} → Mixed others (choosing c) (λ g. 3) ts
        → Goes G (Early r) AtLast W (turn c (proposes bytes) 0 ∷ (ts ++ []))
    unfolding meant changed leads joined with_term
    proposing bytes proposed m =
        let s = leads (me r) led (replicate hubs_most 0) in
        let room : length led.log < limit = omega (arith, led_long, r.room) in
        let takes : Takes G W (turn c (proposes bytes) 0) (leads (me r) longer first_lengths) none =
        record {
          occasion = to_propose bytes;
          means = refl;
          comes = rw i.asker (proposal_joins (me r) s first_lengths bytes command refl proposed room);
        } in
        next (still_early r W (rw i.asker refl)) takes
        (chooses longer lengths has_proposed m _ (put_same W.states c _)
        (λ g n. put_other W.states c _ g (apart r g n) ∙ i.others_follow g n))
