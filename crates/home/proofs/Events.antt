-- The hubs keep the facts: each event by its own file, states and messages by the theorems of the rules. Assumes nothing.
use Prim.Native.Nat.{ℕ}
use mathlib.Core.Path.{subst, ◌≡◌, refl, ap}
use mathlib.Core.Bool.{true}
use mathlib.Core.List.{[]}
use mathlib.Core.Option.{Option, none, some}
use lib.Dec.{eqb}
use Rattle.kinds.specs.Sizes.{Group, is_group, is_hub, hub_of}
use Rattle.command.specs.Command.{Command}
use Rattle.command.specs.Proposal.{read_proposal}
use Rattle.message.specs.Message.{Message, Body, vote_request, vote_yes, vote_no, append, append_yes, append_no}
use Rattle.state.specs.State.{Lost, follower, candidate, leader, Kept, State, fresh}
use Rattle.state.specs.Legal.{legal_kept, legal_lost, legal_state}
use Rattle.rules.specs.Outcome.{done}
use Rattle.rules.specs.Happens.{Occasion, to_start, to_propose, to_send, to_restart, to_receive, happens, legal_at, Meets}
use Rattle.kinds.proofs.BoolLaws.{and_first, and_both}
use Rattle.state.proofs.LegalLaws.{legal_state_kept, legal_state_lost}
use Rattle.rules.proofs.LegalLaws.{IsWho, is_who}
use Rattle.rules.proofs.Theorems.{fresh_is_legal, next_is_legal, nothing_falls, message_is_legal}
use Rattle.paxos.specs.Put.{put}
use Rattle.paxos.specs.Paxos.{asked, ◌∈◌, there}
use Rattle.paxos.proofs.Member.{clash, nothing}
use Rattle.paxos.proofs.PutLaws.{put_cases}
use Rattle.views.specs.Hall.{Hall, asking}
use Rattle.views.specs.Acts.{Act}
use Rattle.views.proofs.FaithfulLaws.{act_faithful}
use Rattle.views.proofs.Theorems.{first_faithful}
use Rattle.engine.specs.Home.{adding}
use Rattle.engine.specs.Rules.{Household, Heard}
use Rattle.engine.specs.Facts as facts
use Rattle.engine.proofs.Stands.{adding_cases}
use Rattle.home.specs.View.{machine}
use Rattle.home.specs.Hub.{message_met, hub_rules}
use Rattle.home.specs.Stands.{Logs, Ground, InRole, Rooted}
use Rattle.home.specs.Facts.{Stood, Echoes, Proper, hub_facts}
use Rattle.home.proofs.Frame.{Later, standing_on, leading_on, true_on, Goes, framed}
use Rattle.home.proofs.ViewLaws.{fresh_view}
use Rattle.home.proofs.Start.{start_goes}
use Rattle.home.proofs.Propose.{propose_goes}
use Rattle.home.proofs.Send.{send_goes}
use Rattle.home.proofs.Restart.{restart_goes}
use Rattle.home.proofs.Receive.{receive_goes}
use Rattle.home.proofs.Echo.{EchoOf, stood_on, event_polite}

-- A household that stands for the machine.
abbrev pub Stands : (G : Group) → Household hub_rules → Hall Command → Type 0
Stands G W H = facts.Stands (hub_facts G) W H

-- ---- a command is asked for

module _ (G : Group) (H : Hall Command) (made : Logs) (c : Command) where
  on : Later H made (asking H c) made
  on = record { past = λ a m. there m; gifts = λ a m. m; grows = λ t i e q. q }

  asked_role : (h : ℕ) (k : Kept) (l : Lost) → InRole G H made h k l → InRole G (asking H c) made h k l
  asked_role h k follower r = tt
  asked_role h k (candidate voters gathered) r = standing_on on r
  asked_role h k (leader confirmed) r = leading_on on refl r

  asked_rooted : (h : ℕ) (s : State) → Rooted G H made h s → Rooted G (asking H c) made h s
  asked_rooted h s f = record { view = f.view; prefix = f.prefix; role = asked_role h s.kept s.lost f.role }

  asked_ground : Ground G H made → Ground G (asking H c) made
  asked_ground ok =
      record { faithful = act_faithful ok.faithful Act.to_ask; matching = ok.matching; proposals = λ t i e q. there (ok.proposals t i e q) }

-- ---- one event

module _ (G : Group) (group : is_group G ≡ true) (W : Household hub_rules) (H : Hall Command) (ok : Stands G W H) (h : ℕ) (hub : is_hub G.size h ≡ true) where
  who : IsWho (hub_of G h)
  who = is_who (hub_of G h) group hub

  abbrev s : State
  s = W.states h

  -- What is legal at each event.
  pub legal_at_lem : (o : Occasion) → Heard hub_rules W.sent o → legal_at (hub_of G h) s o ≡ true
  unfolding legal_at legal_state
  legal_at_lem to_start i = ok.among.legal h
  legal_at_lem (to_propose bytes) i = ok.among.legal h
  legal_at_lem (to_send peer prev) i = ok.among.legal h
  legal_at_lem to_restart i = and_first (legal_kept s.kept) (legal_lost (hub_of G h) s.kept s.lost) (ok.among.legal h)
  legal_at_lem (to_receive m) i = and_both (ok.among.legal h) (ok.among.well m (i m refl))

  pub meets : (o : Occasion) → Heard hub_rules W.sent o → Meets (hub_of G h) s o
  meets o i = record { size = group; own = hub; legal = legal_at_lem o i }

  -- A hub's step, by its event.
  event_goes :
      (o : Occasion) → Heard hub_rules W.sent o
      → let n = happens (hub_of G h) s o in
      ((c : Command) → hub_rules.asks o ≡ some c → eqb n.outcome done ≡ true → asked c ∈ H.past)
      → Goes G H ok.ghost h n.state n.message
  unfolding happens
  event_goes to_start i a = start_goes ok.ground who (ok.hubs h)
  event_goes (to_propose bytes) i a =
      propose_goes ok.ground who (ok.hubs h) (legal_state_lost (hub_of G h) s (ok.among.legal h)) (read_proposal bytes) a
  event_goes (to_send peer prev) i a = send_goes ok.ground (ok.hubs h) (legal_state_kept (hub_of G h) s (ok.among.legal h)) peer prev
  event_goes to_restart i a = restart_goes ok.ground (ok.hubs h)
  event_goes (to_receive m) i a =
      receive_goes ok.ground who (ok.hubs h) m (ok.sent m (i m refl)) (ok.among.well m (i m refl))
      (legal_state_lost (hub_of G h) s (ok.among.legal h))

  -- What messages told of another hub stays so, and of this one too.
  still_echoes :
      (n : State) → ((t last ballot : ℕ) → Stood s t last ballot → Stood n t last ballot)
      → (t from to : ℕ) (b : Body) → Echoes W.states t from to b → Echoes (put W.states h n) t from to b
  still_echoes n on t from to (vote_request last ballot) x =
      put_cases (λ g y. Stood (W.states g) t last ballot → Stood y t last ballot) W.states h n (on t last ballot) (λ g ne y. y) from x
  still_echoes n on t from to (vote_yes last ballot entries) x =
      put_cases (λ g y. Stood (W.states g) t last ballot → Stood y t last ballot) W.states h n (on t last ballot) (λ g ne y. y) to x
  still_echoes n on t from to vote_no x = tt
  still_echoes n on t from to (append prev prevterm chosen entries) x = tt
  still_echoes n on t from to (append_yes end) x = tt
  still_echoes n on t from to (append_no k) x = tt

  -- States and messages after the event.
  event_among : (o : Occasion) → Heard hub_rules W.sent o → let n = happens (hub_of G h) s o in Proper G (put W.states h n.state) (adding n.message W.sent)
  event_among o i =
      let n = happens (hub_of G h) s o in
      let polite = event_polite G h W.states o (λ m e. ok.among.echoes m (i m (ap message_met e))) in
      let grows = nothing_falls (hub_of G h) s o (meets o i) in
      record {
        legal =
            put_cases (λ g x. legal_state (hub_of G g) x ≡ true) W.states h n.state (next_is_legal (hub_of G h) s o (meets o i))
            (λ g ne. ok.among.legal g);
        well =
            λ m j.
            adding_cases n.message j (λ e. (message_is_legal (hub_of G h) s o (meets o i) m e).legal) (ok.among.well m);
        echoes =
            λ m j.
            adding_cases n.message j
            (λ e. echo_of (put W.states h n.state) n.message polite.wrote m e)
            (λ old.
            still_echoes n.state (λ t last ballot. stood_on s n.state t last ballot grows.term polite.stays)
            m.term m.from m.to m.body (ok.among.echoes m old));
      }
    where
      echo_of : (f : ℕ → State) (x : Option Message) → EchoOf f x → (m : Message) → x ≡ some m → Echoes f m.term m.from m.to m.body
      echo_of f none y m e = clash (cc)
      echo_of f (some w) y m e =
          let same : w ≡ m = cc in subst (λ (v : Message). Echoes f v.term v.from v.to v.body) same y

-- ---- all of it

-- The hubs keep the facts.
pub hub_kept : (G : Group) → is_group G ≡ true → facts.FactsKept G (hub_facts G)
unfolding fresh
hub_kept G group =
    record {
      ghost = λ t. [];
      ground = record { faithful = first_faithful (machine G); matching = λ t i e q. clash (cc); proposals = λ t i e q. clash (cc) };
      fresh = λ h. record { view = fresh_view; prefix = λ i e q. q; role = tt };
      fresh_among = record { legal = λ h. fresh_is_legal (hub_of G h); well = λ m i. nothing i; echoes = λ m i. nothing i };
      asked_ground = asked_ground G;
      asked_rooted = asked_rooted G;
      asked_true = λ H made c m t. true_on (on G H made c) G m t;
      goes = λ W H ok h o hub i a. framed ok.ground (event_goes G group W H ok h hub o i a);
      met_among = λ W H ok h o hub i. event_among G group W H ok h hub o i;
    }
