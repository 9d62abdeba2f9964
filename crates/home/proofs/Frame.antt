-- The frame: what one hub does leaves all that is known of the others and of messages. So an event's proof speaks of its own hub alone,
-- as `Goes`, and `framed` does the rest. Histories, gifts and the leaders' logs only grow; other hubs' views stay. Assumes nothing.
use Prim.Native.Nat.{ℕ, zero, suc}
use native.Mathlib.Omega.{arith}
use mathlib.Core.Path.{◌≡◌, refl, sym, ◌∙◌, subst}
use mathlib.Core.Logic.{◌≢◌}
use mathlib.Core.Bool.{Bool}
use mathlib.Core.List.{List}
use mathlib.Core.Option.{Option, none, some}
use Rattle.kinds.specs.Sizes.{Group}
use Rattle.command.specs.Command.{Command}
use Rattle.message.specs.Message.{Message, Body, vote_request, vote_yes, vote_no, append, append_yes, append_no}
use Rattle.state.specs.State.{Kept, Pair, Lost, follower, candidate, leader, State}
use Rattle.paxos.specs.Paxos.{Seen, ◌⊆◌}
use Rattle.paxos.proofs.Member.{clash}
use Rattle.views.specs.Hall.{View, Hall, Leads}
use Rattle.views.specs.Acts.{Acts}
use Rattle.views.specs.Moves.{Move}
use Rattle.views.proofs.KeepsLaws.{settled_on}
use Rattle.views.proofs.FaithfulLaws.{leads_on}
use Rattle.views.proofs.Theorems.{acts_faithful, acts_keep, acts_gifts}
use Rattle.views.proofs.Moves.{stay, then}
use Rattle.home.specs.View.{view_of, machine}
use Rattle.engine.specs.Facts as facts
use Rattle.home.specs.Stands.{◌⊑◌, Logs, Matching, Proposed, Ground, Backs, Follows, TrueBody, True, Standing, Leading, InRole, Rooted}
use Rattle.home.specs.Facts.{hub_facts}

-- ---- what stays true

-- A later hall, with the leaders' logs as they have grown.
pub record Later (H : Hall Command) (made : Logs) (J : Hall Command) (logs : Logs) : Type 0 where
  -- Nothing is lost of the history, of the gifts, of the logs.
  pub past : H.past ⊆ J.past
  pub gifts : H.gifts ⊆ J.gifts
  pub grows : (t : ℕ) → made t ⊑ logs t

module _ {H J : Hall Command} {made logs : Logs} (on : Later H made J logs) where
  -- Votes for a leader's entries.
  pub backs_on : (h t n : ℕ) → Backs H made h t n → Backs J logs h t n
  backs_on h t n f = λ i lt. let (e, q, v) = f i lt in (e, on.grows t i e q, on.past _ v)

  follows_on : (t prev prevterm : ℕ) → Follows (made t) prev prevterm → Follows (logs t) prev prevterm
  follows_on t zero prevterm f = tt
  follows_on t (suc i) prevterm (e, q, same) = (e, on.grows t i e q, same)

  -- A candidate's reports.
  pub standing_on : {h : ℕ} {k : Kept} {voters : List Bool} {gathered : List Pair} → Standing H h k voters gathered → Standing J h k voters gathered
  standing_on x =
      record { seen = x.seen; given = λ g q. on.gifts _ (x.given g q); best = x.best }

  -- What a leader knows, if its log stays.
  pub leading_on :
      {G : Group} {h : ℕ} {k : Kept} {confirmed : List ℕ} → logs k.term ≡ made k.term → Leading G H made h k confirmed
      → Leading G J logs h k confirmed
  leading_on {h} {k} e x =
      record {
        backers = x.backers;
        seen = x.seen;
        leads = leads_on on.gifts x.leads;
        free = x.free;
        whole = x.whole ∙ sym e;
        backed = λ g. backs_on g k.term _ (x.backed g);
      }

  -- What a message says.
  pub body_on : (G : Group) (t from to : ℕ) (b : Body) → TrueBody G H made t from to b → TrueBody G J logs t from to b
  body_on G t from to (vote_request last ballot) x = tt
  body_on G t from to (vote_yes last ballot entries) x =
      record { seen = x.seen; given = on.gifts _ x.given; low = x.low; beyond = x.beyond }
  body_on G t from to vote_no x = tt
  body_on G t from to (append prev prevterm chosen entries) x =
      record {
        backers = x.backers;
        seen = x.seen;
        leads = leads_on on.gifts x.leads;
        after = follows_on t prev prevterm x.after;
        part = λ i e q. on.grows t _ e (x.part i e q);
        settled = λ i lt. let (e, q, s) = x.settled i lt in (e, on.grows t i e q, settled_on on.past (omega arith) s);
      }
  body_on G t from to (append_yes end) x = backs_on from t end x
  body_on G t from to (append_no n) x = tt

  -- Whatever it is.
  pub true_on : (G : Group) (m : Message) → True G H made m → True G J logs m
  true_on G m x = body_on G m.term m.from m.to m.body x

-- ---- what an event's proof has to give

-- What is written is true; so is nothing.
abbrev pub TrueOf : (G : Group) → Hall Command → Logs → Option Message → Type 0
TrueOf G H made none = Unit {0}
TrueOf G H made (some m) = True G H made m

-- Hub h goes to the state s and writes m.
pub record Goes (G : Group) (H : Hall Command) (made : Logs) (h : ℕ) (s : State) (m : Option Message) : Type 0 where
  -- It moves to that state's view, by actions of its own.
  pub move : Move (machine G) H h (view_of s.kept)
  -- The leaders' logs then.
  pub logs : Logs
  -- They have grown, but no other leader's.
  pub grows : (t : ℕ) → made t ⊑ logs t
  pub others : (t g : ℕ) (Q : ℕ → Bool) (x : ℕ → ℕ → Seen Command) → g ≢ h → Leads (machine G) H.gifts t g Q x → logs t ≡ made t
  -- They match, and are proposed.
  pub matching : Matching logs
  pub proposals : Proposed move.hall logs
  -- The hub is as it has to be.
  pub prefix : s.kept.log ⊑ logs s.kept.ballot
  pub role : InRole G move.hall logs h s.kept s.lost
  -- What it writes is true.
  pub wrote : TrueOf G move.hall logs m

module _ {G : Group} {H : Hall Command} {made : Logs} (ok : Ground G H made) where
  -- After a hub's move, the leaders' logs as they were.
  pub later : {J : Hall Command} → Acts (machine G) H J → Later H made J made
  later acts = record { past = acts_keep ok.faithful acts; gifts = acts_gifts acts; grows = λ t i e q. q }

  -- So the ground stays.
  pub ground_on : {J : Hall Command} → Acts (machine G) H J → Ground G J made
  ground_on acts =
      record {
        faithful = acts_faithful ok.faithful acts;
        matching = ok.matching;
        proposals = λ t i e q. acts_keep ok.faithful acts _ (ok.proposals t i e q);
      }

  -- A hub's step that leaves the leaders' logs.
  pub goes :
      {h : ℕ} {s : State} {m : Option Message} (x : Move (machine G) H h (view_of s.kept))
      → s.kept.log ⊑ made s.kept.ballot
      → InRole G x.hall made h s.kept s.lost
      → TrueOf G x.hall made m
      → Goes G H made h s m
  goes x prefix role wrote =
      record {
        move = x;
        logs = made;
        grows = λ t i e q. q;
        others = λ t g Q y ne l. refl;
        matching = ok.matching;
        proposals = (ground_on x.acts).proposals;
        prefix = prefix;
        role = role;
        wrote = wrote;
      }

  -- A hub stays as it is, and may write.
  pub stays : {h : ℕ} {s : State} {m : Option Message} → Rooted G H made h s → TrueOf G H made m → Goes G H made h s m
  stays f wrote = goes (stay f.view) f.prefix f.role wrote

  -- A hub moves first, leaving the leaders' logs, and goes on from there.
  pub goes_on :
      {h : ℕ} {v : View Command} {s : State} {m : Option Message} (x : Move (machine G) H h v) → Goes G x.hall made h s m → Goes G H made h s m
  goes_on x y =
      record {
        move = then x y.move;
        logs = y.logs;
        grows = y.grows;
        others = λ t g Q z ne l. y.others t g Q z ne (leads_on (acts_gifts x.acts) l);
        matching = y.matching;
        proposals = y.proposals;
        prefix = y.prefix;
        role = y.role;
        wrote = y.wrote;
      }

-- ---- as any engine has to show it

-- What is written is true, if anything is.
true_of : (G : Group) (H : Hall Command) (made : Logs) (o : Option Message) → TrueOf G H made o → (m : Message) → o ≡ some m → True G H made m
true_of G H made none t m e = clash (cc)
true_of G H made (some w) t m e = let same : w ≡ m = cc in subst (λ (n : Message). True G H made n) same t

module _ {G : Group} {H : Hall Command} {made : Logs} (ok : Ground G H made) {h : ℕ} {s : State} {m : Option Message} (x : Goes G H made h s m) where
  on : Later H made x.move.hall x.logs
  on = record { past = acts_keep ok.faithful x.move.acts; gifts = acts_gifts x.move.acts; grows = x.grows }

  -- Another hub's role.
  role_on : (g : ℕ) → g ≢ h → (k : Kept) (l : Lost) → InRole G H made g k l → InRole G x.move.hall x.logs g k l
  role_on g ne k follower r = tt
  role_on g ne k (candidate voters gathered) r = standing_on on r
  role_on g ne k (leader confirmed) r = leading_on on (x.others k.term g r.backers r.seen ne r.leads) r

  -- The hub goes, and leaves what is known of the others and of messages.
  pub framed : facts.Goes (hub_facts G) H made h s m
  framed =
      record {
        hall = x.move.hall;
        ghost = x.logs;
        acts = x.move.acts;
        quiet = x.move.quiet;
        ground = record { faithful = acts_faithful ok.faithful x.move.acts; matching = x.matching; proposals = x.proposals };
        frame =
            record {
              others =
                  λ g y ne f.
                  record {
                    view = x.move.others g ne ∙ f.view;
                    prefix = λ i e q. x.grows _ i e (f.prefix i e q);
                    role = role_on g ne y.kept y.lost f.role;
                  };
              said = λ w t. true_on on G w t;
            };
        mine = record { view = x.move.mine; prefix = x.prefix; role = x.role };
        wrote = true_of G x.move.hall x.logs m x.wrote;
      }
