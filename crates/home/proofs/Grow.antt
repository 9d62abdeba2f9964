-- A leader's log grows: by what it gathered when it comes to lead, by one entry when it takes a proposal. Its term's log in `made` becomes
-- its own; it still matches, and no other hub leads that term. Assumes nothing.
use Prim.Native.Nat.{ℕ, suc, ◌≤◌, ◌<◌}
use native.Mathlib.Omega.{arith}
use mathlib.Core.Path.{◌≡◌, refl, sym, ◌∙◌, ap, subst}
use mathlib.Core.Logic.{◌≢◌}
use mathlib.Core.Bool.{Bool, true}
use mathlib.Core.List.{List, ◌++◌}
use mathlib.Core.Option.{none, some}
use lib.ListN.{length, get_elem?}
use Rattle.command.specs.Command.{Command}
use Rattle.command.specs.Entry.{Entry}
use Rattle.state.specs.State.{Kept, leader, State}
use Rattle.paxos.specs.Put.{put}
use Rattle.paxos.specs.Paxos.{Seen, never, proposed, voted, ◌∈◌}
use Rattle.paxos.proofs.PutLaws.{put_cases, put_same}
use Rattle.views.specs.Hall.{Hall, Leads}
use Rattle.views.specs.Faithful.{Faithful}
use Rattle.views.specs.Moves.{Move}
use Rattle.views.proofs.FaithfulLaws.{leads_on}
use Rattle.views.proofs.Theorems.{acts_faithful, acts_keep, acts_gifts, one_leader, holds_voted, holds_proposed}
use Rattle.kinds.specs.Sizes.{Group}
use Rattle.home.specs.View.{machine, view_of}
use Rattle.kinds.specs.Hubs.{of_hub, set_hub}
use Rattle.home.specs.Stands.{◌⊑◌, Logs, Matches, Matching, Ground, Backs}
use Rattle.kinds.proofs.AtLaws.{at_in, at_lt, at_either, at_before}
use Rattle.engine.proofs.HubsLaws.{set_hub_cases}
use Rattle.home.proofs.ViewLaws.{holds_entry}
use Rattle.home.proofs.Frame.{Later, backs_on, Goes}

-- ---- the leaders' logs

-- One term's log grows, the others stay.
put_grows : (made : Logs) (t : ℕ) (log : List Entry) → made t ⊑ log → (u : ℕ) → made u ⊑ put made t log u
put_grows made t log g = put_cases (λ u l. made u ⊑ l) made t log g (λ u ne i e q. q)

-- A log that is a part of an earlier term's, and goes on with entries of the term itself, matches.
matching_grown :
    (made : Logs) → Matching made → (t b : ℕ) (log more : List Entry) → log ⊑ made b → b ≤ t
    → ((i : ℕ) (e : Entry) → get_elem? more i ≡ some e → e.term ≡ t) → made t ⊑ (log ++ more)
    → Matching (put made t (log ++ more))
matching_grown made m t b log more pre le own grow = λ u i e q. both u i e q
  where
    M : Logs
    M = put made t (log ++ more)

    on : (u : ℕ) → made u ⊑ M u
    on = put_grows made t (log ++ more) grow

    -- What the log of the term u has to be.
    Good : ℕ → List Entry → Type 0
    Good u l =
        (i : ℕ) (e : Entry) → get_elem? l i ≡ some e
        → (e.term ≤ u) × ((j : ℕ) (f : Entry) → j ≤ i → get_elem? l j ≡ some f → get_elem? (M e.term) j ≡ some f)

    new : Good t (log ++ more)
    new i e q =
        at_either log more i e q
        (λ old.
        let x = m b i e (pre i e old) in
        let lt = at_lt log i e old in
        (omega (arith, x.low), λ j f l r. on e.term j f (x.same j f l (pre j f (at_before log more j f (omega arith) r)))))
        (λ k is mine.
        let same = own k e mine in
        (omega arith, λ j f l r. subst (λ (n : List Entry). get_elem? n j ≡ some f) (sym (put_same made t (log ++ more)) ∙ ap M (sym same)) r))

    all : (u : ℕ) → Good u (M u)
    all =
        put_cases Good made t (log ++ more) new
        (λ u ne i e q. let x = m u i e q in (x.low, λ j f l r. on e.term j f (x.same j f l r)))

    both : (u i : ℕ) (e : Entry) → get_elem? (M u) i ≡ some e → Matches M u i e
    both u i e q = let x = all u i e q in record { low = x.0; same = x.1 }

-- ---- the step

-- What a hub holds it has voted for.
pub held_voted :
    {G : Group} {J : Hall Command} → Faithful (machine G) J → (h : ℕ) (k : Kept) → J.view h ≡ view_of k
    → (i : ℕ) (e : Entry) → get_elem? k.log i ≡ some e → voted h k.ballot (suc i) e.command ∈ J.past
held_voted ok h k v i e q = holds_voted ok (ap (λ u. u.holds (suc i)) v ∙ holds_entry k.ballot k.log i e q)

-- So it was proposed.
held_proposed :
    {G : Group} {J : Hall Command} → Faithful (machine G) J → (h : ℕ) (k : Kept) → J.view h ≡ view_of k
    → (i : ℕ) (e : Entry) → get_elem? k.log i ≡ some e → proposed k.ballot (suc i) e.command ∈ J.past
held_proposed ok h k v i e q = holds_proposed ok (ap (λ u. u.holds (suc i)) v ∙ holds_entry k.ballot k.log i e q)

-- A leader's log grows by `more`, of its own term.
pub record Growth (G : Group) (H : Hall Command) (made : Logs) (h : ℕ) : Type 0 where
  pub term : ℕ
  pub chosen : ℕ
  pub log : List Entry
  pub more : List Entry
  -- The hub moves to the new log's view.
  pub move : Move (machine G) H h (view_of (record { term = term; ballot = term; chosen = chosen; log = log ++ more }))
  -- What it had was a part of the log of its ballot then.
  pub ballot : ℕ
  pub low : ballot ≤ term
  pub part : log ⊑ made ballot
  -- What is new is of this term, and nothing of this term's log is lost.
  pub own : (i : ℕ) (e : Entry) → get_elem? more i ≡ some e → e.term ≡ term
  pub keeps : made term ⊑ (log ++ more)
  -- It leads, on reports that tell of nothing beyond the new log.
  pub backers : ℕ → Bool
  pub seen : ℕ → ℕ → Seen Command
  pub leads : Leads (machine G) H.gifts term h backers seen
  pub free : (g p : ℕ) → backers g ≡ true → length (log ++ more) < p → seen g p ≡ never
  -- Who has confirmed a length has voted so far.
  pub confirmed : List ℕ
  pub first : 1 ≤ h
  pub within : h ≤ length confirmed
  pub backed : (g : ℕ) → Backs H made g term (of_hub confirmed 0 g)

module _ {G : Group} {H : Hall Command} {made : Logs} (ok : Ground G H made) {h : ℕ} (x : Growth G H made h) where
  abbrev log : List Entry
  log = x.log ++ x.more

  -- The leader then.
  abbrev pub grown : State
  grown =
      record {
        kept = record { term = x.term; ballot = x.term; chosen = x.chosen; log = log };
        lost = leader (set_hub x.confirmed h (length log));
      }

  -- The leaders' logs then.
  abbrev logs : Logs
  logs = put made x.term log

  abbrev J : Hall Command
  J = x.move.hall

  faithful : Faithful (machine G) J
  faithful = acts_faithful ok.faithful x.move.acts

  later : Later H made J logs
  later =
      record { past = acts_keep ok.faithful x.move.acts; gifts = acts_gifts x.move.acts; grows = put_grows made x.term log x.keeps }

  -- Nobody else leads this term.
  others : (u g : ℕ) → g ≢ h → (P : ℕ → Bool) (y : ℕ → ℕ → Seen Command) → Leads (machine G) H.gifts u g P y → logs u ≡ made u
  others u g ne P y l =
      put_cases (λ v m. Leads (machine G) H.gifts v g P y → m ≡ made v) made x.term log
      (λ l'. absurd (ne (one_leader ok.faithful l' x.leads)))
      (λ v nv l'. refl)
      u l

  -- So the leader goes on.
  pub grown_goes : Goes G H made h grown none
  grown_goes =
      record {
        move = x.move;
        logs = logs;
        grows = later.grows;
        others = λ u g P y ne l. others u g ne P y l;
        matching = matching_grown made ok.matching x.term x.ballot x.log x.more x.part x.low x.own x.keeps;
        proposals =
            put_cases (λ u l. (i : ℕ) (e : Entry) → get_elem? l i ≡ some e → proposed u (suc i) e.command ∈ J.past) made x.term log
            (held_proposed faithful h grown.kept x.move.mine)
            (λ u ne i e q. acts_keep ok.faithful x.move.acts _ (ok.proposals u i e q));
        prefix = λ i e q. rw put_same q;
        role =
            record {
              backers = x.backers;
              seen = x.seen;
              leads = leads_on (acts_gifts x.move.acts) x.leads;
              free = x.free;
              whole = sym (put_same made x.term log);
              backed =
                  set_hub_cases (λ g m. Backs J logs g x.term m) x.confirmed 0 (length log) h x.first x.within
                  (λ i lt.
                  let (e, q) = at_in log i lt in
                  (e, rw put_same q, held_voted faithful h grown.kept x.move.mine i e q))
                  (λ g ne. backs_on later g x.term _ (x.backed g));
            };
        wrote = tt;
      }
