-- What a hub keeps changes only where its term, its ballot, chosen or the length of its log does. So firmware that compares these four numbers
-- knows whether there is anything to store. Assumes nothing.
use Prim.Native.Nat.{ℕ, ◌+◌, ◌≤◌}
use native.Mathlib.Omega.{arith}
use mathlib.Core.Path.{◌≡◌, refl, sym}
use mathlib.Core.Bool.{Bool, true, false, not, ◌&&◌, ◌||◌}
use mathlib.Core.List.{List, [], ◌∷◌}
use mathlib.Core.Option.{Option, none, some}
use borrow.Author.Tests.{eqb-true, eq-eqb, leb-true, leb-false, ltb-true}
use lib.Dec.{eqb, leb, ltb}
use lib.ListN.{length, take, length-append}
use lib.Seq.{length-take-le}
use Rattle.kinds.specs.Sizes.{Who, is_hub, majority, limit, term_most}
use Rattle.kinds.specs.Hubs.{for_hub, set_hub, count}
use Rattle.command.specs.Command.{Command}
use Rattle.command.specs.Entry.{Entry}
use Rattle.command.specs.Proposal.{read_proposal}
use Rattle.message.specs.Message.{Message, Body, vote_request, vote_yes, vote_no, append, append_yes, append_no}
use Rattle.message.specs.Legal.{legal_message}
use Rattle.state.specs.State.{Kept, Lost, follower, candidate, leader, State}
use Rattle.state.specs.Legal.{legal_lost, legal_state}
use Rattle.rules.specs.Outcome.{Next}
use Rattle.rules.specs.Events.{is_leader, len, term_at, with_term, leads, started, start, with_entry, propose_leading, propose, send, restart}
use Rattle.rules.specs.Receive.{Effect, idle, effect, joined, counted, heard_yes, fits, replaced, taken, heard_append, recorded, heard_end, rule, is_misaddressed, is_stale, contradicts, at_own_term, receive}
use Rattle.rules.specs.Happens.{to_start, to_propose, to_send, to_restart, to_receive, happens, legal_at}
use Rattle.kept.specs.Change.{ChangeShows}
use Rattle.kinds.proofs.BoolLaws.{and_first, or_either, cond_either}
use Rattle.state.proofs.LegalLaws.{legal_candidate_is, legal_state_lost}
use Rattle.rules.proofs.Theorems.{raised_term}

-- With the same term, ballot and length the log is the same.
abbrev Shows : Kept → Kept → Type 0
Shows k n = n.term ≡ k.term → n.ballot ≡ k.ballot → length n.log ≡ length k.log → n.log ≡ k.log

-- What the rules do with a message shows.
abbrev ShowsBy : Kept → Effect → Type 0
ShowsBy k idle = Unit {0}
ShowsBy k (effect next m) = Shows k next.kept

-- ---- an append

-- An append that fits begins within the log.
near : (k : Kept) (prev prevterm end : ℕ) → fits k prev prevterm end ≡ true → prev ≤ length k.log
unfolding fits
near k prev prevterm end h =
    let n = length k.log in
    let here = leb prev n && eqb (term_at k.log prev) prevterm in
    or_either (eqb prev 0) here (and_first (eqb prev 0 || here) (eqb k.ballot k.term || leb n end) h)
    (λ z. omega (arith, eqb-true prev 0 z))
    (λ z. leb-true prev n (and_first (leb prev n) (eqb (term_at k.log prev) prevterm) z))

-- A log of this ballot is replaced only by a longer one.
replaced_shows :
    (k : Kept) (prev : ℕ) (entries : List Entry) → prev ≤ length k.log → k.term ≡ k.ballot
    → length (replaced k prev entries) ≡ length k.log → replaced k prev entries ≡ k.log
unfolding replaced
replaced_shows k prev entries le same =
    let short = leb (prev + length entries) (length k.log) in
    cond_either (λ (l : List Entry). length l ≡ length k.log → l ≡ k.log) (eqb k.ballot k.term && short)
    (λ t q. refl)
    (λ t q.
    let long : short ≡ false = second (eqb k.ballot k.term) short t (eq-eqb k.ballot k.term (sym same)) in
    absurd
    (omega
    (arith, leb-false (prev + length entries) (length k.log) long, length-append (take prev k.log) entries, length-take-le prev k.log le)))
  where
    second : (a b : Bool) → (a && b) ≡ false → a ≡ true → b ≡ false
    second true b h e = h
    second false b h e = absurd (let z : ◌≡◌ {A = ℕ} 0 1 = cc in omega arith)

append_shows : (w : Who) (s : State) (from prev prevterm chosen : ℕ) (entries : List Entry) → ShowsBy s.kept (heard_append w s from prev prevterm chosen entries)
unfolding heard_append taken
append_shows w s from prev prevterm chosen entries =
    let k = s.kept in
    let end = prev + length entries in
    cond_either (ShowsBy k) (fits k prev prevterm end)
    (λ t term ballot long. replaced_shows k prev entries (near k prev prevterm end t) ballot long)
    (λ t term ballot long. refl)

-- ---- a vote

yes_shows :
    (w : Who) (k : Kept) (l : Lost) → legal_lost w k l ≡ true → (from ballot : ℕ) (entries : List Entry)
    → ShowsBy k (heard_yes w (record { kept = k; lost = l }) from ballot entries)
unfolding heard_yes counted joined leads legal_lost
yes_shows w k follower legal from ballot entries = tt
yes_shows w k (candidate voters gathered) legal from ballot entries =
    cond_either (ShowsBy k) (for_hub voters from false) (λ t. tt)
    (λ t.
    cond_either (λ (s : State). Shows k s.kept) (leb (majority w.size) (count (λ v. v) (set_hub voters from true)))
    (λ m term same long. absurd (omega (arith, (legal_candidate_is w k voters gathered legal).ballot)))
    (λ m term same long. refl))
yes_shows w k (leader confirmed) legal from ballot entries = tt

end_shows : (w : Who) (k : Kept) (l : Lost) (from end : ℕ) → ShowsBy k (heard_end w (record { kept = k; lost = l }) from end)
unfolding heard_end recorded
end_shows w k follower from end = tt
end_shows w k (candidate voters gathered) from end = tt
end_shows w k (leader confirmed) from end =
    cond_either (ShowsBy k) (ltb (for_hub confirmed from 0) end) (λ t term ballot long. refl) (λ t. tt)

rule_shows : (w : Who) (s : State) → legal_lost w s.kept s.lost ≡ true → (from : ℕ) (b : Body) → ShowsBy s.kept (rule w s from b)
unfolding rule
rule_shows w s legal from (vote_request last ballot) = λ term same long. refl
rule_shows w s legal from (vote_yes last ballot entries) = yes_shows w s.kept s.lost legal from ballot entries
rule_shows w s legal from vote_no = tt
rule_shows w s legal from (append prev prevterm chosen entries) = append_shows w s from prev prevterm chosen entries
rule_shows w s legal from (append_yes end) = end_shows w s.kept s.lost from end
rule_shows w s legal from (append_no n) = tt

own_shows : (s : State) (e : Effect) → ShowsBy s.kept e → Shows s.kept (at_own_term s e).state.kept
unfolding at_own_term
own_shows s idle h = λ term same long. refl
own_shows s (effect next m) h = h

-- ---- every event

propose_shows : (w : Who) (k : Kept) (l : Lost) (o : Option Command) → Shows k (propose w (record { kept = k; lost = l }) o).state.kept
unfolding propose propose_leading leads with_entry
propose_shows w k follower o = λ term same long. refl
propose_shows w k (candidate voters gathered) o = λ term same long. refl
propose_shows w k (leader confirmed) none = λ term same long. refl
propose_shows w k (leader confirmed) (some c) =
    cond_either (λ (n : Next). Shows k n.state.kept) (leb limit (length k.log)) (λ t term same long. refl)
    (λ t term same long. absurd (omega (arith, length-append k.log (record { term = k.term; command = c } ∷ []))))

receive_shows : (w : Who) (s : State) (m : Message) → legal_lost w s.kept s.lost ≡ true → Shows s.kept (receive w s m).state.kept
unfolding receive
receive_shows w s m legal =
    let P : Next → Type 0 = λ n. Shows s.kept n.state.kept in
    cond_either P (is_misaddressed w m) (λ e term same long. refl)
    (λ here.
    cond_either P (is_stale s m) (λ e term same long. refl)
    (λ e.
    cond_either P (ltb s.kept.term m.term)
    (λ up term same long. absurd (omega (arith, ltb-true s.kept.term m.term up, raised_term w s m.term m.from m.body)))
    (λ up. cond_either P (contradicts s m.body) (λ e term same long. refl) (λ e. own_shows s _ (rule_shows w s legal m.from m.body)))))

-- What is kept changes only where these numbers do.
pub change_shows : ChangeShows
unfolding happens start started with_term send restart legal_at
change_shows w s to_start m =
    cond_either (λ (n : Next). Shows s.kept n.state.kept) (is_leader s) (λ e term same long. refl)
    (λ e. cond_either (λ (n : Next). Shows s.kept n.state.kept) (eqb s.kept.term term_most) (λ e term same long. refl) (λ e term same long. refl))
change_shows w s (to_propose bytes) m = propose_shows w s.kept s.lost (read_proposal bytes)
change_shows w s (to_send peer prev) m =
    cond_either (λ (n : Next). Shows s.kept n.state.kept) (not (is_leader s)) (λ e term same long. refl)
    (λ e.
    cond_either (λ (n : Next). Shows s.kept n.state.kept) (not (is_hub w.size peer) || (eqb peer w.own || ltb (len s) prev))
    (λ e term same long. refl) (λ e term same long. refl))
change_shows w s to_restart m = λ term same long. refl
change_shows w s (to_receive message) m =
    receive_shows w s message (legal_state_lost w s (and_first (legal_state w s) (legal_message message) m.legal))
