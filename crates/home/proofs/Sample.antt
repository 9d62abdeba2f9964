-- The claims are not empty. In a group of three, hub 3 is elected and stores nothing. Hub 1 is elected on its vote, though hub 3 has the higher
-- ballot, takes a command, sends it to hub 2 and reports it; the append comes to hub 2 twice, and what is sent to hub 3 is lost. Then hub 2
-- is elected on the votes of 2 and 3, sends what it has to hub 3, and reports the same. Hub 1 loses power and comes back with anything in
-- place of the lost parts, and a message comes to hub 2 damaged: both still report the command. Computed by the rules, and carried over to a
-- home of bytes and texts. Assumes nothing.
use Prim.Native.Nat.{ℕ}
use mathlib.Core.Path.{◌≡◌, refl, sym, ◌∙◌, ap, subst}
use mathlib.Core.Logic.{inl, inr}
use mathlib.Core.Bool.{true}
use mathlib.Core.List.{List, [], ◌∷◌, ◌++◌}
use mathlib.Core.Option.{none, some}
use lib.ListN.{take, drop, replicate}
use Rattle.kinds.specs.Sizes.{Group, is_hub, hub_of, text_room}
use Rattle.text.specs.Ascii.{ascii}
use Rattle.command.specs.Entry.{Entry}
use Rattle.message.specs.Message.{Message, Body, vote_request, vote_yes, append, append_yes}
use Rattle.message.specs.Text.{read}
use Rattle.state.specs.State.{reported_at}
use Rattle.state.specs.Legal.{legal_state}
use Rattle.state.specs.Image.{image, head_size, read_kept, reported_in}
use Rattle.state.proofs.ImageLaws.{read_kept_image}
use Rattle.state.proofs.ReportLaws.{reported_in_image}
use Rattle.rules.specs.Outcome.{done}
use Rattle.rules.specs.Step.{event_of, step_of}
use Rattle.rules.specs.Happens.{Occasion, to_start, to_propose, to_send, to_receive, happens}
use Rattle.rules.specs.Samples.{buzz, buzz_bytes, ms250, half_gain}
use Rattle.rules.proofs.Computed.{computed}
use Rattle.paxos.specs.Put.{put}
use Rattle.paxos.specs.Paxos.{◌∈◌, here, there}
use Rattle.paxos.proofs.Member.{clash}
use Rattle.engine.specs.Home.{adding, after, Fair, Reached}
use Rattle.engine.specs.Safe.{Reports}
use Rattle.engine.specs.Rules.{Household, fresh_household, met, Meetings, none_yet, meeting}
use Rattle.engine.proofs.RunsLaws.{runs_one, runs_trans}
use Rattle.engine.proofs.Stands.{meetings_stand}
use Rattle.engine.proofs.Upholds.{meetings_run}
use Rattle.home.specs.Hub.{Deed, call_for, text_for, is_restart, hub_engine, HomeOfHubs, hub_rules}
use Rattle.home.proofs.Events.{hub_kept}
use Rattle.home.proofs.Deeds.{IsWritten, enacted}
use Rattle.home.proofs.Theorems.{hub_writes, stability}

-- Three hubs.
abbrev trio : Group
trio = record { size = 3 }

-- A message of this term, from this hub to that one.
abbrev says : ℕ → ℕ → ℕ → Body → Message
says t from to b = record { term = t; from = from; to = to; body = b }

-- A hub meets an event.
abbrev then : Household hub_rules → ℕ → Occasion → Household hub_rules
then W h o = met hub_rules trio W h o

abbrev entry : Entry
entry = record { term = 2; command = buzz }

-- ---- on values

-- Hub 3 is elected at term 1 by hub 1, and has nothing to send.
abbrev led_in_vain : Household hub_rules
led_in_vain =
    then
    (then (then (fresh_household hub_rules) 3 to_start) 1 (to_receive (says 1 3 0 (vote_request 0 0))))
    3 (to_receive (says 1 1 3 (vote_yes 0 0 [])))

-- Hub 1, with ballot 0, is elected at term 2 by hub 3, with ballot 1 and an empty log.
abbrev elected : Household hub_rules
elected =
    then
    (then (then led_in_vain 1 to_start) 3 (to_receive (says 2 1 0 (vote_request 0 0))))
    1 (to_receive (says 2 3 1 (vote_yes 0 0 [])))

-- It takes a command and sends it to hub 2, which hears of it twice and confirms it, and to hub 3, which never does.
abbrev confirmed : Household hub_rules
confirmed =
    then
    (then
    (then
    (then (then (then elected 1 (to_propose (buzz_bytes ms250 half_gain))) 1 (to_send 3 0)) 1 (to_send 2 0))
    2 (to_receive (says 2 1 2 (append 0 0 0 (entry ∷ [])))))
    2 (to_receive (says 2 1 2 (append 0 0 0 (entry ∷ [])))))
    1 (to_receive (says 2 2 1 (append_yes 1)))

-- Hub 2 is elected at term 3 by hub 3, which knows of nothing.
abbrev changed : Household hub_rules
changed =
    then
    (then (then confirmed 2 to_start) 3 (to_receive (says 3 2 0 (vote_request 1 2))))
    2 (to_receive (says 3 3 2 (vote_yes 1 0 [])))

-- It sends what it has to hub 3, which confirms it.
abbrev final : Household hub_rules
final =
    then
    (then (then changed 2 (to_send 3 0)) 3 (to_receive (says 3 2 3 (append 0 0 0 (entry ∷ [])))))
    2 (to_receive (says 3 3 2 (append_yes 1)))

-- A hub of the group meets an event that brings no message, or receives one that was written.
alone : (W : Household hub_rules) → Meetings hub_rules trio W → (h : ℕ) → is_hub 3 h ≡ true → (o : Occasion) → hub_rules.hears o ≡ none → Meetings hub_rules trio (then W h o)
alone W r h hub o e = meeting r h hub o (λ m q. clash (cc))

hears : (W : Household hub_rules) → Meetings hub_rules trio W → (h : ℕ) → is_hub 3 h ≡ true → (m : Message) → m ∈ W.sent → Meetings hub_rules trio (then W h (to_receive m))
hears W r h hub m i = meeting r h hub (to_receive m) (λ n q. let same : m ≡ n = cc in subst (λ (x : Message). x ∈ W.sent) same i)

-- Each event was met by a hub, and each received message was written.
run : Meetings hub_rules trio final
unfolding computed put happens met adding
run =
    let o = hears _ (hears _ (alone _ none_yet 3 refl to_start refl) 1 refl _ here) 3 refl _ here in
    let a = hears _ (hears _ (alone _ o 1 refl to_start refl) 3 refl _ here) 1 refl _ here in
    let b = alone _ (alone _ (alone _ a 1 refl (to_propose (buzz_bytes ms250 half_gain)) refl) 1 refl (to_send 3 0) refl) 1 refl (to_send 2 0) refl in
    let c = hears _ (hears _ (hears _ b 2 refl _ here) 2 refl _ (there here)) 1 refl _ here in
    let d = hears _ (hears _ (alone _ c 2 refl to_start refl) 3 refl _ here) 2 refl _ here in
    hears _ (hears _ (alone _ d 2 refl (to_send 3 0) refl) 3 refl _ here) 2 refl _ here

-- Both leaders report the command at place 1: the first one then and ever after, the second one in the end.
both_report :
    (reported_at (confirmed.states 1).kept 1 ≡ some buzz)
    × (reported_at (final.states 1).kept 1 ≡ some buzz)
    × (reported_at (final.states 2).kept 1 ≡ some buzz)
unfolding computed put happens met adding reported_at
both_report = (refl, refl, refl)

-- ---- on bytes

-- Bytes whose lost parts say nonsense: a leader to whom everybody has confirmed more than there is. The rows behind the log stay.
abbrev scrambled : List ℕ → List ℕ
scrambled l = take 16 l ++ (replicate 4 7 ++ (2 ∷ (replicate 35 255 ++ drop head_size l)))

-- Their kept parts are still read.
scrambled_kept : read_kept (scrambled (image (final.states 1))) ≡ some (final.states 1).kept
unfolding computed put happens met adding
scrambled_kept = refl

-- Hub 1 comes back with them.
abbrev comes_back : Deed
comes_back =
    record { hub = 1; event = 4; a = 0; b = 0; state = scrambled (image (final.states 1)); input = []; output = replicate text_room 0 }

-- That takes effect.
comes_back_done : (step_of (call_for trio comes_back)).outcome ≡ done
unfolding computed put happens met adding call_for
comes_back_done = refl

-- Of an append that hub 2 receives in this home, only the beginning comes.
abbrev damaged : HomeOfHubs → Deed
damaged H = record { hub = 2; event = 5; a = 0; b = 0; state = H.stored 2; input = ascii "type=append\nter"; output = replicate text_room 0 }

-- It can't be read.
unread : read (ascii "type=append\nter") ≡ none
unfolding computed
unread = refl

module _ (H : HomeOfHubs) (is : IsWritten H final) (legal : legal_state (hub_of trio 1) (final.states 1) ≡ true) where
  -- Both may happen.
  comes_back_fair : Fair hub_engine H comes_back
  unfolding event_of text_for is_restart
  comes_back_fair =
      record {
        honest = λ t q. clash (cc);
        stored =
            inr
            (refl, scrambled_kept ∙ sym (read_kept_image (hub_of trio 1) (final.states 1) legal) ∙ ap read_kept (sym (is.states 1)));
      }

damaged_fair : (H : HomeOfHubs) → Fair hub_engine H (damaged H)
unfolding event_of text_for
damaged_fair H = record { honest = λ t q. clash (let none-heard : none ≡ some t = rw (unread, text_for) at q in cc); stored = inl refl }

-- What a hub reports in the household it reports in the home.
reports_written :
    {H : HomeOfHubs} → IsWritten H final → (h : ℕ) → legal_state (hub_of trio h) (final.states h) ≡ true → reported_at (final.states h).kept 1 ≡ some buzz
    → Reports hub_engine H h 1 buzz
reports_written {H} is h legal r =
    ap (λ (l : List ℕ). reported_in l 1) (is.states h) ∙ reported_in_image (hub_of trio h) (final.states h) legal 1 ∙ r

-- So there is a home of three, started fresh, in which two leaders, one after the other, report a command, and go on reporting it after
-- the one has lost power and the other has received a damaged text.
pub sample_home : (I : HomeOfHubs) × Reached hub_engine trio I × Reports hub_engine I 1 1 buzz × Reports hub_engine I 2 1 buzz
unfolding computed
sample_home =
    let kept = hub_kept trio refl in
    let ok = (meetings_stand kept final run).stands in
    let (H, runs, is) = meetings_run kept (hub_writes trio refl) (λ H W J is ok h o hub i. enacted trio refl H W J is ok h hub o i) final run in
    let before : Reached hub_engine trio H = record { group = refl; runs = runs } in
    let back = after hub_engine trio H comes_back in
    let more =
    runs_trans trio H back (after hub_engine trio back (damaged back))
    (runs_one trio H comes_back (comes_back_fair H is (ok.among.legal 1))) (runs_one trio back (damaged back) (damaged_fair back)) in (
      after hub_engine trio back (damaged back),
      record { group = refl; runs = runs_trans trio _ _ _ runs more },
      stability trio refl H _ 1 1 buzz before more (reports_written is 1 (ok.among.legal 1) both_report.1),
      stability trio refl H _ 2 1 buzz before more (reports_written is 2 (ok.among.legal 2) both_report.2),
    )
