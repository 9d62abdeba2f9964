-- Laws of a hub's answers: what it says to each is legal, and the code's bodies are the rules'. Assumes nothing.
use Prim.Native.Nat.{ℕ, ◌-◌, ◌≤◌, ◌<◌}
use native.Mathlib.Omega.{arith}
use mathlib.Core.Path.{◌≡◌, refl, ◌∙◌, ap₂}
use mathlib.Core.Bool.{true}
use mathlib.Core.List.{List}
use borrow.Author.Tests.{le-leb}
use lib.ListN.{length, drop, length-drop}
use Rattle.kinds.specs.declared.Place.{Place}
use Rattle.kinds.specs.declared.Term.{Term}
use Rattle.kinds.specs.Of.{place}
use Rattle.kinds.specs.Sizes.{Who, between, hubs_most, limit}
use Rattle.kinds.proofs.BetweenLaws.{between_in}
use Rattle.command.specs.Entry.{Entry}
use Rattle.message.specs.Message.{entries_of, vote_request, vote_yes, vote_no, append_no}
use Rattle.message.specs.Legal.{legal_to, legal_body}
use Rattle.message.specs.Answer.{said_with, many_in}
use Rattle.message.specs.declared.Body.{Body}
use Rattle.message.specs.declared.Body.TheVariants.{VoteYes, VoteNo, AppendYes, AppendNo}
use Rattle.state.specs.declared.Head.{Head}
use Rattle.state.specs.State.{Kept}
use Rattle.state.specs.Image.{state_in}
use Rattle.rules.specs.Events.{len, says}
use Rattle.rules.specs.Receive.{ballot_told, vote}
use Rattle.rules.proofs.VoteLaws.{vote_either, yes_legal}
use Rattle.message.proofs.LegalLaws.{request_is}
use Rattle.rules.proofs.Fair.{says_legal}
use Rattle.promise.specs.Append.{Tested}
use Rattle.promise.proofs.PromiseLaws.{ready_who}
use Rattle.promise.proofs.AppendLaws.{tested_length, tested_ballot}
use Rattle.say.specs.Said.{Said, Answering}
use Rattle.say.specs.Spoken.{Speaks}
use Rattle.say.proofs.SpokenLaws.{tested_kept, tested_within}

-- ---- the answer to a vote-request

module _ (k : Kept) (last ballot : ℕ) where
  abbrev told : ℕ
  told = ballot_told (length k.log) k.ballot

  -- The ballot told is higher.
  vote_higher : ballot < told → vote k last ballot ≡ vote_no
  vote_higher h = vote_either k last (λ b. b ≡ vote_no) ballot (λ low. absurd (omega arith)) (λ high. refl)

  -- It is not.
  vote_given : told ≤ ballot → vote k last ballot ≡ vote_yes last told (drop last k.log)
  vote_given h = vote_either k last (λ b. b ≡ vote_yes last told (drop last k.log)) ballot (λ low. refl) (λ high. absurd (omega arith))

-- ---- what an answer needs

module _ (w : Who) (h : Head) (l : List ℕ) (tested : Tested w h l) (to : ℕ) (out : List ℕ) (a : Answering (state_in l) to out) where
  abbrev log : List Entry
  log = (state_in l).kept.log

  to_hub : between 1 hubs_most to ≡ true
  to_hub = between_in 1 hubs_most to a.to_first a.to_last

  -- Any body, if it is legal.
  may_say :
      (body : Body) (after : ℕ) → after ≤ limit → many_in body ≡ length (entries_of (said_with body (drop after log)))
      → legal_to to (said_with body (drop after log)) ≡ true → legal_body (state_in l).kept.term (said_with body (drop after log)) ≡ true
      → Speaks w l to body after out
  may_say body after within counted t b =
      let s = state_in l in
      record {
        place = within;
        counted = counted;
        legal = (says_legal w (ready_who w l tested.ready) s s to (said_with body (drop after log)) refl a.risen (tested_kept w h l tested).term t b).legal;
        room = a.room;
      }

  -- vote-no.
  pub may_say_no : Speaks w l to VoteNo h.length.0 out
  unfolding entries_of legal_to legal_body
  may_say_no = may_say VoteNo h.length.0 (tested_within w h l tested) refl to_hub refl

  -- append-no with own length.
  pub may_say_length : Speaks w l to (AppendNo h.length) h.length.0 out
  unfolding entries_of legal_to legal_body
  may_say_length =
      let within = tested_within w h l tested in
      may_say (AppendNo h.length) h.length.0 within refl to_hub (le-leb h.length.0 limit within)

  -- append-yes with an end that is a place.
  pub may_say_end : (end : Place) → end.0 ≤ limit → Speaks w l to (AppendYes end) h.length.0 out
  unfolding entries_of legal_to legal_body
  may_say_end end most = may_say (AppendYes end) h.length.0 (tested_within w h l tested) refl to_hub (le-leb end.0 limit most)

  -- The length that is said is the log's.
  pub said_length :
      {r : ℕ} {out' : List ℕ} → Said (says w (state_in l) to (append_no h.length.0)) out r out'
      → Said (says w (state_in l) to (append_no (len (state_in l)))) out r out'
  said_length said = rw (tested_length w h l tested) at said

  -- What is told of the head is told of the hub.
  module _ {told : Term} (t : told.0 ≡ ballot_told h.length.0 h.ballot.0) (last ballot : ℕ) where
    abbrev kept : Kept
    kept = (state_in l).kept

    told_is : told.0 ≡ ballot_told (length kept.log) kept.ballot
    told_is = t ∙ ap₂ ballot_told (tested_length w h l tested) (tested_ballot w h l tested)

    -- The ballot told is higher: no.
    pub said_no :
        {r : ℕ} {out' : List ℕ} → ballot < told.0 → Said (says w (state_in l) to vote_no) out r out'
        → Said (says w (state_in l) to (vote kept last ballot)) out r out'
    said_no high said = rw (vote_higher kept last ballot (omega (arith, told_is))) said

    module _ (b : legal_body kept.term (vote_request last ballot) ≡ true) (low : told.0 ≤ ballot) where
      not_higher : ballot_told (length kept.log) kept.ballot ≤ ballot
      not_higher = omega (arith, told_is)

      -- It is not: yes, with the entries after last.
      pub may_say_yes : {count : ℕ} → count ≡ h.length.0 - last → Speaks w l to (VoteYes (place last) told count) last out
      unfolding entries_of legal_to
      may_say_yes {count} n =
          let request = request_is kept.term last ballot b in
          may_say (VoteYes (place last) told count) last request.within
          (omega (arith, n, tested_length w h l tested, length-drop last log)) to_hub
          (rw told_is (yes_legal kept last (tested_kept w h l tested) request.within (omega (arith, not_higher, request.below))))

      -- That is the vote.
      pub said_yes :
          {r : ℕ} {out' : List ℕ} → Said (says w (state_in l) to (vote_yes last told.0 (drop last log))) out r out'
          → Said (says w (state_in l) to (vote kept last ballot)) out r out'
      said_yes said = rw (vote_given kept last ballot not_higher) (rw told_is at said)
