-- Laws of an append at a follower: what the code's tests say, and what its writes make of the bytes. Assumes nothing.
use Prim.Native.Nat.{ℕ, ◌+◌, ◌*◌, ◌<◌, ◌≤◌, max}
use native.Mathlib.Omega.{arith}
use mathlib.Core.Path.{◌≡◌, refl, sym, ◌∙◌, ap}
use mathlib.Core.Bool.{Bool, true, false, ◌&&◌, ◌||◌}
use mathlib.Core.List.{List, ◌++◌, map}
use borrow.Author.Tests.{eqb-true, eq-eqb, ne_eqb, leb-true, leb-false, le-leb, lt-leb}
use lib.Dec.{leb, eqb}
use lib.ListN.{length, take, drop, length-append, length-take, length-map}
use lib.Seq.{sets}
use Rattle.kinds.specs.declared.Place.{Place}
use Rattle.kinds.specs.Of.{place}
use Rattle.kinds.specs.Sizes.{Who, limit, row_size}
use Rattle.command.specs.Entry.{Entry}
use Rattle.state.specs.declared.Head.{Head}
use Rattle.state.specs.State.{Kept, Lost, follower, State}
use Rattle.state.specs.Legal.{legal_state}
use Rattle.rows.specs.Rows.{bytes_of, Row, entry_row, row_bytes}
use Rattle.state.specs.Image.{head_size, state_size, log_row, image, state_in}
use Rattle.state.specs.Head.{bytes_of_head, head_of}
use Rattle.state.specs.Table.{rows_of}
use Rattle.state.proofs.LegalLaws.{rows_of_length}
use Rattle.rows.proofs.ListLaws.{bytes_of_map}
use Rattle.rules.specs.Events.{term_at}
use Rattle.rules.specs.Receive.{fits, replaced, taken}
use Rattle.kinds.proofs.BoolLaws.{and_first, and_second, and_either, or_either, not_both}
use Rattle.message.proofs.LegalLaws.{append_is}
use Rattle.promise.specs.Promise.{Ready}
use Rattle.promise.specs.Heads.{taking}
use Rattle.promise.proofs.PromiseLaws.{ready_image, ready_legal, ready_size, ready_head, ready_who, ready_headed, ready_put}
use Rattle.promise.proofs.AppendLaws.{tested_length, tested_ballot, tested_term}
use Rattle.replace.proofs.TakingLaws.{taking_head, stays_rows, replaced_rows}
use Rattle.replace.specs.Taken.{taken_by, HearsTaking}
use Rattle.replace.proofs.TakenLaws.{taken_by_legal}

-- ---- what fits

module _ (k : Kept) (prev prevterm end : ℕ) (fit : fits k prev prevterm end ≡ true) where
  abbrev there : Bool
  there = eqb prev 0 || (leb prev (length k.log) && eqb (term_at k.log prev) prevterm)

  abbrev enough : Bool
  enough = eqb k.ballot k.term || leb (length k.log) end

  -- Prev lies in the log.
  fits_inside : prev ≤ length k.log
  unfolding fits
  fits_inside =
      let inside = leb prev (length k.log) in
      let same = eqb (term_at k.log prev) prevterm in
      or_either (eqb prev 0) (inside && same) (and_first there enough fit) (λ e. omega (arith, eqb-true prev 0 e))
      (λ e. leb-true prev (length k.log) (and_first inside same e))

  -- Where the log does not stay, the message's entries go at least to its end.
  fits_to_end : (eqb k.ballot k.term && leb end (length k.log)) ≡ false → length k.log ≤ end
  unfolding fits
  fits_to_end h =
      let own = eqb k.ballot k.term in
      let n = length k.log in
      and_either own (leb end n) h (λ f. or_either own (leb n end) (and_second there enough fit) (λ e. absurd (not_both own e f)) (λ e. leb-true n end e))
      (λ f. omega (arith, leb-false end n f))

-- ---- the bytes

module _ {w : Who} {h : Head} {l : List ℕ} {prev prevterm chosen : ℕ} {es : List Entry} (t : HearsTaking w h l prev prevterm chosen es) where
  abbrev k : Kept
  k = (state_in l).kept

  abbrev before : State
  before = record { kept = k; lost = follower }

  abbrev after : State
  after = record { kept = taken k prev chosen es; lost = follower }

  ready : Ready w l
  ready = t.tested.ready

  -- Its end is within the limit.
  pub end_within : prev + length es ≤ limit
  end_within = (append_is k.term prev prevterm chosen es t.legal).within

  -- The rows of the message's entries lie within the bytes.
  pub rows_inside : head_size + prev * row_size + length es * row_size ≤ length l
  unfolding state_size
  rows_inside = omega (arith, ready_size w l ready, end_within)

  -- The code's test of whether the append fits.
  pub fits_test :
      {b : Bool} {end : Place} → end ≡ place (prev + length es) → b ≡ fits k prev prevterm end.0 → b ≡ fits k prev prevterm (prev + length es)
  fits_test eend eb = rw (eb, eend)

  -- Whether the log stays, by the head: its ballot is its term, and the message's entries go no further than the log.
  abbrev stays : Bool
  stays = eqb k.ballot k.term && leb (prev + length es) (length k.log)

  of_head : stays ≡ (eqb h.ballot.0 h.term.0 && leb (prev + length es) h.length.0)
  of_head = rw (tested_ballot w h l t.tested, tested_term w h l t.tested, tested_length w h l t.tested)

  pub log_stays : h.ballot.0 ≡ h.term.0 → prev + length es ≤ h.length.0 → stays ≡ true
  log_stays own inside = of_head ∙ rw (eq-eqb _ _ own, le-leb _ _ inside)

  pub log_older : (h.ballot.0 ≡ h.term.0 → ⊥) → stays ≡ false
  log_older other = of_head ∙ rw (ne_eqb _ _ other)

  pub log_shorter : h.length.0 < prev + length es → stays ≡ false
  log_shorter beyond = of_head ∙ rw (lt-leb _ _ beyond) (either (eqb h.ballot.0 h.term.0))
    where
      either : (b : Bool) → (b && false) ≡ false
      either true = refl
      either false = refl

  state_is : state_in l ≡ before
  state_is = λ i. record { kept = k; lost = t.follows i }

  head_is : h ≡ head_of k follower
  head_is = t.tested.head ∙ ready_head w l ready ∙ ap (λ (x : Lost). head_of k x) t.follows

  -- It does not fit: a follower stays as it is.
  pub taken_not : fits k prev prevterm (prev + length es) ≡ false → l ≡ image (taken_by (state_in l) prev prevterm chosen es)
  unfolding taken_by
  taken_not misses = rw misses (sym (ready_image w l ready) ∙ ap image state_is)

  module _ (fit : fits k prev prevterm (prev + length es) ≡ true) where
    taken_is : taken_by (state_in l) prev prevterm chosen es ≡ after
    unfolding taken_by
    taken_is = rw fit

    after_legal : legal_state w after ≡ true
    after_legal =
        ap (legal_state w) (sym taken_is) ∙ taken_by_legal w (ready_who w l ready) (state_in l) prev prevterm chosen es (ready_legal w l ready) t.legal

    -- The head that is written.
    taken_head :
        {most n : Place} {f : Head} → most ≡ place (max h.chosen.0 chosen) → n ≡ place (length (replaced k prev es)) → f ≡ taking h most n
        → f ≡ head_of after.kept follower
    unfolding head_of
    taken_head em en ef = rw (ef, em, en, head_is) (taking_head k prev chosen es)

    -- The log stays: only the head is written.
    pub taken_stays :
        {most : Place} {f : Head} {l' : List ℕ} → stays ≡ true
        → most ≡ place (max h.chosen.0 chosen) → f ≡ taking h most h.length → l' ≡ sets l 0 (bytes_of_head f)
        → l' ≡ image (taken_by (state_in l) prev prevterm chosen es)
    unfolding head_of replaced
    taken_stays test em ef el =
        let long : h.length ≡ place (length (replaced k prev es)) = rw (head_is, test) in
        let rows : rows_of after ≡ rows_of (state_in l) = stays_rows k prev chosen es test ∙ ap rows_of (sym state_is) in
        rw (taken_is, el, taken_head em long ef) (ready_headed w l ready after after_legal rows)

    -- Entries after prev are replaced: their rows are written, then the head.
    pub taken_put :
        {most end : Place} {f : Head} {at : ℕ} {l1 l' : List ℕ} → stays ≡ false → most ≡ place (max h.chosen.0 chosen)
        → end ≡ place (prev + length es) → at ≡ head_size + prev * row_size
        → l1 ≡ sets l at (bytes_of log_row es) → f ≡ taking h most end → l' ≡ sets l1 0 (bytes_of_head f)
        → l' ≡ image (taken_by (state_in l) prev prevterm chosen es)
    unfolding replaced
    taken_put test em eend eat e1 ef el =
        let new : List Row = map entry_row es in
        let inside = fits_inside k prev prevterm (prev + length es) fit in
        let size : prev + length es ≡ length (replaced k prev es) =
        rw test (omega (arith, length-append (take prev k.log) es, length-take prev k.log)) in
        let m = length-map es entry_row in
        let rows : rows_of after ≡ take prev (rows_of (state_in l)) ++ (new ++ drop (prev + length new) (rows_of (state_in l))) =
        rw state_is (replaced_rows k prev chosen es test (fits_to_end k prev prevterm (prev + length es) fit test)) in
        let head = taken_head em (eend ∙ ap place size) ef in
        rw (taken_is, el, head, e1, eat, ← bytes_of_map row_bytes entry_row es)
        (ready_put w l ready after after_legal prev new (omega (arith, rows_of_length (state_in l))) (omega (arith, end_within)) rows)
