-- Laws of counted votes: behind any head, the log's rows and the gathered ones become the bytes of the candidate that stands on or of the leader.
-- Assumes nothing.
use Prim.Native.Nat.{ℕ, ◌+◌, ◌-◌, ◌*◌, ◌≤◌, ◌<◌}
use native.Mathlib.Omega.{arith}
use mathlib.Core.Path.{◌≡◌, refl, sym, ◌∙◌}
use mathlib.Core.Bool.{Bool, true, false, cond}
use mathlib.Core.List.{List, ◌++◌, map}
use borrow.Author.Tests.{le-leb, lt-leb}
use lib.Dec.{leb}
use lib.ListN.{length, replicate, set}
use lib.Seq.{sets}
use Rattle.kinds.specs.Sizes.{Who, hubs_most, majority, limit, row_size}
use Rattle.state.specs.declared.Head.{Head}
use Rattle.state.specs.State.{Kept, Pair, candidate, State}
use Rattle.state.specs.Legal.{count}
use Rattle.rows.specs.Rows.{entry_row}
use Rattle.state.specs.Image.{head_size, role_of, voters_of, gathered_of, confirmed_of, image}
use Rattle.state.specs.Head.{bytes_of_head, head_of}
use Rattle.state.specs.Table.{pair_row, rows_of, table}
use Rattle.rows.proofs.ListLaws.{sets_front}
use Rattle.state.proofs.HeadLaws.{bytes_of_head_length}
use Rattle.state.proofs.ImageLaws.{image_is}
use Rattle.rules.specs.Events.{leads}
use Rattle.rules.specs.Receive.{joined, counted}
use Rattle.promise.specs.Heads.{leading}
use Rattle.rows.specs.Words.{renumbered}
use Rattle.gather.proofs.LeadLaws.{leading_head, lead_written}
use Rattle.gather.specs.Yes.{with_voter, counted_into}

-- ---- by what the code tests

module _ (w : Who) (h : Head) (l : List ℕ) {c : ℕ} (ec : c ≡ count (λ v. v) h.voters) where
  -- Less than a majority.
  pub counted_few : c < majority w.size → {l' : List ℕ} → l' ≡ sets l 0 (bytes_of_head h) → l' ≡ counted_into w h l
  unfolding counted_into
  counted_few few e = rw (lt-leb (majority w.size) (count (λ v. v) h.voters) (omega arith)) e

  -- A majority.
  pub counted_majority :
      majority w.size ≤ c → {n at : ℕ} {l1 l2 : List ℕ} {f : Head} → at ≡ head_size + h.length.0 * row_size → n ≡ h.gathered.0
      → l1 ≡ renumbered l at n h.term.0 → f ≡ leading h w.own → l2 ≡ sets l1 0 (bytes_of_head f) → l2 ≡ counted_into w h l
  unfolding counted_into
  counted_majority enough eat en e1 ef e2 =
      rw (le-leb (majority w.size) (count (λ v. v) h.voters) (omega arith)) (rw (e2, e1, ef, eat, en))

-- ---- the bytes

-- The head of a candidate with one voter more.
pub voter_head :
    (k : Kept) (voters : List Bool) (gathered more : List Pair) (from : ℕ)
    → with_voter (head_of k (candidate voters gathered)) from (length more) ≡ head_of k (candidate (set voters (from - 1) true) more)
unfolding with_voter head_of role_of voters_of gathered_of confirmed_of
voter_head k voters gathered more from = refl

module _
    (w : Who) (k : Kept) (voters : List Bool) (seven : length voters ≡ hubs_most) (more : List Pair) (room : length k.log + length more ≤ limit)
    (head : List ℕ) (long : length head ≡ head_size)
  where
    -- The head of a candidate with these voters and these gathered pairs, and the rows behind it.
    abbrev new : Head
    new = head_of k (candidate voters more)

    abbrev rows : List ℕ
    rows = table (map entry_row k.log ++ map pair_row more)

    abbrev stands : State
    stands = record { kept = k; lost = candidate voters more }

    -- Without a majority it stands on.
    stands_written : sets (head ++ rows) 0 (bytes_of_head new) ≡ image stands
    unfolding head_of voters_of confirmed_of rows_of gathered_of
    stands_written = sets_front head rows (bytes_of_head new) (long ∙ sym (bytes_of_head_length new seven refl)) ∙ sym (image_is stands)

    -- The votes are counted.
    pub counted_written : counted_into w new (head ++ rows) ≡ image (counted w k voters more)
    unfolding counted_into counted head_of voters_of gathered_of
    counted_written = go (leb (majority w.size) (count (λ v. v) voters))
      where
        go :
            (b : Bool)
            → cond b
            (sets (renumbered (head ++ rows) (head_size + length k.log * row_size) (length more) k.term) 0 (bytes_of_head (leading new w.own)))
            (sets (head ++ rows) 0 (bytes_of_head new))
            ≡ image (cond b (leads w (joined k more) (replicate hubs_most 0)) stands)
        go true = rw (leading_head w k more voters) (lead_written w k more head long room)
        go false = stands_written
