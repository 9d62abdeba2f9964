-- What a vote-yes makes of a candidate's head, and of its bytes once the votes are counted. Assumes nothing.
use Rattle.std.specs.Prelude.{ℕ, ◌+◌, ◌-◌, ◌*◌, ◌≤◌, ◌≡◌, true, cond, List, leb, length, set}
use Rattle.std.proofs.lemmas.List.Edits.{sets}
use Rattle.kinds.specs.Of.{place}
use Rattle.kinds.specs.Sizes.{Who, hubs_most, majority, limit, row_size}
use Rattle.command.specs.Entry.{Entry}
use Rattle.state.specs.declared.Head.{Head}
use Rattle.state.specs.Legal.{count}
use Rattle.state.specs.Image.{head_size, state_size}
use Rattle.state.specs.Head.{bytes_of_head}
use Rattle.promise.specs.Promise.{HearsYes}
use Rattle.promise.specs.Heads.{leading}
use Rattle.rows.specs.Words.{renumbered}

-- What holds where a vote-yes is heard, with whatever last it came.
pub record Hears (w : Who) (l : List ℕ) (from ballot : ℕ) (entries : List Entry) : Type 0 where
  pub last : ℕ
  pub yes : HearsYes w l from last ballot entries

-- A candidate's head with one voter more, and n entries gathered.
unfoldable pub with_voter : Head → ℕ → ℕ → Head
with_voter h from n =
    record {
      term = h.term;
      ballot = h.ballot;
      chosen = h.chosen;
      length = h.length;
      gathered = place n;
      role = h.role;
      voters = set h.voters (from - 1) true;
      confirmed = h.confirmed;
    }

-- What holds where votes are counted: the own number is a hub's, and all rows of the head have a place.
pub record Counts (w : Who) (h : Head) (l : List ℕ) : Type 0 where
  pub own_first : 1 ≤ w.own
  pub own_last : w.own ≤ hubs_most
  pub room : h.length.0 + h.gathered.0 ≤ limit
  pub long : length l ≡ state_size

-- The bytes after the votes of a candidate's head are counted: with a majority the gathered rows take its term, and it leads; otherwise its head is written.
unfoldable pub counted_into : Who → Head → List ℕ → List ℕ
counted_into w h l =
    let n = h.gathered.0 in
    cond (leb (majority w.size) (count (λ v. v) h.voters))
    (sets (renumbered l (head_size + h.length.0 * row_size) n h.term.0) 0 (bytes_of_head (leading h w.own)))
    (sets l 0 (bytes_of_head h))
