-- What the events make of the head of a state. Assumes nothing.
use Rattle.std.specs.Prelude.{ℕ, ◌+◌, ◌-◌, false, true, replicate, set}
use Rattle.kinds.specs.declared.Term.{Term}
use Rattle.kinds.specs.declared.Place.{Place}
use Rattle.kinds.specs.Of.{place, term}
use Rattle.kinds.specs.Sizes.{hubs_most}
use Rattle.state.specs.declared.Head.{Head}
use Rattle.kinds.specs.Role.{as_follower, as_candidate, as_leader}

-- A leader with one entry more; own confirmed length follows.
unfoldable pub grown : Head → ℕ → Head
grown h own =
    record {
      term = h.term;
      ballot = h.ballot;
      chosen = h.chosen;
      length = place (h.length.0 + 1);
      gathered = h.gathered;
      role = h.role;
      voters = h.voters;
      confirmed = set h.confirmed (own - 1) (place (h.length.0 + 1));
    }

-- Candidate: term +1, voters = itself, rest of the lost parts cleared.
unfoldable pub standing : Head → ℕ → Head
standing h own =
    record {
      term = term (h.term.0 + 1);
      ballot = h.ballot;
      chosen = h.chosen;
      length = h.length;
      gathered = place 0;
      role = as_candidate;
      voters = set (replicate hubs_most false) (own - 1) true;
      confirmed = replicate hubs_most (place 0);
    }

-- A follower of another term, lost parts cleared.
unfoldable pub following : Head → Term → Head
following h t =
    record {
      term = t;
      ballot = h.ballot;
      chosen = h.chosen;
      length = h.length;
      gathered = place 0;
      role = as_follower;
      voters = replicate hubs_most false;
      confirmed = replicate hubs_most (place 0);
    }

-- A leader with another confirmed length of hub from, and the chosen count that follows.
unfoldable pub confirming : Head → ℕ → Place → Place → Head
confirming h from end chosen =
    record {
      term = h.term;
      ballot = h.ballot;
      chosen = chosen;
      length = h.length;
      gathered = h.gathered;
      role = h.role;
      voters = h.voters;
      confirmed = set h.confirmed (from - 1) end;
    }

-- A leader whose log the gathered entries have joined: ballot = term, lost parts cleared, own confirmed length = length.
unfoldable pub leading : Head → ℕ → Head
leading h own =
    record {
      term = h.term;
      ballot = h.term;
      chosen = h.chosen;
      length = place (h.length.0 + h.gathered.0);
      gathered = place 0;
      role = as_leader;
      voters = replicate hubs_most false;
      confirmed = set (replicate hubs_most (place 0)) (own - 1) (place (h.length.0 + h.gathered.0));
    }

-- A follower that took an append: ballot = term, with this chosen count and this length.
unfoldable pub taking : Head → Place → Place → Head
taking h chosen n =
    record {
      term = h.term;
      ballot = h.term;
      chosen = chosen;
      length = n;
      gathered = h.gathered;
      role = h.role;
      voters = h.voters;
      confirmed = h.confirmed;
    }
