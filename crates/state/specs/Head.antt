-- The head of a state as the code's struct by value: the head that bytes hold, the bytes of a head, the head of a state, and which heads
-- a legal state can have. Assumes nothing.
use Rattle.std.specs.Prelude.{ℕ, zero, suc, ◌+◌, ◌-◌, Bool, false, ◌&&◌, ◌||◌, not, List, ◌∷◌, ◌++◌, map, leb, ltb, eqb, length, drop, get_or}
use Rattle.kinds.specs.declared.Place.{Place}
use Rattle.kinds.specs.Of.{place, term}
use Rattle.kinds.specs.Sizes.{Who, hubs_most, majority, limit}
use Rattle.command.specs.Words.{word, part, word_at}
use Rattle.state.specs.declared.Head.{Head}
use Rattle.state.specs.State.{Kept, Lost}
use Rattle.state.specs.Legal.{all, count}
use Rattle.rows.specs.Rows.{bytes_of}
use Rattle.state.specs.Image.{role_of, voters_of, gathered_of, confirmed_of, flags, words_in}

-- ---- bytes

-- The head that bytes hold, legal or not.
unfoldable pub head_in : List ℕ → Head
head_in l =
    record {
      term = term (word_at 0 4 l);
      ballot = term (word_at 4 4 l);
      chosen = place (word_at 8 4 l);
      length = place (word_at 12 4 l);
      gathered = place (word_at 16 4 l);
      role = word_at 20 1 l;
      voters = map (λ b. eqb b 1) (part 21 hubs_most l);
      confirmed = map place (words_in hubs_most (drop 28 l));
    }

-- The byte of a voter is 0 or 1.
unfoldable pub is_flag : ℕ → Bool
is_flag b = leb b 1

-- The four bytes of a place.
abbrev pub place_bytes : Place → List ℕ
place_bytes p = word 4 p.0

-- The bytes of a head's five numbers.
unfoldable pub number_bytes : Head → List ℕ
number_bytes h =
    word 4 h.term.0
    ++ (word 4 h.ballot.0 ++ (word 4 h.chosen.0 ++ (word 4 h.length.0 ++ word 4 h.gathered.0)))

-- The bytes of a head.
unfoldable pub bytes_of_head : Head → List ℕ
bytes_of_head h =
    word 4 h.term.0
    ++ (word 4 h.ballot.0
    ++ (word 4 h.chosen.0
    ++ (word 4 h.length.0
    ++ (word 4 h.gathered.0
    ++ (h.role ∷ (flags h.voters ++ bytes_of place_bytes h.confirmed))))))

-- ---- states

-- The head of a state with these kept and lost parts.
unfoldable pub head_of : Kept → Lost → Head
head_of k l =
    record {
      term = term k.term;
      ballot = term k.ballot;
      chosen = place k.chosen;
      length = place (length k.log);
      gathered = place (length (gathered_of l));
      role = role_of l;
      voters = voters_of l;
      confirmed = map place (confirmed_of l);
    }

-- ---- the head of a legal state

-- ballot ≤ term; chosen ≤ length ≤ the limit; an empty log if ballot is 0.
unfoldable pub kept_head : Head → Bool
kept_head h =
    leb h.ballot.0 h.term.0
    && (leb h.chosen.0 h.length.0
    && (leb h.length.0 limit && (not (eqb h.ballot.0 0) || eqb h.length.0 0)))

-- A confirmed length of zero: nothing held.
abbrev pub is_none : Place → Bool
is_none p = eqb p.0 0

-- Itself and less than a majority among the voters, all in 1..N.
unfoldable pub voters_in : Who → List Bool → Bool
voters_in w vs =
    get_or vs (w.own - 1) false && (ltb (count (λ v. v) vs) (majority w.size) && all not (drop w.size vs))

-- Confirmed lengths at most n, its own equal to it, zero for numbers above N.
unfoldable pub confirmed_in : Who → ℕ → List Place → Bool
confirmed_in w n ps =
    all (λ p. leb p.0 n) ps && (eqb (get_or ps (w.own - 1) (place 0)).0 n && all is_none (drop w.size ps))

-- Nothing held in the lost parts.
unfoldable pub follower_head : Head → Bool
follower_head h = eqb h.gathered.0 0 && (all not h.voters && all is_none h.confirmed)

-- Ballot below term; gathered pairs for the places just after its log, to the limit at most; voters; no confirmed lengths.
unfoldable pub candidate_head : Who → Head → Bool
candidate_head w h =
    ltb h.ballot.0 h.term.0
    && (leb (h.length.0 + h.gathered.0) limit && (voters_in w h.voters && all is_none h.confirmed))

-- Ballot = term ≥ 1; no voters, nothing gathered; confirmed lengths.
unfoldable pub leader_head : Who → Head → Bool
leader_head w h =
    eqb h.ballot.0 h.term.0
    && (leb 1 h.term.0
    && (eqb h.gathered.0 0 && (all not h.voters && confirmed_in w h.length.0 h.confirmed)))

-- What the role with this number asks of the head. There are three roles.
unfoldable pub role_head : Who → ℕ → Head → Bool
role_head w zero h = follower_head h
role_head w (suc zero) h = candidate_head w h
role_head w (suc (suc zero)) h = leader_head w h
role_head w (suc (suc (suc n))) h = false
