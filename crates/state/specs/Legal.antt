-- A legal state (rules R14 and R15): the kept parts alone, and with what each role holds, given N and the own number.
-- A list over the seven hubs has hub h at h - 1. Assumes nothing.
use Rattle.std.specs.Prelude.{ℕ, ◌+◌, ◌-◌, Bool, true, false, ◌&&◌, ◌||◌, not, List, leb, ltb, eqb, length, drop, get_or}
unfoldable pub use Rattle.kinds.specs.Hubs.{all, count}
use Rattle.kinds.specs.Sizes.{Who, hubs_most, majority, term_most, limit}
use Rattle.command.specs.Command.{legal_command}
use Rattle.command.specs.Entry.{legal_entries}
use Rattle.state.specs.State.{Kept, Pair, Lost, follower, candidate, leader, State}

-- ---- the kept parts

-- ballot ≤ term; chosen ≤ length ≤ the limit; an empty log if ballot is 0; entry terms at least 1, never falling, at most ballot; commands legal.
unfoldable pub legal_kept : Kept → Bool
legal_kept k =
    leb k.term term_most
    && (leb k.ballot k.term
    && (leb k.chosen (length k.log)
    && (leb (length k.log) limit
    && ((not (eqb k.ballot 0) || eqb (length k.log) 0) && legal_entries 1 k.ballot k.log))))

-- ---- what a role holds

-- Ballots at least 1 and below term, commands legal.
unfoldable pub legal_pair : ℕ → Pair → Bool
legal_pair term g = leb 1 g.ballot && (ltb g.ballot term && legal_command g.command)

-- Ballot below term; itself and less than a majority among the voters, all in 1..N; gathered pairs for the places just after its log, to the limit at most.
unfoldable pub legal_candidate : Who → Kept → List Bool → List Pair → Bool
legal_candidate w k voters gathered =
    ltb k.ballot k.term
    && (eqb (length voters) hubs_most
    && (get_or voters (w.own - 1) false
    && (ltb (count (λ v. v) voters) (majority w.size)
    && (all not (drop w.size voters)
    && (leb (length k.log + length gathered) limit && all (legal_pair k.term) gathered)))))

-- Ballot = term ≥ 1; confirmed lengths at most its length, its own equal to it, zero for numbers above N.
unfoldable pub legal_leader : Who → Kept → List ℕ → Bool
legal_leader w k confirmed =
    eqb k.ballot k.term
    && (leb 1 k.term
    && (eqb (length confirmed) hubs_most
    && (all (λ n. leb n (length k.log)) confirmed
    && (eqb (get_or confirmed (w.own - 1) 0) (length k.log) && all (λ n. eqb n 0) (drop w.size confirmed)))))

unfoldable pub legal_lost : Who → Kept → Lost → Bool
legal_lost w k follower = true
legal_lost w k (candidate voters gathered) = legal_candidate w k voters gathered
legal_lost w k (leader confirmed) = legal_leader w k confirmed

unfoldable pub legal_state : Who → State → Bool
legal_state w s = legal_kept s.kept && legal_lost w s.kept s.lost
