-- What is legal of a message's fields (rule R30), in whatever form it is written. Assumes nothing.
use Rattle.std.specs.Prelude.{ℕ, ◌+◌, max, Bool, true, ◌&&◌, ◌||◌, not, leb, ltb, eqb, length}
use Rattle.std.specs.Bool.{beq}
use Rattle.kinds.specs.Sizes.{between, hubs_most, term_most, limit}
use Rattle.command.specs.Entry.{legal_entries}
use Rattle.message.specs.Message.{Message, Body, vote_request, vote_yes, vote_no, append, append_yes, append_no}

-- to = 0 for vote-request, else 1..7.
unfoldable pub legal_to : ℕ → Body → Bool
legal_to to (vote_request last ballot) = eqb to 0
legal_to to (vote_yes last ballot entries) = between 1 hubs_most to
legal_to to vote_no = between 1 hubs_most to
legal_to to (append prev prevterm chosen entries) = between 1 hubs_most to
legal_to to (append_yes end) = between 1 hubs_most to
legal_to to (append_no length) = between 1 hubs_most to

-- The fields of each type, of a message with this term. `last+count` and `prev+count` at most the limit bound their parts too.
unfoldable pub legal_body : ℕ → Body → Bool
legal_body term (vote_request last ballot) =
    leb last limit && (ltb ballot term && (not (eqb ballot 0) || eqb last 0))
legal_body term (vote_yes last ballot entries) =
    leb (last + length entries) limit
    && (ltb ballot term && ((not (eqb ballot 0) || eqb (length entries) 0) && legal_entries 1 ballot entries))
legal_body term vote_no = true
legal_body term (append prev prevterm chosen entries) =
    leb (prev + length entries) limit
    && (beq (eqb prevterm 0) (eqb prev 0)
    && (leb prevterm term && (leb chosen (prev + length entries) && legal_entries (max 1 prevterm) term entries)))
legal_body term (append_yes end) = leb end limit
legal_body term (append_no length) = leb length limit

-- term ≥ 1; from in 1..7; to and the fields as above.
unfoldable pub legal_message : Message → Bool
legal_message m =
    between 1 term_most m.term
    && (between 1 hubs_most m.from && (legal_to m.to m.body && legal_body m.term m.body))
