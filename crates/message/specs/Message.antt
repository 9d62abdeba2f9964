-- A message between hubs, of one of six types (rule R28). How it is written is no matter of this file. Assumes nothing.
use Rattle.std.specs.Prelude.{ℕ, List, []}
use Rattle.command.specs.Entry.{Entry}

-- What a message of each type says beside its term, from and to. The count that is written is the number of entries.
pub data Body : Type 0 where
  vote_request : ℕ → ℕ → Body  -- last, ballot
  vote_yes : ℕ → ℕ → List Entry → Body  -- last, ballot, entries
  vote_no : Body
  append : ℕ → ℕ → ℕ → List Entry → Body  -- prev, prevterm, chosen, entries
  append_yes : ℕ → Body  -- end
  append_no : ℕ → Body  -- length

pub record Message : Type 0 where
  pub term : ℕ
  pub from : ℕ
  pub to : ℕ
  pub body : Body

-- The entries of a message: none but in a vote-yes and an append.
unfoldable pub entries_of : Body → List Entry
entries_of (vote_request last ballot) = []
entries_of (vote_yes last ballot entries) = entries
entries_of vote_no = []
entries_of (append prev prevterm chosen entries) = entries
entries_of (append_yes end) = []
entries_of (append_no length) = []
