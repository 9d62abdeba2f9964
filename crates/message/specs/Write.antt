-- What is written: the message of the code's fields with the entries of rows. Assumes nothing.
use Rattle.std.specs.Prelude.{ℕ, ◌*◌, ◌≤◌, true, List, ◌≡◌, length}
use Rattle.kinds.specs.Sizes.{text_room, row_size}
use Rattle.message.specs.Message.{Message}
use Rattle.message.specs.Legal.{legal_message}
use Rattle.message.specs.Answer.{many_in, message_by}
use Rattle.message.specs.Rows.{row_entries}
use Rattle.message.specs.declared.Fields.{Fields}

-- The message of these fields, with the entries of the first rows.
unfoldable pub message_with : Fields → List ℕ → Message
message_with f rows = message_by f (row_entries (many_in f.body) rows)

-- What holds where a message is put into an output: it is legal, there are rows for its entries, and the output has an output's room.
pub record Puts (f : Fields) (rows out : List ℕ) : Type 0 where
  pub legal : legal_message (message_with f rows) ≡ true
  pub held : many_in f.body * row_size ≤ length rows
  pub room : text_room ≤ length out
