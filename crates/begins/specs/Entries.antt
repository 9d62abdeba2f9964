-- Entry lines, and whole messages, sought. Assumes nothing.
use Rattle.std.specs.Prelude.{ℕ, zero, suc, List, [], ◌∷◌}
use Rattle.text.specs.Line.{LF}
use Rattle.command.specs.Command.{Command}
use Rattle.command.specs.Entry.{Entry}
use Rattle.message.specs.Message.{Message}
use Rattle.message.specs.Fields.{fields, unset, count_in, message_of}
use Rattle.message.specs.Opening.{Opening}
use Rattle.message.specs.Text.{entry=}
use Rattle.message.specs.Range.{low_in, high_in}
use Rattle.begins.specs.Seek.{found, Seeker, ◌>>=◌, ◌>>◌, seek_literal}
use Rattle.begins.specs.Digits.{seek_number}
use Rattle.begins.specs.Lines.{seek_lines}
use Rattle.begins.specs.Types.{seek_type}
use Rattle.begins.specs.Commands.{seek_hex, motor_range, kind_range, duration_range, a_range, b_range, made}

-- The numbers of a command behind its motor and kind.
unfoldable pub seek_rest : ℕ → ℕ → Seeker Command
seek_rest motor kind = do
  duration ← seek_hex 8 (duration_range kind)
  a ← seek_hex 8 (a_range kind)
  b ← seek_hex 8 (b_range kind)
  found (made motor kind duration a b)

-- A legal command.
unfoldable pub seek_command : Seeker Command
seek_command = do
  motor ← seek_hex 4 motor_range
  kind ← seek_hex 4 kind_range
  seek_rest motor kind

-- An entry whose term lies in low..high and whose command is legal. (58 is the colon.)
unfoldable pub seek_entry : ℕ → ℕ → Seeker Entry
seek_entry low high = do
  seek_literal entry=
  term ← seek_number low high 58
  command ← seek_command
  seek_literal LF
  found (record { term = term; command = command })

-- So many entries, their terms from low on and never falling.
unfoldable pub seek_entries : ℕ → ℕ → ℕ → Seeker (List Entry)
seek_entries zero low high = found []
seek_entries (suc n) low high = do
  e ← seek_entry low high
  es ← seek_entries n e.term high
  found (e ∷ es)

-- All lines before the entries.
unfoldable pub seek_opening : Seeker Opening
seek_opening = do
  t ← seek_type
  ns ← seek_lines t (fields t) unset
  found (record { type = t; numbers = ns })

-- The entries behind an opening.
unfoldable pub seek_after : Opening → Seeker (List Entry)
seek_after o = seek_entries (count_in o.type o.numbers) (low_in o.type o.numbers) (high_in o.type o.numbers)

-- A whole message.
unfoldable pub seek_message : Seeker Message
seek_message = do
  o ← seek_opening
  es ← seek_after o
  found (message_of o.type o.numbers es)
