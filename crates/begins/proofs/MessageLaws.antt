-- A message's opening, and a whole message, are sought exactly. Assumes nothing.
use Prim.Native.Nat.{ℕ}
use mathlib.Core.Path.{◌≡◌, refl, sym, ◌∙◌, ap}
use mathlib.Core.List.{List, []}
use Rattle.text.specs.Reader.{Got, got, Reader, onward, pure, literal, ◌>>=◌}
use Rattle.text.proofs.ReaderLaws.{got_same, onward_got, onward_same, onward-assoc, onward_sound}
use Rattle.command.specs.Entry.{Entry}
use Rattle.message.specs.Message.{Message}
use Rattle.message.specs.Fields.{MessageType, fields, unset, count_in, message_of}
use Rattle.message.specs.Opening.{Opening, type_line, opening}
use Rattle.message.specs.Text.{type=, type_among, types}
use Rattle.message.specs.Range.{low_in, high_in, lines_in, entries_in, message_in}
use Rattle.begins.specs.Seek.{found}
use Rattle.begins.specs.Lines.{seek_lines}
use Rattle.begins.specs.Types.{seek_type}
use Rattle.begins.specs.Entries.{seek_opening, seek_after, seek_message}
use Rattle.begins.proofs.Seeks.{Seeks, seeks_then, seeks_pure, seeks_same}
use Rattle.begins.proofs.LinesLaws.{Open, open_all, seeks_lines, lines_open}
use Rattle.begins.proofs.TypesLaws.{seeks_type}
use Rattle.begins.proofs.EntriesLaws.{seeks_entries}

abbrev opening_of : MessageType → List ℕ → Opening
opening_of t ns = record { type = t; numbers = ns }

-- ---- an opening

-- What is read behind the line `type`.
abbrev lines_of : MessageType → Reader Opening
lines_of t = ◌>>=◌ (lines_in t (fields t) unset) (λ ns. pure (opening_of t ns))

-- All lines before the entries.
pub seeks_opening : Seeks opening seek_opening
unfolding opening seek_opening
seeks_opening =
    seeks_then type_line lines_of seek_type _ seeks_type
    (λ t u e. seeks_then (lines_in t (fields t) unset) (λ ns. pure (opening_of t ns)) (seek_lines t (fields t) unset) (λ ns. found (opening_of t ns))
    (seeks_lines t (fields t) unset (open_all t)) (λ ns u e. seeks_pure (opening_of t ns)))

-- What is read leaves the entries open.
pub opening_open : (s : List ℕ) {o : Opening} {rest : List ℕ} → opening s ≡ got o rest → Open o.type [] o.numbers
unfolding opening
opening_open s e =
    let t = onward_sound e in
    let n = onward_sound t.next in
    got_same (λ o r. Open o.type [] o.numbers) n.next (lines_open t.value (fields t.value) unset t.left (open_all t.value) n.first)

-- ---- a message

-- The entries behind an opening, read.
unfoldable pub entries_after : Opening → Reader (List Entry)
entries_after o = entries_in (count_in o.type o.numbers) (low_in o.type o.numbers) (high_in o.type o.numbers)

abbrev finished : Opening → List Entry → Reader Message
finished o es = pure (message_of o.type o.numbers es)

abbrev finish : Opening → Reader Message
finish o = ◌>>=◌ (entries_after o) (finished o)

-- All lines of a type, and what follows them.
lines_finish : (t : MessageType) (s : List ℕ) → onward (lines_in t (fields t) unset s) (λ ns. finish (opening_of t ns)) ≡ onward (lines_of t s) finish
lines_finish t s =
    onward_same (lines_in t (fields t) unset s) (λ ns r. sym (onward_got finish refl))
    ∙ sym (onward-assoc (lines_in t (fields t) unset s) (λ ns. pure (opening_of t ns)) finish)

-- A message is an opening and the entries behind it.
pub message_in_opening : (s : List ℕ) → message_in s ≡ onward (opening s) (λ o. ◌>>=◌ (entries_after o) (λ es. pure (message_of o.type o.numbers es)))
unfolding message_in opening type_line entries_after
message_in_opening s =
    onward_same (literal type= s) (λ a r. onward_same (type_among types r) (λ t q. lines_finish t q))
    ∙ onward_same (literal type= s) (λ a r. sym (onward-assoc (type_among types r) lines_of finish))
    ∙ sym (onward-assoc (literal type= s) (λ a r. onward (type_among types r) lines_of) finish)
    ∙ ap (λ (g : Got Opening). onward g finish) (sym (onward-assoc (literal type= s) (λ a. type_among types) lines_of))

-- The entries behind an opening that leaves them open.
pub seeks_after : (o : Opening) → Open o.type [] o.numbers → Seeks (entries_after o) (seek_after o)
unfolding entries_after seek_after
seeks_after o h = seeks_entries (count_in o.type o.numbers) (low_in o.type o.numbers) (high_in o.type o.numbers) h

-- A whole message.
pub seeks_message : Seeks message_in seek_message
unfolding seek_message
seeks_message =
    seeks_same (◌>>=◌ opening finish) message_in seek_message (λ s. sym (message_in_opening s))
    (seeks_then opening finish seek_opening _ seeks_opening
    (λ o u e. seeks_then (entries_after o) (finished o) (seek_after o) (λ es. found (message_of o.type o.numbers es)) (seeks_after o (opening_open u e))
    (λ es u e. seeks_pure (message_of o.type o.numbers es))))
