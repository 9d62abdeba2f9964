-- Everything that the place of a message's text computes by, opened once. Assumes nothing.
use Prim.Native.Nat.{ℕ}
use mathlib.Core.List.{List}
use Rattle.kinds.specs.Sizes.{between, limit}
use Rattle.message.specs.Fields.{own_fields, fields, count_in}
use Rattle.message.specs.Text.{types}
use Rattle.message.specs.Range.{range, low_in, high_in}
use Rattle.begins.specs.Seek.{on, rest_of, place_of, seek_literal}
use Rattle.begins.specs.Digits.{fits, grows, seek_end, seek_more, seek_number, seek_fixed}
use Rattle.begins.specs.Lines.{seek_line, seek_lines}
use Rattle.begins.specs.Types.{later, seek_types, seek_type}
use Rattle.begins.specs.Commands.{digit_of, seek_hex, duration_range, a_range, b_range}
use Rattle.begins.specs.Entries.{seek_rest, seek_command, seek_entry, seek_entries, seek_opening, seek_after, seek_message}

-- The place that the seeker of messages finds.
unfoldable pub computed : List ℕ → ℕ
unfolding between limit own_fields fields count_in types range low_in high_in on rest_of place_of seek_literal
    fits grows seek_end seek_more seek_number seek_fixed seek_line seek_lines
    later seek_types seek_type digit_of seek_hex duration_range a_range b_range
    seek_rest seek_command seek_entry seek_entries seek_opening seek_after seek_message
computed s = place_of seek_message s
