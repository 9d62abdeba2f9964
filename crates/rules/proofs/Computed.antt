-- Everything that a worked case computes by, opened once. Assumes nothing.
use mathlib.Core.Bool.{Bool}
use Rattle.kinds.specs.Sizes.{between, is_size, is_hub, limit, text_room}
use Rattle.text.specs.Decimal.{digits, decimal, more_digits, number}
use Rattle.text.specs.Hex.{hex_digit, hex, nibble, hex_byte, hex_bytes}
use Rattle.text.specs.Line.{line_text, line}
use Rattle.text.specs.Reader.{onward, literal, whole}
use Rattle.command.specs.Command.{is_gain, is_duration, is_zero, is_stop, is_buzz, is_ramp, legal_command, command_bytes, command_of}
use Rattle.command.specs.Entry.{legal_entries}
use Rattle.command.specs.Proposal.{proposable, is_proposal, read_proposal}
use Rattle.command.specs.Words.{word, value, part, word_at, signed, unsigned}
use Rattle.message.specs.Fields.{own_fields, fields, type_of, own_numbers, numbers, count_in, body_of, message_of}
use Rattle.message.specs.Legal.{legal_to, legal_body, legal_message}
use Rattle.message.specs.Message.{entries_of}
use Rattle.message.specs.Text.{lines_text, entry_text, entries_text, text, type_among, types, lines, entry, entries, message, if_legal, read, part_from, part_to}
use Rattle.rows.specs.Rows.{bytes_of, row, rows_in}
use Rattle.state.specs.Image.{state_size, role_of, voters_of, gathered_of, confirmed_of, flags, head_bytes, image, kept_in, words_in, lost_in, state_in, read_state, read_kept}
use Rattle.state.specs.Legal.{all, count, legal_kept, legal_pair, legal_candidate, legal_leader, legal_lost, legal_state}
use Rattle.state.specs.State.{fresh, reported_by}
use Rattle.rules.specs.Events.{is_leader, is_candidate, term_at, says, with_term, leads, started, asks, start, with_entry, propose_leading, propose, sends, send, restart}
use Rattle.rules.specs.Majority.{confirmed_by, largest, majority_place}
use Rattle.rules.specs.Receive.{ballot_told, vote, gather, joined, counted, heard_yes, fits, replaced, taken, heard_append, recorded, heard_end, rule, is_misaddressed, is_request, is_stale, stale_reply, contradicts, follower_at, after_raise, at_own_term, receive}
use Rattle.rules.specs.Happens.{happens, received, occasion_of}
use Rattle.rules.specs.Row.{CaseRow}
use Rattle.rules.specs.Step.{event_of, refusal, over, written, answer, receiving, acting, kept_alone, seen_by, at_state, at_event, step_of}
use Rattle.kinds.specs.Same.{same}
use Rattle.state.specs.Table.{rows_of}
use Rattle.rules.proofs.Values.{one_image, comes_to, tested, agrees, comes_out}

-- `comes_out`: whoever unfolds this one has all the definitions below it unfolded.
unfoldable pub computed : CaseRow → Bool
unfolding between is_size is_hub limit text_room digits decimal more_digits number hex_digit hex nibble hex_byte hex_bytes line_text line onward literal whole is_gain is_duration is_zero is_stop is_buzz is_ramp legal_command command_bytes command_of legal_entries proposable is_proposal read_proposal word value part word_at signed unsigned own_fields fields type_of own_numbers numbers count_in body_of message_of legal_to legal_body legal_message entries_of lines_text entry_text entries_text text type_among types lines entry entries message if_legal read part_from part_to state_size role_of voters_of gathered_of confirmed_of flags bytes_of row head_bytes image rows_in kept_in words_in lost_in state_in same read_state read_kept all count legal_kept legal_pair legal_candidate legal_leader legal_lost legal_state fresh reported_by is_leader is_candidate term_at says with_term leads started asks start with_entry propose_leading propose sends send restart confirmed_by largest majority_place ballot_told vote gather joined counted heard_yes fits replaced taken heard_append recorded heard_end rule is_misaddressed is_request is_stale stale_reply contradicts follower_at after_raise at_own_term receive event_of refusal over written answer receiving acting kept_alone seen_by at_state at_event step_of happens received occasion_of rows_of one_image comes_to tested agrees comes_out
computed r = comes_out r
