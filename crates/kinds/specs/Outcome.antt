-- The outcomes (rule R32): their numbers by name, in the order in which they are checked. Assumes nothing.
use Rattle.std.specs.Prelude.{ℕ}

-- Done.
abbrev pub done : ℕ
done = 0

-- N not 3, 5 or 7, own number not in 1..N, or an event kind that is not listed.
abbrev pub not_known : ℕ
not_known = 1

-- State bytes not of the layout's length, or state not legal.
abbrev pub bad_state : ℕ
bad_state = 2

-- Output too short, at every event.
abbrev pub short_output : ℕ
short_output = 3

-- Message text not as it has to be, or too long.
abbrev pub bad_message : ℕ
bad_message = 4

-- From above N or own; to neither own nor 0.
abbrev pub not_addressed : ℕ
not_addressed = 5

-- Term below own, or vote-request at own term.
abbrev pub stale : ℕ
stale = 6

-- Own term: append at a leader; append-yes beyond a leader's length; vote-yes at a candidate with last not its length or ballot above its own.
abbrev pub contradicting : ℕ
contradicting = 7

-- Start at a leader; propose or send at another role.
abbrev pub wrong_role : ℕ
wrong_role = 8

-- Start at the last term.
abbrev pub no_term_left : ℕ
no_term_left = 9

-- Proposed command not 16 bytes, not legal, or too short to feel.
abbrev pub bad_command : ℕ
bad_command = 10

-- Propose at a full log.
abbrev pub log_full : ℕ
log_full = 11

-- Send to a number outside 1..N or to itself, or prev above length.
abbrev pub out_of_range : ℕ
out_of_range = 12

-- A message of own term for which the rules change nothing in the state and write no message.
abbrev pub nothing_new : ℕ
nothing_new = 13

-- ---- of playing alone (rule R47), in the order in which they are checked there

-- Played bytes that are no legal command.
abbrev pub not_playable : ℕ
not_playable = 14

-- A calibration with a gain that is none, or with a floor above its ceiling.
abbrev pub bad_calibration : ℕ
bad_calibration = 15

-- An elapsed time out of range.
abbrev pub bad_elapsed : ℕ
bad_elapsed = 16
