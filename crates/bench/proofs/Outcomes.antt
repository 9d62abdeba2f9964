-- The examples of every outcome, computed: the rows on values, and carried over to whole calls; of bytes, that an event sees no state in them.
-- Assumes nothing.
use mathlib.Core.Path.{◌≡◌, refl}
use mathlib.Core.Bool.{Bool, true, false, ◌&&◌}
use mathlib.Core.List.{List, [], ◌∷◌}
use mathlib.Core.Option.{Option, none, some}
use Rattle.kinds.proofs.BoolLaws.{and_first, and_second}
use Rattle.kinds.specs.Sizes.{between, Who, is_size, is_hub}
use Rattle.kinds.specs.Event.{restart_number}
use Rattle.state.specs.State.{State}
use Rattle.state.specs.Legal.{all}
use Rattle.state.specs.Image.{image}
use Rattle.rules.specs.Events.{restart}
use Rattle.rules.specs.Step.{Event, restart_event, event_of, over, written, answer, seen_by}
use Rattle.rules.specs.Happens.{to_restart, happens, occasion_of}
use Rattle.rules.proofs.Computed.{computed}
use Rattle.rules.proofs.StepLaws.{step_is_what_happens, unseen_refused}
use Rattle.rules.proofs.Values.{comes_out, all_hold}
use Rattle.bench.specs.Outcomes.{examples, BytesRow, at, call_at, BadState, AllBad, bad_bytes, scrambled, comes_back, ScrambledComesBack, ExamplesHold}

on_values : all comes_out examples ≡ true
unfolding computed examples
on_values = refl

-- ---- bytes

abbrev who_of : BytesRow → Who
who_of r = record { size = 3; own = r.hub }

is_none : Option State → Bool
is_none none = true
is_none (some s) = false

is_none_lem : (x : Option State) → is_none x ≡ true → x ≡ none
unfolding is_none
is_none_lem none h = refl
is_none_lem (some s) h = cc

-- Whether the event is one, and sees no state in the bytes.
is_blind : BytesRow → Option Event → Bool
is_blind r none = false
is_blind r (some e) = is_hub 3 r.hub && is_none (seen_by (who_of r) e r.bytes)

is_unseen : BytesRow → Bool
is_unseen r = is_blind r (event_of r.event)

blind : (r : BytesRow) (x : Option Event) → event_of r.event ≡ x → is_blind r x ≡ true → BadState r
unfolding is_blind is_size
blind r none e h input output = cc
blind r (some v) e h input output =
    let hub = is_hub 3 r.hub in
    let unseen = is_none (seen_by (who_of r) v r.bytes) in
    unseen_refused (call_at r input output) v e refl (and_first hub unseen h) (is_none_lem (seen_by (who_of r) v r.bytes) (and_second hub unseen h))

all_bad : (rs : List BytesRow) → all is_unseen rs ≡ true → AllBad rs
unfolding all is_unseen
all_bad [] h = tt
all_bad (r ∷ rs) h =
    (blind r (event_of r.event) refl (and_first (is_unseen r) (all is_unseen rs) h), all_bad rs (and_second (is_unseen r) (all is_unseen rs) h))

unseen : all is_unseen bad_bytes ≡ true
unfolding computed bad_bytes is_unseen is_blind is_none
unseen = refl

-- ---- a restart

seen : seen_by (who_of (at 1 restart_number [])) restart_event (image scrambled) ≡ some comes_back
unfolding computed
seen = refl

comes_back_lem : ScrambledComesBack
unfolding is_size is_hub between event_of happens occasion_of answer written over restart
comes_back_lem input output room =
    step_is_what_happens (call_at (at 1 restart_number (image scrambled)) input output) restart_event comes_back to_restart refl refl refl seen room refl

-- Every outcome, both stale replies and the four shortcuts.
pub examples_hold : ExamplesHold
examples_hold = record { rows = all_hold examples on_values; bytes = all_bad bad_bytes unseen; restart = comes_back_lem }
