-- When what is kept of a state has changed, so that firmware has to store it. Assumes nothing.
use Rattle.std.specs.Prelude.{◌≡◌, length}
use Rattle.kinds.specs.Sizes.{Who}
use Rattle.state.specs.State.{State}
use Rattle.rules.specs.Happens.{Occasion, happens, Meets}

-- From any legal state, whatever the event: with the same term, ballot and length the log is the same. So who compares term, ballot, chosen and
-- length, the first 16 bytes of a state, knows whether there is anything to store.
abbrev pub ChangeShows : Type 0
ChangeShows =
    (w : Who) (s : State) (o : Occasion) → Meets w s o
    → let k = s.kept in
    let next = (happens w s o).state.kept in
    next.term ≡ k.term → next.ballot ≡ k.ballot → length next.log ≡ length k.log → next.log ≡ k.log
