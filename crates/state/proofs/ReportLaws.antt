-- Laws of what a hub reports at a place. Assumes nothing.
use Prim.Native.Nat.{ℕ, zero, suc, ◌<◌}
use native.Mathlib.Omega.{arith}
use mathlib.Core.Path.{◌≡◌, ap}
use mathlib.Core.Bool.{true}
use mathlib.Core.Option.{Option, none, some}
use lib.ListN.{take, get_elem?, length-take, length-map}
use Rattle.kinds.specs.Sizes.{Who}
use Rattle.kinds.proofs.AtLaws.{at_out, in_take, in_map}
use Rattle.command.specs.Entry.{Entry}
use Rattle.state.specs.State.{Kept, State, reported_by, reported_at}
use Rattle.state.specs.Legal.{legal_state}
use Rattle.state.specs.Image.{image, reported_in}
use Rattle.state.proofs.ImageLaws.{read_kept_image}

-- There is none past what is chosen.
pub reported_at_past : (k : Kept) (p : ℕ) → k.chosen < p → reported_at k p ≡ none
unfolding reported_at reported_by
reported_at_past k zero h = absurd (omega arith)
reported_at_past k (suc i) h =
    let shown = take k.chosen k.log in
    at_out (reported_by k) i (omega (arith, length-map shown (λ (e : Entry). e.command), length-take k.chosen k.log))

-- Up to there it is the command of the entry.
pub reported_at_entry : (k : Kept) (i : ℕ) (e : Entry) → i < k.chosen → get_elem? k.log i ≡ some e → reported_at k (suc i) ≡ some e.command
unfolding reported_at reported_by
reported_at_entry k i e chosen is =
    in_map (λ (x : Entry). x.command) (take k.chosen k.log) i e (in_take k.chosen k.log i e chosen is)

-- The bytes of a legal state report what it does.
pub reported_in_image : (w : Who) (s : State) → legal_state w s ≡ true → (p : ℕ) → reported_in (image s) p ≡ reported_at s.kept p
unfolding reported_in
reported_in_image w s legal p = ap (λ (x : Option Kept). elim x [ none ↦ none | some k ↦ reported_at k p ]) (read_kept_image w s legal)
