-- What a write leaves in an output, and the room that it needs. Assumes nothing.
use Rattle.std.specs.Prelude.{ℕ, ◌+◌, ◌≤◌, List, ◌≡◌, length}
use Rattle.std.proofs.lemmas.List.Edits.{sets}
use Rattle.output.specs.declared.Output.{Output}

-- There is room for the text vs behind what is written.
abbrev pub Fits : Output → List ℕ → Type 0
Fits o vs = o.at + length vs ≤ length o.bytes.now

-- The text vs is written behind what was, in the same lent bytes, of which the others stay.
pub record Added (before : Output) (vs : List ℕ) (after : Output) : Type 0 where
  pub same : after.bytes.ghost_name ≡ before.bytes.ghost_name
  pub at : after.at ≡ before.at + length vs
  pub kept : length after.bytes.now ≡ length before.bytes.now
  pub text : after.bytes.now ≡ sets before.bytes.now before.at vs
