-- A law of an output that is too short (docs/PORT.md names it). Assumes nothing.
use Prim.Native.Nat.{ℕ, ◌<◌}
use native.Mathlib.Omega.{arith}
use mathlib.Core.Path.{◌≡◌, refl}
use mathlib.Core.List.{List}
use borrow.Author.Tests.{lt-ltb}
use lib.ListN.{length}
use Rattle.std.specs.Prelude.{Err}
use Rattle.kinds.specs.Sizes.{text_room}
use Rattle.kinds.specs.declared.Refusal.TheVariants.{ShortOutput}
use Rattle.message.specs.declared.Fields.{Fields}
use Rattle.alone.specs.Written.{written_by, WritesText}

pub written_short : (f : Fields) (rows out : List ℕ) (room : ℕ) → room ≡ text_room → length out < room → WritesText (written_by f rows out) (Err ShortOutput) out
unfolding written_by
written_short f rows out room same h =
    rw (lt-ltb (length out) text_room (omega (arith, same, h))) (record { outcome_is = refl; bytes_is = refl; out_is = refl })
