-- Texts written one behind the other are their whole written. Assumes nothing.
use Prim.Native.Nat.{ℕ}
use native.Mathlib.Omega.{arith}
use mathlib.Core.Path.{refl, ◌∙◌}
use mathlib.Core.List.{List, [], ◌++◌}
use lib.ListN.{length-append}
use Rattle.text.proofs.WroteLaws.{sets_append}
use Rattle.output.specs.Added.{Added}
use Rattle.output.specs.declared.Output.{Output}

-- Two texts.
pub added_then : {o p q : Output} {a b : List ℕ} → Added o a p → Added p b q → Added o (a ++ b) q
added_then {o} {p} {q} {a} {b} v w =
    record {
      same = w.same ∙ v.same;
      at = omega (arith, v.at, w.at, length-append a b);
      kept = w.kept ∙ v.kept;
      text = w.text ∙ rw (sets_append a b o.bytes.now o.at, ← v.text, ← v.at);
    }

-- Nothing.
pub added_none : {o : Output} → Added o [] o
added_none = record { same = refl; at = omega arith; kept = refl; text = refl }

pub ruleset parts = (added_then, added_none)
