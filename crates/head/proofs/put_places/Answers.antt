-- `head::put_places` meets its contract. The loop's invariant: the places before `i` are written. Assumes nothing.
use Prim.Native.Nat.{ℕ, ◌+◌, ◌*◌}
use mathlib.Core.Path.{◌≡◌, refl, ◌∙◌, ap}
use mathlib.Core.List.{List}
use native.Mathlib.Omega.{arith}
use lib.ListN.{length, get_or}
use lib.Seq.{sets}
use borrow.Author.Rules.{rules}
use Rattle.kinds.specs.Of.{place}
use Rattle.rows.specs.Rows.{bytes_of}
use Rattle.state.specs.Head.{place_bytes}
use Rattle.rows.proofs.ListLaws.{bytes_of_put}
use Rattle.state.proofs.HeadLaws.{place_bytes_length}
use Rattle.head.proofs.put_places.Goals as goal

-- Nothing is written yet.
pub loop-i-init : goal.loop-i-init
unfolding bytes_of
loop-i-init c = refl

-- One place more.
pub loop-i-preserved : goal.loop-i-preserved
loop-i-preserved c =
    let ps = c.args.ps in
    let at = c.args.at in
    let i = c.loop-i.i in
    let long : length ps ≡ 7 = search rules in
    rw c.into.ensures at c.put32.ensures
    ∙ ap (λ (s : List ℕ). sets s (at + i * 4) (place_bytes (get_or ps i (place 0)))) c.loop-i.invariant
    ∙ bytes_of_put place_bytes 4 place_bytes_length c.args.s.now at ps i (place 0) (omega arith)
