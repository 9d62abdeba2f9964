-- `head::put_hubs` meets its contract: the places stand behind the voters. Assumes nothing.
use Prim.Native.Nat.{◌+◌}
use mathlib.Core.Path.{◌≡◌, ◌∙◌, ap}
use mathlib.Core.List.{List}
use Prim.Native.Nat.{ℕ}
use native.Mathlib.Omega.{arith}
use lib.ListN.{length}
use lib.Seq.{sets}
use borrow.Author.Rules.{rules}
use Rattle.rows.specs.Rows.{bytes_of}
use Rattle.state.specs.Image.{flags}
use Rattle.state.specs.Head.{place_bytes}
use Rattle.rows.proofs.ListLaws.{sets_then}
use Rattle.state.proofs.HeadLaws.{flags_length}
use Rattle.head.proofs.put_hubs.Goals as goal

pub returns : goal.returns
returns c =
    let vs = c.args.vs in
    let places = bytes_of place_bytes c.args.ps in
    let at = c.args.at in
    let long : length vs ≡ 7 = search rules in
    c.put_places.ensures
    ∙ ap (λ (l : List ℕ). sets l (at + 7) places) c.put_voters.ensures
    ∙ sets_then c.args.s.now at (at + 7) (flags vs) places (omega (arith, flags_length vs))
