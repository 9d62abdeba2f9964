-- `head::put_voters` meets its contract. The loop's invariant: the voters before `i` are written. Assumes nothing.
use Prim.Native.Nat.{ℕ, ◌+◌, ◌*◌}
use mathlib.Core.Path.{◌≡◌, refl, sym, ◌∙◌, ap}
use mathlib.Core.Bool.{Bool, true, false, cond}
use mir.Val.{bool_byte}
use mathlib.Core.List.{List}
use native.Mathlib.Omega.{arith}
use lib.ListN.{length, take, get_or, set}
use lib.Seq.{sets, take_all}
use borrow.Author.Rules.{rules}
use Rattle.rows.specs.Rows.{bytes_of}
use Rattle.rows.proofs.ListLaws.{bytes_of_put}
use Rattle.state.proofs.HeadLaws.{flag_bytes, flags_bytes_of}
use Rattle.head.proofs.put_voters.Goals as goal

-- The byte of a test.
byte_is : (b : Bool) → bool_byte b ≡ cond b 1 0
byte_is true = refl
byte_is false = refl

-- Nothing is written yet.
pub loop-i-init : goal.loop-i-init
unfolding bytes_of
loop-i-init c = refl

-- One byte more.
pub loop-i-preserved : goal.loop-i-preserved
loop-i-preserved c =
    let vs = c.args.vs in
    let at = c.args.at in
    let i = c.loop-i.i in
    let long : length vs ≡ 7 = search rules in
    let one : at + i ≡ at + i * 1 = omega arith in
    ap (λ (b : ℕ). set c.loop-i.s (at + i) b) (c.from.ensures ∙ byte_is (get_or vs i false))
    ∙ ap (λ (j : ℕ). sets c.loop-i.s j (flag_bytes (get_or vs i false))) one
    ∙ ap (λ (s : List ℕ). sets s (at + i * 1) (flag_bytes (get_or vs i false))) c.loop-i.invariant
    ∙ bytes_of_put flag_bytes 1 (λ b. refl) c.args.s.now at vs i false (omega arith)

-- All seven are.
pub returns : goal.returns
returns c =
    let vs = c.args.vs in
    let long : length vs ≡ 7 = search rules in
    let whole : take c.loop-i.i vs ≡ vs = take_all c.loop-i.i vs (omega arith) in
    c.loop-i.invariant
    ∙ ap (λ (bs : List Bool). sets c.args.s.now c.args.at (bytes_of flag_bytes bs)) whole
    ∙ ap (sets c.args.s.now c.args.at) (sym (flags_bytes_of vs))
