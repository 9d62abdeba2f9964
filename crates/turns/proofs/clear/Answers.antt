-- `turns::clear` meets its contract: the part that is filled stands in its place. Assumes nothing.
use Prim.Native.Nat.{ℕ, ◌+◌, ◌-◌, ◌≤◌}
use Rattle.std.proofs.Common.{append_assoc}
use mathlib.Core.Path.{◌≡◌, sym, ◌∙◌, ap}
use mathlib.Core.List.{List}
use native.Mathlib.Omega.{arith}
use lib.ListN.{length, replicate, length-replicate}
use lib.Seq.{sets, sets-eq}
use borrow.Rule.Slice.PartMut.{put_mid, mid_len, Post-is}
use Rattle.turns.proofs.clear.Goals as goal

-- A part that is put back is written over the list.
put_sets : (s zs : List ℕ) (from to : ℕ) → from ≤ to → to ≤ length s → length zs ≡ to - from → put_mid from (to - from) s zs ≡ sets s from zs
put_sets s zs from to low high long =
    let many : from + length zs ≡ to = omega arith in
    sym (sets-eq zs s from (omega arith) ∙ rw (many, append_assoc, Post-is from to s low))

pub returns : goal.returns
returns c =
    let zeros : List ℕ = replicate (c.args.to - c.args.from) 0 in
    let filled = c.fill.ensures.after (λ y e. e) ∙ ap (λ (n : ℕ). replicate n 0) (mid_len c.args.from c.args.to c.args.s.now c.requires.1) in
    ap (put_mid c.args.from (c.args.to - c.args.from) c.args.s.now) filled
    ∙ put_sets c.args.s.now zeros c.args.from c.args.to c.requires.0 c.requires.1 (length-replicate (c.args.to - c.args.from) 0)
