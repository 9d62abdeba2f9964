-- `in_hex::write_hex` meets its contract. The loop's invariant: the digits of the first i bytes are written. Assumes nothing.
use native.Mathlib.Omega.{arith}
use mathlib.Core.Path.{refl}
use borrow.Author.Rules.{rules}
use Rattle.text.specs.Hex.{hex}
use Rattle.text.proofs.WroteLaws.{hex_room, hex_again, hex_done}
use Rattle.in_hex.proofs.write_hex.Goals as goal

-- Nothing is written yet.
pub loop-i-init : goal.loop-i-init
unfolding hex
loop-i-init c = search (rules, hex_room)

-- Two more digits.
pub loop-i-preserved : goal.loop-i-preserved
loop-i-preserved c =
    let loop = c.loop-i in
    (loop.invariant.0, hex_again _ _ _ loop.i _ _ refl loop.invariant.1 c.loop-i-test.true _ _ c.hex_digit.ensures c.hex_digit-in-loop-i.ensures)

-- All of them.
pub returns : goal.returns
returns c =
    let loop = c.loop-i in
    hex_done _ _ _ loop.i _ _ (omega (arith, c.loop-i-test.false, loop.auto.i-end)) loop.invariant.1 (omega (arith, loop.auto.i-end)) c.loop-i-test.false
