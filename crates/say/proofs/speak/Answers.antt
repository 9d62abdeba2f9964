-- `say::speak` meets its contract: the fields and the rows from the place on are handed over, and what is written is the message. Assumes nothing.
use mathlib.Core.Path.{refl}
use native.Mathlib.Omega.{arith}
use Rattle.say.proofs.SpokenLaws.{spoken_inside, spoken_puts, spoken_said}
use Rattle.say.proofs.speak.Goals as goal

-- The row of the place lies within the bytes.
pub slice_bounds-put_message-count : goal.slice_bounds-put_message-count
slice_bounds-put_message-count c =
    omega (arith, spoken_inside _ _ _ c.args.hub.now.tested c.args.to _ _ _ c.requires)

-- So the part that is lent starts there.
pub slice_bounds-put_message-start : goal.slice_bounds-put_message-start
slice_bounds-put_message-start c = omega (arith, spoken_inside _ _ _ c.args.hub.now.tested c.args.to _ _ _ c.requires)

-- The message may be written.
pub put_message-requires : goal.put_message-requires
put_message-requires c =
    spoken_puts _ _ _ c.args.hub.now.tested c.args.to c.args.body _ _ c.requires c.args.hub.now.caller.own refl c.row_after-row.ensures

-- It is what the hub says.
pub returns : goal.returns
returns c =
    spoken_said _ _ _ c.args.hub.now.tested c.args.to c.args.body _ _ c.requires c.args.hub.now.caller.own refl c.row_after-row.ensures c.put_message.ensures
