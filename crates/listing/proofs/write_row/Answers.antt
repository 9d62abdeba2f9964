-- `listing::write_row` meets its contract: term and command, between what stands about them. Assumes nothing.
use Rattle.std.proofs.Common.{rules, arith}
use Rattle.std.proofs.lemmas.Grind.{common_steps}
use Rattle.command.specs.Words.{part}
use Rattle.message.specs.Text.{entry_text}
use Rattle.output.proofs.AddedLaws.{parts}
use Rattle.listing.proofs.RowsLaws.{command_held}
use Rattle.listing.proofs.write_row.Goals as goal

-- There is room for the command,
pub hex-requires : goal.hex-requires
unfolding entry_text part
hex-requires c = let h = command_held c.args.row.now (λ i. omega (arith, c.type_inv.row i)) c.requires.whole in grind (arith, common_steps, h)

-- and for LF.
pub put-requires-3 : goal.put-requires-3
unfolding entry_text part
put-requires-3 c = let h = command_held c.args.row.now (λ i. omega (arith, c.type_inv.row i)) c.requires.whole in grind (arith, common_steps, h)

-- They are the line.
pub returns : goal.returns
unfolding entry_text part
returns c = let h = command_held c.args.row.now (λ i. omega (arith, c.type_inv.row i)) c.requires.whole in search (rules, parts, h)
