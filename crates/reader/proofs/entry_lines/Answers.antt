-- `reader::entry_lines` meets its contract: the part that the reader's answer names. Assumes nothing.
use mathlib.Core.Path.{refl, sym}
use native.Mathlib.Nat.{add-zero}
use Rattle.reader.proofs.AnswerLaws.{part_message, part_refused, part_within}
use Rattle.reader.proofs.PartLaws.{part_same, rest_part}
use Rattle.message.specs.Text.{read}
use Rattle.reader.proofs.entry_lines.Goals as goal

-- A message: its entry lines begin in the text and go to its end.
pub returns-in-Ok : goal.returns-in-Ok
returns-in-Ok c =
    let s = c.args.s in
    let told = c.read_message.ensures in
    let within = part_within s.now told.place (read s.now) c.read_message.result told.answer c.in-Ok.is in
    part_same s c.lines_of.result _ _ _ _ (rest_part s c.lines_of.result _ within c.lines_of.ensures)
    (part_message s.now told.place (read s.now) c.read_message.result told.answer c.in-Ok.is)

-- A refusal.
pub returns-in-Err : goal.returns-in-Err
returns-in-Err c =
    let s = c.args.s in
    let told = c.read_message.ensures in
    part_same s _ 0 0 _ _ (record { bytes = refl; block = refl; place = sym (add-zero _) })
    (part_refused s.now told.place (read s.now) c.read_message.result told.answer c.in-Err.is)
