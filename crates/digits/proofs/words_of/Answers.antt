-- `digits::words_of` meets its contract: 32 digits stand there, and each eight of them make a word. Assumes nothing.
use Rattle.digits.proofs.TextLaws.{read_stand, words_found}
use Rattle.digits.proofs.words_of.Goals as goal

pub returns : goal.returns
returns c =
    words_found c.args.s.now c.args.at (read_stand _ _ c.requires.1)
    c.get64.ensures c.word_of.ensures c.get64-2.ensures c.word_of-2.ensures
    c.get64-3.ensures c.word_of-3.ensures c.get64-4.ensures c.word_of-4.ensures
