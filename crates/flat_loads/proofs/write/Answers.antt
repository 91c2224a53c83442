-- `flat_loads::write`: where the words have a place they are taken there, else the write is any.
use Rattle.std.proofs.Common.{arith}
use Rattle.flat_loads.proofs.Laws.{fits_word, fits_words, writes_word, writes_words}
use Rattle.flat_loads.proofs.write.Goals as goal

pub take_word-requires : goal.take_word-requires
take_word-requires c = fits_word _ _ c.args.words.now _ c.in-Some.ensures (omega arith)

pub returns-in-len1 : goal.returns-in-len1
returns-in-len1 c = writes_word _ _ c.args.words.now _ c.in-Some.ensures _ _ _ (omega arith) c.take_word.ensures

pub take_words-requires : goal.take_words-requires
take_words-requires c = fits_words _ _ _ _ c.in-Some.ensures

pub returns-in_default-words : goal.returns-in_default-words
returns-in_default-words c = writes_words _ _ _ _ c.in-Some.ensures _ _ _ c.take_words.ensures
