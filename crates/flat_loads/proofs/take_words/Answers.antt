-- `flat_loads::take_words`: the words stored, and the state moved over them.
use Rattle.flat_loads.proofs.Laws.{takes}
use Rattle.flat_loads.proofs.take_words.Goals as goal

pub returns : goal.returns
returns c = takes _ _ _ _ _ _ _ _ c.sums_of.ensures c.words_in_both-sums.ensures c.move_on.ensures c.copy.ensures
