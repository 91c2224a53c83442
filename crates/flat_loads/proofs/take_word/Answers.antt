-- `flat_loads::take_word`: the word stored, and the state moved over it.
use Rattle.std.proofs.Common.{refl}
use Rattle.crc.specs.Crc.{words_in}
use Rattle.flat_loads.proofs.Laws.{takes}
use Rattle.flat_loads.proofs.take_word.Goals as goal

pub returns : goal.returns
unfolding words_in
returns c = takes _ _ _ _ _ _ _ _ c.sums_of.ensures c.word_in_both-sums.ensures c.move_on.ensures refl
