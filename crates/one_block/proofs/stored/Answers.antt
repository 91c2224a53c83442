-- `one_block::stored`: what was stored and summed is the machine's run.
use Rattle.std.proofs.Common.{refl, arith}
use Rattle.stream.proofs.StatesLaws.{so}
use Rattle.one_block.proofs.Laws.{data_run}
use Rattle.one_block.proofs.stored.Goals as goal

pub returns : goal.returns
returns c = so
    (data_run c.args.load c.args.image.now c.args.words.now _ _ _ _ c.requires.words_nonzero.2 c.requires.words_nonzero.0 c.requires.words_nonzero.1 (omega arith) c.place_of-place.ensures.0
    c.copy.ensures
    c.requires.block_value.1
    c.requires.block_value.0)
    (record { state = c.filling.ensures; kept = refl })
