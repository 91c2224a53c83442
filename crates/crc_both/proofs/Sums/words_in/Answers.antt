use Rattle.crc.proofs.FourLaws.{chunk_more}
use Rattle.crc_both.proofs.Sums.words_in.Goals as goal

pub loop-turn-preserved : goal.loop-turn-preserved
loop-turn-preserved g c =
    let l = c.loop-turn in
    let k = c.as_chunks.ensures in (
      chunk_more _ _ _ c.args.words.now _ _ l.turn-index k.front k.front_len c.loop-turn-test.true c.turn-x.ensures.0 l.invariant.0,
      chunk_more _ _ _ c.args.words.now _ _ l.turn-index k.front k.front_len c.loop-turn-test.true c.turn-x.ensures.1 l.invariant.1,
    )
