-- `crc_long::Long::turn` meets its contract: what the first word leaves with each register, and what the others leave, once for both.
use Rattle.crc.proofs.FourLaws.{turned_list}
use Rattle.crc_long.proofs.LongSums.turn.Goals as goal

pub returns : goal.returns
returns c =
    let first = c.args.self.now.are_tables.one in (
      turned_list _ _ _ _ c.told-words c.fits-words (c.look.ensures 3 first) c.others-shared.ensures,
      turned_list _ _ _ _ c.told-words c.fits-words (c.look-2.ensures 3 first) c.others-shared.ensures,
    )
