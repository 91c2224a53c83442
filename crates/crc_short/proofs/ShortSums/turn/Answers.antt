-- `crc_short::Short::turn` meets its contract. The first word, which meets a register, and the second leave their numbers' high halves, the third and
-- the last the low halves; what the last three leave is once for both.
use Rattle.std.proofs.Common.{arith, lit<}
use Rattle.std.proofs.lemmas.Nat.{xor_lt}
use Rattle.crc.proofs.FourLaws.{turned_list}
use Rattle.crc_short.specs.Turn.{reach}
use Rattle.crc_short.specs.TurnLaws.{low_bits, high_bits, shared_rest}
use Rattle.crc_short.proofs.ShortSums.turn.Goals as goal

pub returns : goal.returns
unfolding reach
returns c = let f = c.five-left.ensures in
    let words = c.fits-words in
    let both = c.args.both in
    let shared = shared_rest _ _ _ _ _ _
    (low_bits 64 _ _ _ (words 2) (f 0 (lit< tt)) c.low.ensures)
    (low_bits 32 _ _ _ (words 3) (f 4 (lit< tt)) c.low-2.ensures)
    (high_bits 32 _ _ _ (words 1) (f 3 (lit< tt)) c.ahead.ensures) in (
      turned_list _ _ _ _ c.told-words words (high_bits 64 _ _ _ (xor_lt 32 _ _ (omega arith) (words 0)) (f 1 (lit< tt)) c.ahead-2.ensures) shared,
      turned_list _ _ _ _ c.told-words words (high_bits 64 _ _ _ (xor_lt 32 _ _ (omega arith) (words 0)) (f 2 (lit< tt)) c.ahead-3.ensures) shared,
    )
