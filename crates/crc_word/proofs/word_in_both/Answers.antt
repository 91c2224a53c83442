use Rattle.std.proofs.Common.{sym, ◌∙◌, arith}
use Rattle.crc.proofs.Laws.{word_in_bits}
use Rattle.crc_word.proofs.word_in_both.Goals as goal

pub returns : goal.returns
returns c = let a = c.args in
    let taken = c.loop-r.invariant.taken in (
      taken 0 (omega arith) ∙ sym (word_in_bits a.both.block a.w c.ranges.w.fits),
      taken 1 (omega arith) ∙ sym (word_in_bits a.both.stream a.w c.ranges.w.fits),
    )
