-- `crc_both::words_in_both` meets its contract. The loop's invariant: what is left of the words makes of each register of x what all of them make of the one that came.
use Rattle.std.proofs.Common.{◌≡◌, drop}
use Rattle.crc.specs.Crc.{words_in}
use Rattle.crc_both.proofs.words_in_both.Given as goal

abbrev pub invariant-loop-w : goal.invariant-loop-w
invariant-loop-w l =
    (words_in l.x.block (drop l.w-index l.words) ≡ words_in l.initial.x.block l.words) × (words_in l.x.stream (drop l.w-index l.words) ≡ words_in l.initial.x.stream l.words)
