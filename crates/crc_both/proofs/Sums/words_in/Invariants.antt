-- `crc_both::Sums::words_in` meets its contract. The loop's invariant: what the turns leave of the words makes of each register of x what all of them make of the
-- one that came.
use Rattle.std.proofs.Common.{◌≡◌, ◌*◌, drop}
use Rattle.crc.specs.Crc.{words_in}
use Rattle.crc_both.proofs.Sums.words_in.Given as goal

abbrev pub invariant-loop-turn : goal.invariant-loop-turn
invariant-loop-turn g l =
    (words_in l.x.block (drop (l.turn-index * 4) l.words) ≡ words_in l.initial.x.block l.words) × (words_in l.x.stream (drop (l.turn-index * 4) l.words) ≡ words_in l.initial.x.stream l.words)
